-- The words are stored, or read: two, or three.
use Rattle.std.proofs.Common.{length, sym, ap, subst, ◌∙◌, arith, eq-eqb, ne_eqb}
use Rattle.isa.specs.Instructions.{loads, storing}
use Rattle.isa.specs.Pages.{test_all, words_at}
use Rattle.isa.specs.declared.access.AccessKind.TheVariants.{Read, Write}
use Rattle.memory_words.specs.Accesses.{words_from}
use Rattle.exec_address.specs.Requests.{words_loaded}
use Rattle.exec_address.specs.declared.request.Request.TheVariants.{Several}
use Rattle.exec_memory.specs.Served.{several_kind}
use Rattle.exec_memory.proofs.RequestLaws.{AllRead, accesses_two, accesses_three, two_stored, three_stored_law}
use Rattle.exec_memory.proofs.RequestLaws.{two_loaded, three_loaded, several_stored, several_loaded, read_passed}
use Rattle.exec_memory.proofs.RequestLaws.{read_stopped, made_few, all_read, reads, fails}
use Rattle.exec_memory.proofs.several.words.Goals as goal

-- STD
pub returns-then-n-eq2-clause-served : goal.returns-then-n-eq2-clause-served
returns-then-n-eq2-clause-served c =
    let a = c.args in
    let two = eq-eqb _ _ c.if-n-eq2.true in
    let kind = ap several_kind c.if-store.true in
    let w = c.stored_more-w.result in
    c.store_several.ensures.stored (Several a.store a.n)
    (accesses_two a.store a.n Write a.x.alternate a.x.address kind two)
    (λ vs. sym (several_stored a.n c.if-store.true a.f a.x.address vs)
    ∙ ap (storing a.f) (sym (two_stored a.n a.f w two c.stored_more-w.ensures)))

-- STF
pub returns-else-n-eq2-clause-served : goal.returns-else-n-eq2-clause-served
returns-else-n-eq2-clause-served c =
    let a = c.args in
    let three = ne_eqb _ _ c.if-n-eq2.false in
    let kind = ap several_kind c.if-store.true in
    c.store_several-else-n-eq2.ensures.stored (Several a.store a.n)
    (accesses_three a.store a.n Write a.x.alternate a.x.address kind three)
    (λ vs. sym (several_stored a.n c.if-store.true a.f a.x.address vs)
    ∙ ap (storing a.f) (sym (c.stored_more-w.ensures ∙ three_stored_law a.n a.f three)))

-- LDD
pub returns-in-Ok-clause-served : goal.returns-in-Ok-clause-served
returns-in-Ok-clause-served c =
    let a = c.args in
    let m = a.mem.now in
    let t = a.tables.now in
    let u = c.read_several.new.tables in
    let two = eq-eqb _ _ c.if-n-eq2-2.true in
    let e = accesses_two a.store a.n Read a.x.alternate a.x.address (ap several_kind c.if-store.false) two in
    let r = c.in-Ok.ensures in
    let ps = (test_all t (length m) a.x.rights (words_from Read a.x.alternate a.x.address 2)).places in
    reads a.f m t u (Several a.store a.n) a.x 2 (omega arith) ps
    (read_passed t m a.x (Several a.store a.n) 2 u c.in-Ok.w e r) c.done.ensures
    (subst AllRead (sym e) (all_read a.x.alternate a.x.address 2))
    (ap loads
    (c.loaded_more.ensures ∙ two_loaded a.n a.f c.in-Ok.w two ∙ ap (words_loaded a.n a.f) r.1)
    ∙ several_loaded a.n c.if-store.false a.f a.x.address (words_at m u ps))

pub returns-in-Err-clause-served : goal.returns-in-Err-clause-served
returns-in-Err-clause-served c =
    let a = c.args in
    let m = a.mem.now in
    let t = a.tables.now in
    let u = c.read_several.new.tables in
    let two = eq-eqb _ _ c.if-n-eq2-2.true in
    let e = accesses_two a.store a.n Read a.x.alternate a.x.address (ap several_kind c.if-store.false) two in
    let r = c.in-Err.ensures in
    fails a.f m t u (Several a.store a.n) a.x c.in-Err.e.made
    (made_few t (length m) a.x.rights Read a.x.alternate a.x.address 2 c.in-Err.e.made (omega arith) r.1)
    (read_stopped t m a.x (Several a.store a.n) 2 u c.in-Err.e e r) c.failed.ensures

-- LDF
pub returns-in-Ok-read_several-clause-served : goal.returns-in-Ok-read_several-clause-served
returns-in-Ok-read_several-clause-served c =
    let a = c.args in
    let m = a.mem.now in
    let t = a.tables.now in
    let u = c.read_several-2.new.tables in
    let three = ne_eqb _ _ c.if-n-eq2-2.false in
    let e = accesses_three a.store a.n Read a.x.alternate a.x.address (ap several_kind c.if-store.false) three in
    let r = c.in-Ok-read_several.ensures in
    let ps = (test_all t (length m) a.x.rights (words_from Read a.x.alternate a.x.address 3)).places in
    reads a.f m t u (Several a.store a.n) a.x 3 (omega arith) ps
    (read_passed t m a.x (Several a.store a.n) 3 u c.in-Ok-read_several.w e r) c.done-in-Ok-read_several.ensures
    (subst AllRead (sym e) (all_read a.x.alternate a.x.address 3))
    (ap loads
    (c.loaded_more-in-Ok-read_several.ensures ∙ three_loaded a.n a.f c.in-Ok-read_several.w three
    ∙ ap (words_loaded a.n a.f) r.1)
    ∙ several_loaded a.n c.if-store.false a.f a.x.address (words_at m u ps))

pub returns-in-Err-read_several-clause-served : goal.returns-in-Err-read_several-clause-served
returns-in-Err-read_several-clause-served c =
    let a = c.args in
    let m = a.mem.now in
    let t = a.tables.now in
    let u = c.read_several-2.new.tables in
    let three = ne_eqb _ _ c.if-n-eq2-2.false in
    let e = accesses_three a.store a.n Read a.x.alternate a.x.address (ap several_kind c.if-store.false) three in
    let r = c.in-Err-read_several.ensures in
    let z = c.in-Err-read_several.e in
    fails a.f m t u (Several a.store a.n) a.x z.made
    (made_few t (length m) a.x.rights Read a.x.alternate a.x.address 3 z.made (omega arith) r.1)
    (read_stopped t m a.x (Several a.store a.n) 3 u z e r) c.failed-in-Err-read_several.ensures
