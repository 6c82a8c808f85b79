-- The access fails, or passes and the word is read.
use Rattle.std.proofs.Common.{[], ◌∷◌, length, refl, ap, ◌∙◌, arith}
use Rattle.isa.specs.Instructions.{loads}
use Rattle.exec_address.specs.Requests.{loaded_by}
use Rattle.exec_address.specs.declared.request.Request.TheVariants.{Read}
use Rattle.exec_memory.proofs.RequestLaws.{first_passed, first_stopped, none_passed, reads, fails}
use Rattle.exec_memory.proofs.single.read_word.Goals as goal

-- it passed
pub returns-in-Ok-clause-served : goal.returns-in-Ok-clause-served
returns-in-Ok-clause-served c =
    let a = c.args in
    let m = a.mem.now in
    let t = c.test_word in
    let v = t.new.tables in
    let p = c.in-Ok.p in
    reads a.f m a.tables.now v (Read a.k) a.x 1 (omega arith) (p ∷ [])
    (first_passed a.tables.now (length m) a.x.rights _ [] v t.ensures.tables_after p [] 0 v c.in-Ok.ensures.value
    (none_passed v (length m) a.x.rights))
    c.done.ensures (refl, tt)
    (ap loads (c.loaded.ensures ∙ ap (loaded_by a.k a.f) c.word_at.ensures))

-- it failed
pub returns-in-Err-clause-served : goal.returns-in-Err-clause-served
returns-in-Err-clause-served c =
    let a = c.args in
    let m = a.mem.now in
    let t = c.test_word in
    fails a.f m a.tables.now t.new.tables (Read a.k) a.x 1 (omega arith)
    (first_stopped a.tables.now (length m) a.x.rights _ [] t.new.tables t.ensures.tables_after c.in-Err.e
    c.in-Err.ensures.value)
    c.failed.ensures
