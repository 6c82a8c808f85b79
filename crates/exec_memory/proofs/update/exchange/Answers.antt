-- Either access fails, or both pass and the changed word is stored.
use Rattle.std.proofs.Common.{[], ◌∷◌, length, refl, ap, ◌∙◌, arith}
use Rattle.std.proofs.lemmas.Result.{err_from_is_err_and}
use Rattle.isa.specs.Address.{access}
use Rattle.isa.specs.declared.access.AccessKind.TheVariants.{Write}
use Rattle.isa.specs.Pages.{store_all}
use Rattle.exec_address.specs.Requests.{change_of}
use Rattle.exec_address.specs.declared.request.Request.TheVariants.{Update}
use Rattle.exec_address.proofs.Laws.{change_stores}
use Rattle.paging.proofs.Outcomes.{nth_passed, nth_failed}
use Rattle.exec_memory.proofs.RequestLaws.{first_passed, then_stopped, first_stopped, none_passed, stored_after}
use Rattle.exec_memory.proofs.RequestLaws.{found_loads, stores, fails, numbered}
use Rattle.exec_memory.proofs.update.exchange.Goals as goal

-- the access to read failed
pub returns-in_err-from : goal.returns-in_err-from
returns-in_err-from c =
    let a = c.args in
    let m = a.mem.now in
    let t = c.test_word in
    let e = c.in_err-from.field-0.0 in
    let p = err_from_is_err_and c.from_residual.result c.from_residual.ensures.1 in
    let f = nth_failed t.result 1 e (c.in_err-from.ensures {u = tt}) in
    rw (p.1, p.2)
    (fails a.f m a.tables.now t.new.tables (Update a.k) a.x e.made (rw f.1 (omega arith))
    (numbered f.1
    (first_stopped a.tables.now (length m) a.x.rights _ (access Write a.x.alternate a.x.address ∷ []) t.new.tables
    t.ensures.tables_after e.fault (f.0 ∙ t.ensures.value)))
    refl)

-- the access to write failed
pub returns-in_err-to : goal.returns-in_err-to
returns-in_err-to c =
    let a = c.args in
    let m = a.mem.now in
    let t = c.test_word in
    let w = c.test_word-2 in
    let from = c.in_ok-from.from in
    let e = c.in_err-to.field-0.0 in
    let p = err_from_is_err_and c.from_residual-in_err-to.result c.from_residual-in_err-to.ensures.1 in
    let first = nth_passed t.result 1 from (c.in_ok-from.ensures {u = tt}) ∙ t.ensures.value in
    let f = nth_failed w.result 2 e (c.in_err-to.ensures {u = tt}) in
    rw (p.1, p.2)
    (fails a.f m a.tables.now w.new.tables (Update a.k) a.x e.made (rw f.1 (omega arith))
    (numbered f.1
    (then_stopped a.tables.now (length m) a.x.rights _ (access Write a.x.alternate a.x.address ∷ []) t.new.tables
    t.ensures.tables_after from e.fault 1 w.new.tables first
    (first_stopped t.new.tables (length m) a.x.rights _ [] w.new.tables w.ensures.tables_after e.fault
    (f.0 ∙ w.ensures.value))))
    refl)

-- both passed
pub returns : goal.returns
returns c =
    let a = c.args in
    let m = a.mem.now in
    let t = c.test_word in
    let w = c.test_word-2 in
    let u = w.new.tables in
    let from = c.in_ok-from.from in
    let to = c.in_ok-to.to in
    let first = nth_passed t.result 1 from (c.in_ok-from.ensures {u = tt}) ∙ t.ensures.value in
    let second = nth_passed w.result 2 to (c.in_ok-to.ensures {u = tt}) ∙ w.ensures.value in
    stores a.f m a.tables.now u (Update a.k) a.x 2 (omega arith) (from ∷ to ∷ [])
    (first_passed a.tables.now (length m) a.x.rights _ (access Write a.x.alternate a.x.address ∷ []) t.new.tables
    t.ensures.tables_after from (to ∷ []) 1 u first
    (first_passed t.new.tables (length m) a.x.rights _ [] u w.ensures.tables_after to [] 0 u second
    (none_passed u (length m) a.x.rights)))
    refl
    (change_stores a.k a.f c.word_at-w.result ∙ ap (change_of a.k a.f) c.word_at-w.ensures)
    (c.store_at.ensures
    ∙ stored_after from to (found_loads a.tables.now (length m) a.x.rights a.x.alternate a.x.address from first) m u _
    ∙ ap (store_all m u (from ∷ to ∷ [])) c.changed.ensures)
