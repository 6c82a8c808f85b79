-- The access for the indirect word fails, or passes and the address is by that word.
use Rattle.std.proofs.Common.{ap, ◌∙◌}
use Rattle.std.proofs.lemmas.Result.{err_from_is_err_and}
use Rattle.exec_address.specs.Addresses.{after_indirect}
use Rattle.exec_memory.proofs.Stages.{indirect_passed, indirect_failed}
use Rattle.exec_memory.proofs.address.by_indirect.Goals as goal

-- it failed
pub returns-in_err-x : goal.returns-in_err-x
returns-in_err-x c =
    let a = c.args in
    let t = c.translate in
    let p = err_from_is_err_and c.from_residual.result c.from_residual.ensures.1 in
    rw (p.1, p.2)
    (indirect_failed a.f a.mem.now a.tables.now t.new.tables a.m a.r c.first_rule.result a.a c.first_rule.ensures
    t.ensures.tables_after c.in_err-x.field-0.0 c.in_err-x.ensures.value)

-- it passed
pub returns : goal.returns
returns c =
    let a = c.args in
    let t = c.translate in
    indirect_passed a.f a.mem.now a.tables.now t.new.tables a.m a.r c.first_rule.result a.a c.first_rule.ensures
    t.ensures.tables_after c.in_ok-x.x c.address_rule.result c.after_indirect.result
    c.in_ok-x.ensures.value c.address_rule.ensures
    (c.after_indirect.ensures ∙ ap (after_indirect a.m a.f) c.word_at.ensures)
