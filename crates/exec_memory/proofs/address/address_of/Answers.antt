-- A mode with an indirect word goes by that word, one without by base and displacement.
use Rattle.std.proofs.Common.{sym, ◌∙◌}
use Rattle.exec_memory.proofs.Stages.{first_is, addressed_indirect, addressed_direct}
use Rattle.exec_memory.proofs.address.address_of.Goals as goal

-- by the indirect word
pub returns-then-has_indirect : goal.returns-then-has_indirect
returns-then-has_indirect c =
    let a = c.args in
    let e = first_is a.m a.f a.at c.ranges.d c.first_address-a.ensures in
    addressed_indirect a.f _ _ a.at a.r a.m a.d _ e _ _
    (sym c.has_indirect.ensures ∙ c.if-has_indirect.true) c.by_indirect.ensures

-- by base and displacement
pub returns : goal.returns
returns c =
    let a = c.args in
    let e = first_is a.m a.f a.at c.ranges.d c.first_address-a.ensures in
    addressed_direct a.f _ _ a.at a.r a.m a.d _ e _
    (sym c.has_indirect.ensures ∙ c.if-has_indirect.false) c.address_rule.ensures
