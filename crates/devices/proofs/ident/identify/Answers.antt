-- The device on the line asks.
use Rattle.std.proofs.Common.{refl, sym, ◌∙◌, Some}
use Rattle.devices.proofs.Laws.{leaves_by, cleared, identifies}
use Rattle.devices.proofs.ident.identify.Goals as goal

pub returns-in-Some : goal.returns-in-Some
returns-in-Some c =
    let a = c.args in
    let i = Some c.in-Some.i in
    rw c.in-Some.is
    (identifies i (leaves_by {d = a.d} {g = cleared i} c.answered.ensures refl (λ k. simp c.without_asking.ensures)) a.a
    (sym c.flip_flop.ensures ∙ c.if-flip_flop-eq1.true))
