-- By whether a device answered.
use Rattle.std.proofs.Common.{◌∙◌}
use Rattle.trap.proofs.Laws.{event_answered_law, event_unanswered}
use Rattle.trap.proofs.device_stage.Goals as goal

-- one answered
pub returns-in-Some : goal.returns-in-Some
returns-in-Some c =
    let a = c.args in
    λ m t. c.left.ensures m t
    ∙ simp (c.with_control.ensures, c.with_file.ensures, c.with-file.ensures)
    (event_answered_law a.c a.e c.get.ensures c.in-Some.x c.act.ensures c.in-Some.is m t)

-- none did
pub returns-in-None : goal.returns-in-None
returns-in-None c =
    let a = c.args in
    λ m t. c.trapped.ensures m t ∙ event_unanswered a.c a.e c.get.ensures c.act.ensures c.in-None.is m t
