-- The fault in the core, and its number.
use Rattle.std.proofs.Common.{◌∙◌}
use Rattle.trap.proofs.failed.Goals as goal

pub returns : goal.returns
returns c = λ m t. c.left.ensures m t ∙ simp (c.fault_of.ensures, c.faulted.ensures)
