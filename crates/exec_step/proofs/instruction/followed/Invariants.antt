use Rattle.std.proofs.Common.{◌≡◌, cond}
use Rattle.exec_step.specs.Steps.{followed}
use Rattle.exec_step.proofs.instruction.followed.Given as goal

-- the word to be followed before the first round, the one that was followed after it
abbrev pub invariant-loop-s : goal.invariant-loop-s
invariant-loop-s l = cond l.first (followed l.f l.word) l.word ≡ followed l.fn.f l.fn.w

abbrev pub decreases-loop-s : goal.decreases-loop-s
decreases-loop-s l = cond l.first 1 0
