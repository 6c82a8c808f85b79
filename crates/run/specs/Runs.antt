-- What a run leaves, and why it ends.
use Rattle.std.specs.Prelude.{ℕ, Bool, cond, ◌&&◌, List, ◌==◌}
use Rattle.isa.specs.Machine.{pack, state_with}
use Rattle.isa.specs.Step.{Turn}
use Rattle.isa.specs.Run.{Run}
use Rattle.isa.specs.Answers.{StepCall}
use Rattle.isa.specs.declared.machine.Control.{Control}
use Rattle.isa.specs.declared.machine.State.{State}
use Rattle.isa.specs.declared.answer.Reason.{Reason}
use Rattle.isa.specs.declared.answer.Reason.TheVariants.{Stopped, Level, Spent}
use Rattle.levels.specs.Changes.{due_at}
use Rattle.run.specs.declared.machine.LoopEnd.{LoopEnd}
use Rattle.run.specs.declared.step.StepEnd.{StepEnd}

-- a run and a step with g references
abbrev pub ran_with : ℕ → Reason → ℕ → State → List ℕ → List ℕ → Run
ran_with g w k s m t = record { state = s; steps = k; reason = w; memory = m; tables = t; references = g }

abbrev pub turn_with : ℕ → State → ℕ → List ℕ → List ℕ → Turn
turn_with g s n m t = record { state = s; gave = n; memory = m; tables = t; references = g }

-- what a run leaves
abbrev pub loop_run : LoopEnd → List ℕ → List ℕ → List ℕ → List ℕ → Run
loop_run r regs pcrs m t = ran_with r.references r.reason r.steps (pack r.level r.core regs pcrs) m t

-- why a run that has no step left ends
abbrev pub reason_at_rest : Bool → ℕ → Control → Reason
reason_at_rest first l k = cond (k.stopped == 1) Stopped (cond (first && due_at l k) Level Spent)

-- what a step over lent words answers and leaves
abbrev pub step_called : StepEnd → List ℕ → List ℕ → List ℕ → List ℕ → StepCall
step_called r regs pcrs m t = record {
  answer = r.answer;
  state = state_with r.level r.control regs pcrs;
  memory = m;
  tables = t;
}
