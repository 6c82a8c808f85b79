-- What load finds in an image, and what it leaves.
use Rattle.std.specs.Prelude.{ℕ, List}
use Rattle.std.specs.declared.result.Result.{Result}
use Rattle.std.specs.declared.result.Result.TheVariants.{Ok, Err}
use Rattle.isa.specs.Answers.{Answer, Call}
use Rattle.isa.specs.declared.machine.State.{State}
use Rattle.isa.specs.declared.answer.Refusal.{Refusal}
use Rattle.isa.specs.declared.answer.Answered.{Answered}

-- the state, where the answer does not refuse it
abbrev pub state_by : Answer → State → Result State Refusal
state_by (Ok _) s = Ok s
state_by (Err r) s = Err r

-- what an operation answers and leaves, as one call
abbrev pub call_of : {A : Type 0} → Answered A → List ℕ → List ℕ → Call A
call_of r m t = record { answer = r.answer; state = r.state; memory = m; tables = t }
