-- What a call on a lent record answers and leaves, as one call of the definitions.
use Rattle.std.specs.Prelude.{ℕ, List}
use Rattle.isa.specs.Answers.{Answer, StepAnswer, StepCall, StateCall}
use Rattle.isa.specs.declared.machine.State.{State}

abbrev pub lent_step : StepAnswer → State → List ℕ → List ℕ → StepCall
lent_step a s m t = record { answer = a; state = s; memory = m; tables = t }

-- raise leaves memory and page tables: they are lent to be read
abbrev pub lent_raise : Answer → State → StateCall
lent_raise a s = record { answer = a; state = s }
