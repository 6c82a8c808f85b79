-- What an entry point answers, with memory and page tables after it, as one call of the definitions.
use Rattle.std.specs.Prelude.{ℕ, List, take}
use Rattle.std.specs.declared.result.Result.{Result}
use Rattle.std.specs.declared.result.Result.TheVariants.{Ok, Err}
use Rattle.isa.specs.Machine.{with_control_words}
use Rattle.isa.specs.Answers.{StateCall, LoadCall}
use Rattle.isa.specs.DeviceInput.{InputRunCall}
use Rattle.isa.specs.declared.machine.Control.{Control}
use Rattle.isa.specs.declared.machine.State.{State}
use Rattle.isa.specs.declared.answer.Refusal.{Refusal}
use Rattle.operations.specs.declared.input.InputRunResult.{InputRunResult}
use Rattle.operations.specs.declared.reload.ReloadResult.{ReloadResult}

-- the state with control words that were made, or as it came beside the refusal
abbrev pub left_by : State → Result Control Refusal → StateCall
left_by s (Ok k) = record { answer = Ok tt; state = with_control_words s k }
left_by s (Err r) = record { answer = Err r; state = s }

-- the words for what inputs are told begin with those of the inputs handed in
abbrev pub input_run_of : InputRunResult → List ℕ → List ℕ → List ℕ → InputRunCall
input_run_of r told m t = record {
  answer = r.answer;
  told = take r.handed told;
  state = r.state;
  memory = m;
  tables = t;
}

abbrev pub reload_of : ReloadResult → List ℕ → List ℕ → LoadCall
reload_of r m t = record { answer = r.loaded; state = r.state; memory = m; tables = t }
