-- What a run with device input leaves.
use Rattle.std.specs.Prelude.{ℕ, List, ◌++◌, length, drop}
use Rattle.isa.specs.Machine.{state_with}
use Rattle.run.specs.Runs.{ran_with}
use Rattle.isa.specs.DeviceInput.{InputRun}
use Rattle.run_input.specs.declared.InputEnd.{InputEnd}

abbrev pub end_run : InputEnd → List ℕ → List ℕ → List ℕ → List ℕ → List ℕ → InputRun
end_run r told regs pcrs m t = record {
  run = ran_with r.references r.reason r.steps (state_with r.level r.control regs pcrs) m t;
  told = told;
}

-- words put in front of others, of which those past them stay
abbrev pub onto : List ℕ → List ℕ → List ℕ
onto v o = v ++ drop (length v) o
