-- Several steps at once, as the run's definition has them.
use Rattle.std.specs.Prelude.{◌≡◌, ℕ, Bool, false, ◌&&◌, List}
use Rattle.isa.specs.Machine.{control_of}
use Rattle.isa.specs.Step.{Turn}
use Rattle.isa.specs.Run.{run_from}
use Rattle.isa.specs.declared.machine.State.{State}
use Rattle.levels.specs.Changes.{due_at}
use Rattle.levels.specs.declared.change.Advanced.{Advanced}
use Rattle.run_level.specs.Bursts.{goes_on}

-- a run of the machine s, which is not to end here, goes on behind the steps
abbrev pub Advance : State → List ℕ → List ℕ → ℕ → Advanced → Turn → Type 0
Advance s m t n a r =
    (first : Bool) (j : ℕ) → (first && due_at s.level (control_of s)) ≡ false
    → run_from first n j s m t ≡ goes_on first n j a.before r
