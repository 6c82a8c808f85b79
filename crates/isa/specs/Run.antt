-- Document 01, "What is sent back": run through, and run to the first interrupt.
use Rattle.std.specs.Prelude.{ℕ, zero, suc, ◌+◌, ◌%◌, ◌^◌, Bool, cond, not, ◌&&◌, List, ◌==◌}
use Rattle.isa.specs.Step.{step, Turn, is_stopped, change_due}
use Rattle.isa.specs.declared.machine.State.{State}
use Rattle.isa.specs.declared.answer.Reason.{Reason}
use Rattle.isa.specs.declared.answer.Reason.TheVariants.{Stopped, Level, Spent, Interrupt}

-- "Run answers steps taken and why it ended." Document 02, card 7: "run answers the sum (its low 64 bits)".
pub record Run : Type 0 where
  pub state : State
  pub steps : ℕ
  pub reason : Reason
  pub memory : List ℕ
  pub tables : List ℕ
  pub references : ℕ

-- a run that makes no further reference; ruling 7.4: "0 for no step"
abbrev pub ended : Reason → ℕ → State → List ℕ → List ℕ → Run
ended w k s m t = record { state = s; steps = k; reason = w; memory = m; tables = t; references = 0 }

-- what the low 64 bits of a sum are below
abbrev pub sum_range : ℕ
sum_range = 2 ^ 64

-- a run with g references before it
abbrev pub counted_run : ℕ → Run → Run
counted_run g r = record {
  state = r.state;
  steps = r.steps;
  reason = r.reason;
  memory = r.memory;
  tables = r.tables;
  references = (g + r.references) % sum_range;
}

-- "after each, interrupt: whether that step gave one, in IIE or not (second form only)"; rest is the run after k steps
abbrev pub after_step : Bool → (ℕ → State → List ℕ → List ℕ → Run) → ℕ → Turn → Run
after_step first rest k r =
    let on = rest (suc k) r.state r.memory r.tables in
    counted_run r.references
    (cond (first && not (r.gave == 0)) (ended Interrupt (suc k) r.state r.memory r.tables) on)

-- "Before each step it tests stopped, then level (a change is due; second form only), then spent". At most n steps
-- more, after k; `first` is the second form, to the first interrupt.
abbrev pub run_from : Bool → ℕ → ℕ → State → List ℕ → List ℕ → Run
run_from first zero k s m t =
    cond (is_stopped s) (ended Stopped k s m t)
    (cond (first && change_due s) (ended Level k s m t) (ended Spent k s m t))
run_from first (suc n) k s m t =
    let on = after_step first (run_from first n) k (step s m t) in
    cond (is_stopped s) (ended Stopped k s m t) (cond (first && change_due s) (ended Level k s m t) on)
