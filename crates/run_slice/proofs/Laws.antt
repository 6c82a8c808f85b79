-- The next step of a run, and a step that is a change of level.
-- Assumes nothing.
use Rattle.std.proofs.Common.{◌≡◌, ℕ, suc, ◌+◌, ◌-◌, ◌<◌, Bool, true, false, cond, not, ◌&&◌, eqb, List, ap, ◌∙◌, mod-eq_of_lt, arith}
use Rattle.isa.specs.Machine.{control_of}
use Rattle.isa.specs.Step.{Turn, turn, step, is_stopped, level_changed}
use Rattle.isa.specs.Run.{sum_range, ended, run_from}
use Rattle.isa.specs.declared.answer.Reason.TheVariants.{Interrupt}
use Rattle.isa.proofs.Counts.{counted_run_low}
use Rattle.isa.proofs.References.{nine_at_most}
use Rattle.isa.specs.declared.machine.State.{State}
use Rattle.levels.specs.Changes.{due_at}
use Rattle.levels.proofs.Changes.{due_pack}
use Rattle.run_level.specs.Bursts.{goes_on, low_turn}
use Rattle.run_level.proofs.Laws.{runs_on}

-- the next step of a run that does not end here
pub next_step : (first : Bool) (n j : ℕ) (s : State) (m t : List ℕ) → 0 < n → is_stopped s ≡ false
    → (first && due_at s.level (control_of s)) ≡ false
    → run_from first n j s m t ≡ goes_on first n j 0 (step s m t)
next_step first n j s m t h x d =
    let e : j ≡ j + 0 = omega arith in
    let i : n ≡ n - 0 = omega arith in
    (λ z. run_from first (i z) (e z) s m t) ∙ runs_on first n j 0 s m t h x (ap (first &&◌) (due_pack s) ∙ d)

-- a run goes on by the low 64 bits of the references before
pub goes_on_low : (first : Bool) (n j before : ℕ) (r : Turn)
    → goes_on first n j before (low_turn r) ≡ goes_on first n j before r
goes_on_low first n j before r =
    counted_run_low r.references
    (cond (first && not (eqb r.gave 0)) (ended Interrupt (suc (j + before)) r.state r.memory r.tables)
    (run_from first (n - suc before) (suc (j + before)) r.state r.memory r.tables))

-- a step's references are few, so that they are their low 64 bits
pub step_low : (s : State) (m t : List ℕ) → low_turn (step s m t) ≡ step s m t
step_low s m t =
    let r = step s m t in
    let few : r.references < sum_range = omega (arith, nine_at_most s m t) in
    ap
    (λ (n : ℕ). record {
      state = r.state;
      gave = r.gave;
      memory = r.memory;
      tables = r.tables;
      references = n;
    })
    (mod-eq_of_lt few)

-- a step that is a change of level
pub level_step : (s : State) (m t : List ℕ) → is_stopped s ≡ false → due_at s.level (control_of s) ≡ true
    → step s m t ≡ turn (level_changed s) 0 m t
unfolding step
level_step s m t x d = rw (x, due_pack s ∙ d)
