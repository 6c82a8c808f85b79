-- Steps that make no reference, and runs that take no step.
-- Assumes nothing.
use Prim.Native.Nat.{zero, suc, ◌≤◌}
use native.Mathlib.Omega.{arith}
use mathlib.Core.Path.{◌≡◌, refl}
use mathlib.Core.Bool.{Bool, true, false, cond, not, ◌&&◌, ◌||◌}
use lib.Dec.{eqb}
use Rattle.isa.specs.Machine.{core_of}
use Rattle.isa.specs.Step.{Turn, turn, step_in, settled, is_stopped, change_due, level_changed, step}
use Rattle.isa.specs.Run.{Run, after_step, run_from}
use Rattle.isa.proofs.Tests.{either, no_both}
use Rattle.isa.proofs.Runs.{run_taken}
use Rattle.laws.specs.Statement.{NoneWithoutFetch, NoneWithoutStep}

pub none_without_fetch : NoneWithoutFetch
unfolding step
none_without_fetch s m t = go (is_stopped s) (change_due s)
  where
    r : Turn
    r = settled s (step_in s.level (core_of s) m t)

    go : (x y : Bool) → (x || y) ≡ true
        → (cond x (turn s 0 m t) (cond y (turn (level_changed s) 0 m t) r)).references ≡ 0
    go true y e = refl
    go false true e = refl
    go false false e = absurd (no_both e)

abbrev None : Run → Type 0
None q = q.steps ≡ 0 → q.references ≡ 0

-- a run that goes on takes a step
pub none_without_step : NoneWithoutStep
none_without_step first zero s m t =
    either None (is_stopped s) (λ e. refl) (either None (first && change_due s) (λ e. refl) (λ e. refl))
none_without_step first (suc n) s m t =
    let r = step s m t in
    let on = (run_taken first n 1 r.state r.memory r.tables).least in
    let taken : 1 ≤ (after_step first (run_from first n) 0 r).steps =
    either (λ (q : Run). 1 ≤ q.steps) (first && not (eqb r.gave 0)) (omega arith) on in
    either None (is_stopped s) (λ e. refl)
    (either None (first && change_due s) (λ e. refl) (λ e. absurd (omega (arith, taken, e))))
