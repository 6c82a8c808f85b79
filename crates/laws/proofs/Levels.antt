-- A raised, enabled level that is highest runs after the next step.
-- Assumes nothing.
use Prim.Native.Nat.{ℕ, zero, suc, ◌/◌, ◌%◌, ◌^◌, ◌<◌, ◌≤◌}
use native.Mathlib.Decide.{ℕ_discrete}
use native.Mathlib.Omega.{arith}
use mathlib.Core.Path.{◌≡◌, refl, sym, ap, ◌∙◌}
use mathlib.Core.Bool.{Bool, true, false, not}
use lib.Dec.{eqb}
use lib.Bits.{bit_and, and_shr, and_mod, and_zero_l, and_zero_r}
use borrow.Author.Tests.{eqb-true, eq-eqb, ne_eqb}
use Rattle.isa.specs.Machine.{bit, core_of, control_of}
use Rattle.isa.specs.System.{highest_in}
use Rattle.isa.specs.Step.{Part, Turn, step_in, settled, highest_level, change_due, level_changed, step}
use Rattle.isa.specs.declared.machine.Control.{Control}
use Rattle.isa.specs.declared.machine.State.{State}
use Rattle.isa.proofs.Tests.{decided}
use Rattle.laws.specs.Statement.{HighestRaised, RaisedLevelRuns}
use Rattle.laws.proofs.Far.{settled_keeps}

-- ---- the highest bit

-- a bit of two words together
bit_and_law : (j a b : ℕ) → bit j (bit_and a b) ≡ bit_and (bit j a) (bit j b)
bit_and_law j a b = ap (λ (x : ℕ). x % 2) (and_shr a b j) ∙ and_mod (a / 2 ^ j) (b / 2 ^ j) 1

-- .. is set where it is set in both
both_set : (j a b : ℕ) → bit j a ≡ 1 → bit j b ≡ 1 → bit j (bit_and a b) ≡ 1
both_set j a b h k = bit_and_law j a b ∙ ap (λ (x : ℕ). bit_and x (bit j b)) h ∙ ap (bit_and 1) k

-- .. and only there
set_left : (x y : ℕ) → x < 2 → bit_and x y ≡ 1 → x ≡ 1
set_left zero y h e = absurd (omega (arith, sym (and_zero_l y) ∙ e))
set_left (suc x) y h e = omega arith

set_right : (x y : ℕ) → y < 2 → bit_and x y ≡ 1 → y ≡ 1
set_right x zero h e = absurd (omega (arith, sym (and_zero_r x) ∙ e))
set_right x (suc y) h e = omega arith

in_left : (j a b : ℕ) → bit j (bit_and a b) ≡ 1 → bit j a ≡ 1
in_left j a b e = set_left (bit j a) (bit j b) (omega arith) (sym (bit_and_law j a b) ∙ e)

in_right : (j a b : ℕ) → bit j (bit_and a b) ≡ 1 → bit j b ≡ 1
in_right j a b e = set_right (bit j a) (bit j b) (omega arith) (sym (bit_and_law j a b) ∙ e)

-- a bit that is set, with none above it among bits n to 1
highest_is : (n w l : ℕ) → l ≤ n → bit l w ≡ 1 → ((j : ℕ) → l < j → j ≤ n → bit j w ≡ 1 → ⊥) → highest_in n w ≡ l
highest_is zero w l h b none = omega arith
highest_is (suc n) w l h b none =
    go (ℕ_discrete l (suc n)) (λ q. highest_is n w l q b (λ j x y. none j x (omega arith)))
  where
    go : Dec (l ≡ suc n) → (l ≤ n → highest_in n w ≡ l) → highest_in (suc n) w ≡ l
    go (yes q) r = rw (eq-eqb (bit (suc n) w) 1 (rw q at b)) (sym q)
    go (no q) r = rw (ne_eqb (bit (suc n) w) 1 (none (suc n) (omega arith) (omega arith))) (r (omega arith))

highest_level_law : (k : Control) (l : ℕ) → HighestRaised k l → highest_level k ≡ l
highest_level_law k l h =
    let n = h.level in
    highest_is 15 (bit_and k.pid k.pie) l (omega arith) (both_set l k.pid k.pie h.raised h.enabled)
    (λ j x y b. h.highest j x (omega arith) (in_left j k.pid k.pie b) (in_right j k.pid k.pie b))

-- ---- an instruction leaves the level

settled_level : (s : State) (r : Part) → (settled s r).state.level ≡ s.level
settled_level s r =
    settled_keeps (λ (q : State). q.level ≡ s.level) (λ n. Unit {0}) (λ q b h. h) (λ q p h. h) (λ q x h f. h) s r refl
    tt

-- ---- one step

-- no change is due where interrupts are on: the highest level is the running one
none_due : (s : State) → s.control.interrupts ≡ 1 → change_due s ≡ false → highest_level (control_of s) ≡ s.level
unfolding change_due
none_due s on d = go (eqb (highest_level (control_of s)) s.level) refl (rw (eq-eqb s.control.interrupts 1 on) at d)
  where
    go : (b : Bool) → eqb (highest_level (control_of s)) s.level ≡ b → not b ≡ false
        → highest_level (control_of s) ≡ s.level
    go true e f = eqb-true (highest_level (control_of s)) s.level e
    go false e f = cc

pub raised_level_runs : RaisedLevelRuns
unfolding step level_changed
raised_level_runs s m t l runs on h =
    rw runs
    (decided (λ (r : Turn). r.state.level ≡ l) (change_due s) (λ e. highest_level_law (control_of s) l h)
    (λ e. settled_level s (step_in s.level (core_of s) m t) ∙ sym (none_due s on e)
    ∙ highest_level_law (control_of s) l h))
