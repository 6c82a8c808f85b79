-- Single shifts as they are computed, for any width of 1 to 32 bits.
-- Assumes nothing.
use Rattle.std.proofs.Common.{◌≡◌, ℕ, ◌+◌, ◌-◌, ◌*◌, ◌/◌, ◌%◌, ◌^◌, ◌<◌, ◌≤◌, Bool, true, false, sym, ap, ◌∙◌, subst, one-mul, arith, lit<, pow_mono}
use Rattle.isa.specs.Flags.{lower_input, upper_input, left_once, right_once, once}
use Rattle.isa.specs.Flags as Flags
use Rattle.isa.specs.declared.instruction.ShiftKind.{ShiftKind}
use Rattle.isa.proofs.Shifts.{Narrow, once_narrow}
use Rattle.arithmetic.specs.declared.shift.Shifted.{Shifted}
use Rattle.arithmetic.specs.Results.{shifted_of, InWidth}
use Rattle.arithmetic.proofs.Fields.{placed}

-- the upper half of w bits starts at 2 ^ (w - 1)
abbrev pub half : ℕ → ℕ
half w = (1 * 2 ^ (w - 1)) % 4294967296

pub half_is : (w : ℕ) → 0 < w → w ≤ 32 → half w ≡ 2 ^ (w - 1)
half_is w p q = placed 1 (w - 1) 32 (lit< tt) (omega arith) ∙ one-mul (2 ^ (w - 1))

-- one place in a direction stays in the width, and so in 32 bits
module _ (left : Bool) (w : ℕ) (k : ShiftKind) (s : Shifted) (g : InWidth w s) where
  stays : Narrow w (once left w k (shifted_of s))
  stays = once_narrow w g.some left k (shifted_of s) (record { value = g.value; m = g.m })

  pub once_in_width : (r : Shifted) → shifted_of r ≡ once left w k (shifted_of s) → InWidth w r
  once_in_width r e =
      let n : Narrow w (shifted_of r) = subst (Narrow w) (sym e) stays in
      record { some = g.some; most = g.most; value = n.value; m = n.m }

  once_fits : (r : Flags.Shifted) → r ≡ once left w k (shifted_of s) → r.value < 4294967296
  once_fits r e = omega (arith, ap (λ (t : Flags.Shifted). t.value) e, stays.value, pow_mono g.most)

module _ (w : ℕ) (k : ShiftKind) (s : Shifted) (g : InWidth w s) where
  pub left_is :
      (x : ℕ) → x ≡ lower_input k (s.value / half w) s.m
      → ◌≡◌ {A = Flags.Shifted} (record { value = s.value % half w * 2 + x; m = s.value / half w })
      (once true w k (shifted_of s))
  unfolding left_once
  left_is x e =
      ap (λ (y : ℕ). record { value = s.value % half w * 2 + y; m = s.value / half w }) e
      ∙ ap (λ (h : ℕ). record { value = s.value % h * 2 + lower_input k (s.value / h) s.m; m = s.value / h })
      (half_is w g.some g.most)

  pub left_fits : (x : ℕ) → x ≡ lower_input k (s.value / half w) s.m → s.value % half w * 2 + x < 4294967296
  left_fits x e = once_fits true w k s g _ (left_is x e)

  pub right_is :
      (x : ℕ) → x ≡ upper_input k (s.value / half w) (s.value % 2) s.m
      → ◌≡◌ {A = Flags.Shifted} (record { value = x * half w + s.value / 2; m = s.value % 2 })
      (once false w k (shifted_of s))
  unfolding right_once
  right_is x e =
      ap (λ (y : ℕ). record { value = y * half w + s.value / 2; m = s.value % 2 }) e
      ∙ ap (λ (h : ℕ). record {
        value = upper_input k (s.value / h) (s.value % 2) s.m * h + s.value / 2;
        m = s.value % 2;
      }) (half_is w g.some g.most)

  pub right_fits : (x : ℕ) → x ≡ upper_input k (s.value / half w) (s.value % 2) s.m
      → x * half w + s.value / 2 < 4294967296
  right_fits x e = once_fits false w k s g _ (right_is x e)
