-- Values: a lengthened number keeps its own, and a value has one normalised long number.
-- Assumes nothing.
use Prim.Native.Nat.{ℕ, zero, suc, ◌+◌, ◌*◌, ◌/◌, ◌^◌, ◌<◌, ◌≤◌}
use mathlib.Core.Path.{◌≡◌, refl, sym, ap, ◌∙◌, subst}
use mathlib.Core.Bool.{Bool, true, false}
use native.Mathlib.Nat.{mul_assoc, pow-suc, mul-le-mul_right, mul-lt-mul_of_pos_right, mul-pos, mul-div_cancel}
use native.Mathlib.Omega.{arith}
use lib.Dec.{ltb}
use lib.IntN.{pos, nat_abs, pos-ne-negsuc}
use lib.Pow.{pow-add, pow_pos, pow_mono}
use borrow.Author.Tests.{ltb-true, ltb-false}
use Rattle.floating.specs.Forms.{FitsLong, long_of, signed, value_by, value_in_short, value_in_long, long_value}
use Rattle.floating.specs.Conversions.{lengthened, malformed_long}
use Rattle.floating.specs.declared.form.Fields.{Fields}
use Rattle.floating.proofs.Fields.{fields_path, fields_of_long, top_bit}

-- nine places in the mantissa are nine in the exponent
moved : (m e g : ℕ) → 9 + e ≡ g → (2 ^ 31 + m * 2 ^ 9) * 2 ^ e ≡ (2 ^ 22 + m) * 2 ^ g
moved m e g h =
    ap (λ (x : ℕ). x * 2 ^ e) (let p : 2 ^ 31 + m * 2 ^ 9 ≡ (2 ^ 22 + m) * 2 ^ 9 = omega arith in p)
    ∙ mul_assoc (2 ^ 22 + m) (2 ^ 9) (2 ^ e)
    ∙ ap (λ (x : ℕ). (2 ^ 22 + m) * x) (sym (pow-add 2 9 e) ∙ ap (λ (i : ℕ). 2 ^ i) h)

pub lengthened_value : (f : Fields) → value_in_long (lengthened f) ≡ value_in_short f
unfolding value_by
lengthened_value f = ap (signed f.sign) (moved f.mantissa _ _ (omega arith))

pub value_of_fields : (f : Fields) → FitsLong f → long_value (long_of f) ≡ value_in_long f
value_of_fields f w = ap value_in_long (fields_of_long f w)

-- ---- one sign, one mantissa and one exponent for a value

-- numbers above 0 keep sign and magnitude apart
signs_apart : (s r x y : ℕ) → s < 2 → r < 2 → 0 < x → 0 < y → signed s x ≡ signed r y → (s ≡ r) × (x ≡ y)
signs_apart s r zero y a b p q e = absurd (omega (arith, p))
signs_apart s r (suc x) zero a b p q e = absurd (omega (arith, q))
signs_apart zero zero (suc x) (suc y) a b p q e = (refl, ap nat_abs e)
signs_apart zero (suc r) (suc x) (suc y) a b p q e = absurd (pos-ne-negsuc (suc x) y e)
signs_apart (suc s) zero (suc x) (suc y) a b p q e = absurd (pos-ne-negsuc (suc y) x (sym e))
signs_apart (suc s) (suc r) (suc x) (suc y) a b p q e = (omega (arith, a, b), ap nat_abs e)

signed_not_zero : (s x : ℕ) → 0 < x → pos 0 ≡ signed s x → ⊥
signed_not_zero s zero p e = omega (arith, p)
signed_not_zero zero (suc x) p e = let z : 0 ≡ suc x = ap nat_abs e in omega (arith, z)
signed_not_zero (suc s) (suc x) p e = pos-ne-negsuc 0 x e

-- a mantissa below 2 ^ 32 is, at a lower exponent, below one of at least 2 ^ 31
lower_apart : (m n e g : ℕ) → m < 2 ^ 32 → 2 ^ 31 ≤ n → e < g → m * 2 ^ e ≡ n * 2 ^ g → ⊥
lower_apart m n e g a b l q =
    go (m * 2 ^ e) (n * 2 ^ g) (2 ^ e) (2 ^ g) (mul-lt-mul_of_pos_right a (pow_pos e)) (mul-le-mul_right (2 ^ g) b)
    (subst (λ (x : ℕ). x ≤ 2 ^ g) (pow-suc 2 e) (pow_mono l)) q
  where
    go : (x y i j : ℕ) → x < 2 ^ 32 * i → 2 ^ 31 * j ≤ y → i * 2 ≤ j → x ≡ y → ⊥
    go x y i j below above twice same = omega arith

mantissas_apart : (m n e g : ℕ) → m < 2 ^ 32 → n < 2 ^ 32 → 2 ^ 31 ≤ m → 2 ^ 31 ≤ n → m * 2 ^ e ≡ n * 2 ^ g
    → (e ≡ g) × (m ≡ n)
mantissas_apart m n e g a b c d q = go (ltb e g) (ltb g e) refl refl
  where
    same : e ≡ g → (e ≡ g) × (m ≡ n)
    same p = (
      p,
      sym (mul-div_cancel m (pow_pos e))
          ∙ ap (λ (x : ℕ). x / 2 ^ e) (q ∙ ap (λ (i : ℕ). n * 2 ^ i) (sym p))
          ∙ mul-div_cancel n (pow_pos e),
    )

    go : (x y : Bool) → ltb e g ≡ x → ltb g e ≡ y → (e ≡ g) × (m ≡ n)
    go true y p r = absurd (lower_apart m n e g a d (ltb-true e g p) q)
    go false true p r = absurd (lower_apart n m g e b c (ltb-true g e r) (sym q))
    go false false p r = same (omega (arith, ltb-false e g p, ltb-false g e r))

-- the magnitude of a long number's value; 0 is the scale less bias and bits
abbrev magnitude : Fields → ℕ
magnitude f = f.mantissa * 2 ^ (f.exponent + 0)

above : (f : Fields) → FitsLong f → malformed_long f ≡ false → 0 < magnitude f
above f w h = mul-pos (omega (arith, top_bit f w h)) (pow_pos (f.exponent + 0))

pub one_normalised : (f g : Fields) → FitsLong f → FitsLong g → malformed_long f ≡ false → malformed_long g ≡ false
    → value_in_long f ≡ value_in_long g → f ≡ g
unfolding value_by
one_normalised f g w u h k e =
    let whole = signs_apart f.sign g.sign (magnitude f) (magnitude g) w.0 u.0 (above f w h) (above g u k)
    e in
    let parts = mantissas_apart f.mantissa g.mantissa (f.exponent + 0) (g.exponent + 0) w.2 u.2
    (top_bit f w h) (top_bit g u k) whole.1 in
    fields_path _ _ _ _ _ _ whole.0 (omega (arith, parts.0)) parts.1

pub normalised_not_zero : (f : Fields) → FitsLong f → malformed_long f ≡ false → pos 0 ≡ value_in_long f → ⊥
unfolding value_by
normalised_not_zero f w h e = signed_not_zero f.sign (magnitude f) (above f w h) e
