-- A bit read, set or cleared, for any width.
-- Assumes nothing.
use Rattle.std.proofs.Common.{◌≡◌, ℕ, zero, suc, ◌+◌, ◌-◌, ◌*◌, ◌/◌, ◌%◌, ◌^◌, ◌<◌, ap, ◌∙◌, subst, add_assoc, mod-lt, mul_comm, pow-suc, add-one, arith, pow_pos, pow-add, shr_lt}
use mathlib.Core.Path.{subst⁻¹}
use lib.Arith.{digits_lt, digits_div, digits_mod}
use lib.Pow.{mod-mod-pow}
use Rattle.isa.specs.Machine.{bit, with_bit}

-- a bit and the n bits below it are n + 1 bits
bit_and_rest : (n v w : ℕ) → v < 2 → v * 2 ^ n + w % 2 ^ n < 2 ^ suc n
bit_and_rest n v w b =
    subst⁻¹ (λ (x : ℕ). v * 2 ^ n + w % 2 ^ n < x) (pow-suc 2 n ∙ mul_comm (2 ^ n) 2)
    (digits_lt b (mod-lt w (pow_pos n)))

-- a bit below the width may be set or cleared
pub bit_below : (k n v w : ℕ) → n < k → v < 2 → w < 2 ^ k → with_bit n v w < 2 ^ k
bit_below k n v w h b f =
    let e : ℕ = k - suc n in
    let s : k ≡ e + suc n = omega arith in
    let p : 2 ^ k ≡ 2 ^ e * 2 ^ suc n = ap (λ (j : ℕ). 2 ^ j) s ∙ pow-add 2 e (suc n) in
    let q : w / 2 ^ suc n < 2 ^ e = shr_lt e (suc n) (subst (λ (j : ℕ). w < 2 ^ j) s f) in
    omega (arith, p, digits_lt q (bit_and_rest n v w b))

-- even parts make an even sum
even_sum : (x p v z : ℕ) → z % 2 ≡ 0 → (x * (p * 2 * 2) + v * (p * 2) + z) % 2 ≡ 0
even_sum x p v z e = omega arith

-- a bit other than bit 0 leaves an even word even
pub bit_even : (n v w : ℕ) → 0 < n → w % 2 ≡ 0 → with_bit n v w % 2 ≡ 0
bit_even zero v w h e = absurd (omega arith)
bit_even (suc n) v w h e =
    let z : w % 2 ^ suc n % 2 ≡ 0 = subst (λ (j : ℕ). w % 2 ^ j % 2 ≡ w % 2) (add-one n) (mod-mod-pow w n 1) ∙ e in
    rw (pow-suc 2 (suc n), pow-suc 2 n) (even_sum _ (2 ^ n) v _ (rw (pow-suc 2 n) at z))

-- the bit that was set is read again, and a second setting takes the first one's place
module _ (n u w : ℕ) (b : u < 2) where
  as_digits : with_bit n u w ≡ (w / 2 ^ suc n * 2 + u) * 2 ^ n + w % 2 ^ n
  as_digits = rw (pow-suc 2 n) (spread (w / (2 ^ n * 2)) u (w % 2 ^ n) (2 ^ n))
    where
      spread : (x y r p : ℕ) → x * (p * 2) + y * p + r ≡ (x * 2 + y) * p + r
      spread x y r p = omega arith

  -- the bits above it and below it stay
  upper : with_bit n u w / 2 ^ suc n ≡ w / 2 ^ suc n
  upper =
      ap (λ (x : ℕ). x / 2 ^ suc n) (add_assoc (w / 2 ^ suc n * 2 ^ suc n) (u * 2 ^ n) (w % 2 ^ n))
      ∙ digits_div (w / 2 ^ suc n) (bit_and_rest n u w b)

  lower : with_bit n u w % 2 ^ n ≡ w % 2 ^ n
  lower = ap (λ (x : ℕ). x % 2 ^ n) as_digits ∙ digits_mod (w / 2 ^ suc n * 2 + u) (mod-lt w (pow_pos n))

  pub bit_read : bit n (with_bit n u w) ≡ u
  bit_read =
      ap (λ (x : ℕ). x / 2 ^ n % 2) as_digits
      ∙ ap (λ (x : ℕ). x % 2) (digits_div (w / 2 ^ suc n * 2 + u) (mod-lt w (pow_pos n)))
      ∙ digits_mod (w / 2 ^ suc n) b

  pub bit_again : (v : ℕ) → with_bit n v (with_bit n u w) ≡ with_bit n v w
  bit_again v =
      ap (λ (x : ℕ). x * 2 ^ suc n + v * 2 ^ n + with_bit n u w % 2 ^ n) upper
      ∙ ap (λ (x : ℕ). w / 2 ^ suc n * 2 ^ suc n + v * 2 ^ n + x) lower
