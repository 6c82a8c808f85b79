-- Bits of a word, for any width.
-- Assumes nothing.
use Rattle.std.proofs.Common.{◌≡◌, ℕ, zero, suc, ◌+◌, ◌-◌, ◌*◌, ◌/◌, ◌%◌, ◌^◌, ◌<◌, ◌≤◌, Bool, true, false, ltb, sym, refl, ap, ◌∙◌, subst, lt_of_lt_of_le, mod-lt, mul_assoc, mul_comm, add-mul, one-mul, pow-suc, div-add-mod', add-one, arith, lit<, pow_mono, shl_exact, shr-shr, ltb-false, ltb-true, eq-eqb, ne_eqb}
use native.Mathlib.Nat.{div-eq_of_lt}
use native.Mathlib.Nat.{div-eq_of_lt-le}
use mir.Val.{bool_byte}
use lib.Count.{count_leading_zeros, leading_length}
use lib.Pow.{split}
use Rattle.isa.specs.Machine.{bit, with_bit, flag_of}
use Rattle.isa.specs.System.{highest_in}

-- a flag is a bit, and what a bool is as a number
pub flag_below : (b : Bool) → flag_of b < 2
flag_below true = lit< tt
flag_below false = lit< tt

pub flag_is : (b : Bool) → bool_byte b ≡ flag_of b
flag_is true = refl
flag_is false = refl

-- a bit at place n of k bits
pub placed : (b n k : ℕ) → b < 2 → n < k → (b * 2 ^ n) % 2 ^ k ≡ b * 2 ^ n
placed b n k l h = shl_exact {a = b} 1 n k l (omega arith)

halves : (q p : ℕ) → q / 2 * (p * 2) + q % 2 * p ≡ q * p
halves q p =
    ap (λ (x : ℕ). q / 2 * x + q % 2 * p) (mul_comm p 2)
    ∙ ap (λ (x : ℕ). x + q % 2 * p) (sym (mul_assoc (q / 2) 2 p))
    ∙ sym (add-mul (q / 2 * 2) (q % 2) p)
    ∙ ap (λ (x : ℕ). x * p) (div-add-mod' q 2)

-- a word is the bits above bit n, that bit, and the bits below
parts : (n w : ℕ) → w / 2 ^ suc n * 2 ^ suc n + bit n w * 2 ^ n + w % 2 ^ n ≡ w
parts n w =
    let h : w / 2 ^ suc n ≡ w / 2 ^ n / 2 = sym (shr-shr w n 1 ∙ ap (λ (j : ℕ). w / 2 ^ j) (add-one n)) in
    ap (λ (x : ℕ). x * 2 ^ suc n + bit n w * 2 ^ n + w % 2 ^ n) h
    ∙ ap (λ (x : ℕ). w / 2 ^ n / 2 * x + bit n w * 2 ^ n + w % 2 ^ n) (pow-suc 2 n)
    ∙ ap (λ (x : ℕ). x + w % 2 ^ n) (halves (w / 2 ^ n) (2 ^ n))
    ∙ split w n

-- the bit taken out, as b, and the flag v put in, as u
module _ (k n w b u : ℕ) (v : Bool) (h : n < k) (e : b ≡ bit n w) (i : u ≡ flag_of v) where
  taken : (b * 2 ^ n) % 2 ^ k ≡ bit n w * 2 ^ n
  taken = ap (λ (x : ℕ). (x * 2 ^ n) % 2 ^ k) e ∙ placed (bit n w) n k (mod-lt (w / 2 ^ n) (lit< tt)) h

  put : (u * 2 ^ n) % 2 ^ k ≡ flag_of v * 2 ^ n
  put = ap (λ (x : ℕ). (x * 2 ^ n) % 2 ^ k) i ∙ placed (flag_of v) n k (flag_below v) h

  pub changed : w - (b * 2 ^ n) % 2 ^ k + (u * 2 ^ n) % 2 ^ k ≡ with_bit n (flag_of v) w
  changed = omega (arith, taken, parts n w, put)

-- ---- the highest bit

-- a number of k + 1 bits has bit k set, and none above
top_set : (k w : ℕ) → 2 ^ k ≤ w → w < 2 ^ suc k → bit k w ≡ 1
top_set k w p q =
    let d : w / 2 ^ k ≡ 1 = div-eq_of_lt-le (2 ^ k) (omega (arith, one-mul (2 ^ k)))
    (subst (λ (x : ℕ). w < x) (pow-suc 2 k ∙ mul_comm (2 ^ k) 2) q) in
    ap (λ (x : ℕ). x % 2) d

none_above : (j k w : ℕ) → k < j → w < 2 ^ suc k → bit j w ≡ 0
none_above j k w h q = ap (λ (x : ℕ). x % 2) (div-eq_of_lt (lt_of_lt_of_le q (pow_mono h)))

pub highest_at : (j k w : ℕ) → k ≤ j → 2 ^ k ≤ w → w < 2 ^ suc k → highest_in j w ≡ k
highest_at zero k w h p q = omega arith
highest_at (suc j) k w h p q = go (λ (i : k ≤ j). highest_at j k w i p q) (ltb k (suc j)) refl
  where
    go : (k ≤ j → highest_in j w ≡ k) → (t : Bool) → ltb k (suc j) ≡ t → highest_in (suc j) w ≡ k
    go rest true e =
        let i : k < suc j = ltb-true k (suc j) e in
        let z : bit (suc j) w ≡ 0 = none_above (suc j) k w i q in
        simp (ne_eqb (bit (suc j) w) 1 (λ y. omega (arith, z, y))) (rest (omega arith))
    go rest false e =
        let i : suc j ≤ k = ltb-false k (suc j) e in
        let s : suc j ≡ k = omega arith in
        let z : bit (suc j) w ≡ 1 = subst (λ (x : ℕ). bit x w ≡ 1) (sym s) (top_set k w p q) in
        simp (eq-eqb (bit (suc j) w) 1 z) s

module _ (w : ℕ) (l : w < 65536) (h : w ≡ 0 → ⊥) where
  -- the word's length, one more than its highest bit
  abbrev size : ℕ
  size = (leading_length 16 w l).0

  zeros : count_leading_zeros 16 w + size ≡ 16
  zeros = (leading_length 16 w l).1

  some : (m : ℕ) → w < 2 ^ m → 0 < m
  some zero q = absurd (h (omega arith))
  some (suc m) q = omega arith

  lowest : (m : ℕ) → 2 ^ suc m ≤ 2 * w + 1 → 2 ^ m ≤ w
  lowest m q = omega (arith, q, pow-suc 2 m)

  pub highest_length : 15 - count_leading_zeros 16 w ≡ highest_in 15 w
  highest_length =
      let s : suc (size - 1) ≡ size = omega (arith, some size (leading_length 16 w l).2) in
      let i : size - 1 ≤ 15 = omega (arith, zeros) in
      let d : 15 - count_leading_zeros 16 w ≡ size - 1 = omega (arith, zeros, some size (leading_length 16 w l).2) in
      d ∙ sym (highest_at 15 (size - 1) w i
      (lowest (size - 1) (subst (λ (x : ℕ). 2 ^ x ≤ 2 * w + 1) (sym s) (leading_length 16 w l).3))
      (subst (λ (x : ℕ). w < 2 ^ x) (sym s) (leading_length 16 w l).2))
