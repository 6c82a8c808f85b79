-- The cases over signs are the carry out of a width and the signed overflow, and in 16 bits the adder's.
-- Assumes nothing.
use Rattle.std.proofs.Common.{◌≡◌, ℕ, suc, ◌+◌, ◌-◌, ◌*◌, ◌/◌, ◌%◌, ◌^◌, ◌<◌, ◌≤◌, Bool, true, false, cond, not, ltb, leb, ℤ, pos, negsuc, ◌+ℤ◌, sym, refl, ap, ◌∙◌, subst, mod-lt, arith, lit<, pow_pos, ltb-false, ltb-true, le-ltb, lt-ltb, le-leb, leb-false, leb-true}
use native.Mathlib.Decide.{dec_lt}
use lib.Arith.{digits_div, digits_mod}
use lib.IntN.{sub_ℕ}
use lib.Signed.{mag}
use borrow.Author.Tests.{lt-leb}
use Rattle.isa.specs.Machine.{flag_of}
use Rattle.isa.specs.Flags.{adder, signed_of}
use Rattle.isa.specs.Signs.{sign_if, sign_of, carry_by_signs, overflow_by_signs}
use Rattle.isa.specs.Signs.{CarryInWidth, OverflowInWidth, AdderCarryBySigns, AdderOverflowBySigns}
use Rattle.isa.proofs.Signed.{twice_half}

-- The half of a width that n lies in, h being its size: the upper one is that of the negative numbers.
abbrev Half : ℕ → ℕ → Bool → Type 0
Half h n true = h ≤ n
Half h n false = n < h

half : (h n : ℕ) (s : Bool) → leb h n ≡ s → Half h n s
half h n true q = leb-true h n q
half h n false q = leb-false h n q

in_half : (h n : ℕ) (s : Bool) → Half h n s → leb h n ≡ s
in_half h n true l = le-leb h n l
in_half h n false l = lt-leb h n l

-- the sum of a number that is not negative, x, a negative one, -(y + 1), and a carry in: within the signed range
unlike_small : (h x y c : ℕ) → x < h → y < h → c < 2 → mag (sub_ℕ x (suc y) +ℤ pos c) < h
unlike_small h x y c p q l = go (ltb x (suc y)) refl
  where
    below : (z : ℕ) → z < h → mag (sub_ℕ c (suc z)) < h
    below z m = at (ltb c (suc z)) refl
      where
        at : (t : Bool) → ltb c (suc z) ≡ t → mag (cond t (negsuc (suc z - suc c)) (pos (c - suc z))) < h
        at true e = omega (arith, ltb-true c (suc z) e)
        at false e = omega (arith, ltb-false c (suc z) e)

    go : (t : Bool) → ltb x (suc y) ≡ t → mag (cond t (negsuc (suc y - suc x)) (pos (x - suc y)) +ℤ pos c) < h
    go true e = below (suc y - suc x) (omega (arith, ltb-true x (suc y) e))
    go false e = omega (arith, ltb-false x (suc y) e)

-- the sum of two negative numbers, -(x + 1) and -(y + 1), and a carry in
both_negative : (x y c : ℕ) → c < 2 → mag (negsuc x +ℤ negsuc y +ℤ pos c) ≡ suc (x + y) - c
both_negative x y c l = simp (lt-ltb c (suc (suc (x + y))) (omega arith)) (omega arith)

module _ (k a b c : ℕ) (some : 0 < k) (ha : a < 2 ^ k) (hb : b < 2 ^ k) (hc : c < 2) where
  abbrev h : ℕ
  h = 2 ^ (k - 1)

  abbrev total : ℕ
  total = a + b + c

  abbrev value : ℕ
  value = total % 2 ^ k

  whole : 2 ^ k ≡ h * 2
  whole = twice_half k some

  low : value < 2 ^ k
  low = mod-lt total (pow_pos k)

  -- the sum's digits in the width
  digits : (q v : ℕ) → v < 2 ^ k → q * 2 ^ k + v ≡ total → (value ≡ v) × (total / 2 ^ k ≡ q)
  digits q v l e =
      (ap (λ (n : ℕ). n % 2 ^ k) (sym e) ∙ digits_mod q l, ap (λ (n : ℕ). n / 2 ^ k) (sym e) ∙ digits_div q l)

  within : total < 2 ^ k → (value ≡ total) × (total / 2 ^ k ≡ 0)
  within l = digits 0 total l (omega arith)

  beyond : 2 ^ k ≤ total → (value ≡ total - 2 ^ k) × (total / 2 ^ k ≡ 1)
  beyond l = digits 1 (total - 2 ^ k) (omega (arith, whole)) (omega arith)

  -- ---- carry

  -- a sum within the width meets only rows without a carry
  none_carried : value ≡ total → (s t r : Bool) → Half h a s → Half h b t → Half h value r
      → carry_by_signs (sign_if s) (sign_if t) (sign_if r) ≡ 0
  none_carried e false false false p q o = refl
  none_carried e false false true p q o = refl
  none_carried e false true false p q o = absurd (omega arith)
  none_carried e false true true p q o = refl
  none_carried e true false false p q o = absurd (omega arith)
  none_carried e true false true p q o = refl
  none_carried e true true false p q o = absurd (omega arith)
  none_carried e true true true p q o = absurd (omega (arith, whole, low))

  -- a sum beyond it meets only rows with one
  one_carried : value ≡ total - 2 ^ k → 2 ^ k ≤ total → (s t r : Bool) → Half h a s → Half h b t → Half h value r
      → carry_by_signs (sign_if s) (sign_if t) (sign_if r) ≡ 1
  one_carried e l false false false p q o = absurd (omega (arith, whole))
  one_carried e l false false true p q o = absurd (omega (arith, whole))
  one_carried e l false true false p q o = refl
  one_carried e l false true true p q o = absurd (omega (arith, whole))
  one_carried e l true false false p q o = refl
  one_carried e l true false true p q o = absurd (omega (arith, whole))
  one_carried e l true true false p q o = refl
  one_carried e l true true true p q o = refl

  carry_by : (s t r : Bool) → Half h a s → Half h b t → Half h value r
      → carry_by_signs (sign_if s) (sign_if t) (sign_if r) ≡ total / 2 ^ k
  carry_by s t r p q o = go (dec_lt total (2 ^ k))
    where
      go : Dec (total < 2 ^ k) → carry_by_signs (sign_if s) (sign_if t) (sign_if r) ≡ total / 2 ^ k
      go (yes l) =
          let (e, d) = within l in
          none_carried e s t r p q o ∙ sym d
      go (no l) =
          let m : 2 ^ k ≤ total = omega arith in
          let (e, d) = beyond m in
          one_carried e m s t r p q o ∙ sym d

  -- ---- overflow

  -- the signed meaning of a number of k bits, by its sign
  abbrev meaning : Bool → ℕ → ℤ
  meaning false n = pos n
  meaning true n = negsuc (2 ^ k - suc n)

  meaning_is : (s : Bool) (n : ℕ) → Half h n s → signed_of k n ≡ meaning s n
  meaning_is false n l = simp (lt-ltb n h l)
  meaning_is true n l = simp (le-ltb n h l)

  -- the signed sum, where s and t are the operands' signs
  abbrev size : Bool → Bool → ℕ
  size s t = mag (meaning s a +ℤ meaning t b +ℤ pos c)

  -- two that are not negative: their sum is within the width, so it is the result
  overflow_pos : (r : Bool) → Half h a false → Half h b false → Half h value r → Half h (size false false) r
  overflow_pos r p q o = subst (λ (n : ℕ). Half h n r) (within (omega (arith, whole))).0 o

  -- two negative ones: their sum is beyond the width, and what is left of it has the other sign if it is too far
  -- below zero
  negative_size : size true true ≡ suc (2 ^ k - suc a + (2 ^ k - suc b)) - c
  negative_size = both_negative (2 ^ k - suc a) (2 ^ k - suc b) c hc

  overflow_neg : (r : Bool) → Half h a true → Half h b true → Half h value r → Half h (size true true) (not r)
  overflow_neg false p q o = omega (arith, whole, negative_size, (beyond (omega (arith, whole))).0)
  overflow_neg true p q o = omega (arith, whole, negative_size, (beyond (omega (arith, whole))).0)

  -- different signs: never
  overflow_left : Half h a true → Half h b false → Half h (size true false) false
  overflow_left p q = unlike_small h b (2 ^ k - suc a) c q (omega (arith, whole)) hc

  overflow_right : Half h a false → Half h b true → Half h (size false true) false
  overflow_right p q = unlike_small h a (2 ^ k - suc b) c p (omega (arith, whole)) hc

  flag : (s t o : Bool) → Half h (size s t) o → flag_of o ≡ flag_of (leb h (size s t))
  flag s t o l = sym (ap flag_of (in_half h (size s t) o l))

  overflow_by : (s t r : Bool) → Half h a s → Half h b t → Half h value r
      → overflow_by_signs (sign_if s) (sign_if t) (sign_if r) ≡ flag_of (leb h (size s t))
  overflow_by false false false p q o = flag false false false (overflow_pos false p q o)
  overflow_by false false true p q o = flag false false true (overflow_pos true p q o)
  overflow_by false true false p q o = flag false true false (overflow_right p q)
  overflow_by false true true p q o = flag false true false (overflow_right p q)
  overflow_by true false false p q o = flag true false false (overflow_left p q)
  overflow_by true false true p q o = flag true false false (overflow_left p q)
  overflow_by true true false p q o = flag true true true (overflow_neg false p q o)
  overflow_by true true true p q o = flag true true false (overflow_neg true p q o)

  -- by the operands' and the result's own signs
  side : (n : ℕ) → Half h n (leb h n)
  side n = half h n (leb h n) refl

  signed_sum : signed_of k a +ℤ signed_of k b +ℤ pos c ≡ meaning (leb h a) a +ℤ meaning (leb h b) b +ℤ pos c
  signed_sum = simp (meaning_is (leb h a) a (side a), meaning_is (leb h b) b (side b))

  carry : carry_by_signs (sign_of k a) (sign_of k b) (sign_of k value) ≡ total / 2 ^ k
  carry = carry_by (leb h a) (leb h b) (leb h value) (side a) (side b) (side value)

  overflow : overflow_by_signs (sign_of k a) (sign_of k b) (sign_of k value)
      ≡ flag_of (leb h (mag (signed_of k a +ℤ signed_of k b +ℤ pos c)))
  overflow =
      overflow_by (leb h a) (leb h b) (leb h value) (side a) (side b) (side value)
      ∙ sym (ap (λ (z : ℤ). flag_of (leb h (mag z))) signed_sum)

-- the carry of two words and a carry in is a bit
pub sum_carry : (a b c : ℕ) → a < 65536 → b < 65536 → c < 2 → (adder a b c).carry < 2
unfolding adder
sum_carry a b c ha hb hc = omega arith

pub carry_in_width : CarryInWidth
carry_in_width = carry

pub overflow_in_width : OverflowInWidth
overflow_in_width = overflow

pub carry_by_signs_law : AdderCarryBySigns
unfolding adder
carry_by_signs_law a b c = carry 16 a b c (lit< tt)

pub overflow_by_signs_law : AdderOverflowBySigns
unfolding adder
overflow_by_signs_law a b c = overflow 16 a b c (lit< tt)
