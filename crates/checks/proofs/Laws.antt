-- Tests of all PCRs and of all STS, by the bits of all together.
-- Assumes nothing.
use Prim.Native.Nat.{ℕ, zero, suc, ◌*◌, ◌/◌, ◌%◌, ◌^◌, ◌≤◌}
use mathlib.Core.Path.{◌≡◌, refl, sym, ap, ◌∙◌}
use mathlib.Core.Bool.{Bool, true, false, ◌&&◌, and-true, and-false, and_assoc, and_comm}
use mathlib.Core.List.{List}
use native.Mathlib.Omega.{arith}
use lib.Bits.{bit_or, or_zero_l, or_lt, or_add_and, or_shr, or_mod, and_le_l, and_le_r}
use lib.ListN.{get_or, drop, length, drop_of_length-le}
use lib.Seq.{drop-cons}
use lib.Dec.{ltb, eqb}
use borrow.Author.Tests.{ltb-true, ltb-false, lt-ltb, le-ltb, ne_eqb}
use Rattle.isa.specs.Machine.{level_count, pcr_bits, all_pcr_bits, flags_fit}
use Rattle.checks.specs.Bits.{bits_of}

-- ---- a test of the bits of two numbers together is the test of both

-- all bits of x are among them
at_least : (x y : ℕ) → x ≤ bit_or x y
at_least x y = omega (arith, or_add_and x y, and_le_r x y)

none_in_both : (x y : ℕ) → eqb (bit_or x y) 0 ≡ (eqb x 0 && eqb y 0)
none_in_both zero y = ap (λ (n : ℕ). eqb n 0) (or_zero_l y)
none_in_both (suc x) y =
    ne_eqb (bit_or (suc x) y) 0 (λ e. omega (arith, at_least (suc x) y))
    ∙ ap (λ (b : Bool). b && eqb y 0) (sym (ne_eqb (suc x) 0 (λ e. omega arith)))

-- a field of j bits from bit k on is 0
field_in_both : (k j x y : ℕ)
    → eqb (bit_or x y / 2 ^ k % 2 ^ j) 0 ≡ (eqb (x / 2 ^ k % 2 ^ j) 0 && eqb (y / 2 ^ k % 2 ^ j) 0)
field_in_both k j x y =
    ap (λ (n : ℕ). eqb (n % 2 ^ j) 0) (or_shr x y k)
    ∙ ap (λ (n : ℕ). eqb n 0) (or_mod (x / 2 ^ k) (y / 2 ^ k) j)
    ∙ none_in_both (x / 2 ^ k % 2 ^ j) (y / 2 ^ k % 2 ^ j)

-- no bit from bit k on
below_both : (k x y : ℕ) → ltb (bit_or x y) (2 ^ k) ≡ (ltb x (2 ^ k) && ltb y (2 ^ k))
below_both k x y = go (ltb x (2 ^ k)) (ltb y (2 ^ k)) refl refl
  where
    go : (a b : Bool) → ltb x (2 ^ k) ≡ a → ltb y (2 ^ k) ≡ b → ltb (bit_or x y) (2 ^ k) ≡ (a && b)
    go true true p q = lt-ltb (bit_or x y) (2 ^ k) (or_lt k x y (ltb-true x (2 ^ k) p) (ltb-true y (2 ^ k) q))
    go true false p q =
        le-ltb (bit_or x y) (2 ^ k) (omega (arith, or_add_and x y, and_le_l x y, ltb-false y (2 ^ k) q))
    go false b p q = le-ltb (bit_or x y) (2 ^ k) (omega (arith, at_least x y, ltb-false x (2 ^ k) p))

pcr_both : (x y : ℕ) → pcr_bits (bit_or x y) ≡ (pcr_bits x && pcr_bits y)
pcr_both x y =
    (λ i. field_in_both 2 5 x y i && below_both 11 x y i)
    ∙ pairs (eqb (x / 4 % 32) 0) (eqb (y / 4 % 32) 0) (ltb x 2048) (ltb y 2048)
  where
    pairs : (a b c d : Bool) → (a && b && (c && d)) ≡ (a && c && (b && d))
    pairs true true c d = refl
    pairs true false c d = sym (and-false c)
    pairs false b c d = refl

-- ---- all PCRs, and all STS

-- n PCRs by their bits together, the others one by one
pcrs_by_bits : (n : ℕ) (p : List ℕ) → n ≤ length p
    → (pcr_bits (bits_of n 1 p) && all_pcr_bits (drop n p)) ≡ all_pcr_bits p
unfolding bits_of
pcrs_by_bits zero p h = refl
pcrs_by_bits (suc n) p h =
    let rest : Bool = all_pcr_bits (drop (suc n) p) in
    let one : n * 1 ≡ n = omega arith in
    ap (λ (x : Bool). x && rest) (pcr_both (bits_of n 1 p) (get_or p (n * 1) 0))
    ∙ and_assoc (pcr_bits (bits_of n 1 p)) (pcr_bits (get_or p (n * 1) 0)) rest
    ∙ ap (λ (i : ℕ). pcr_bits (bits_of n 1 p) && (pcr_bits (get_or p i 0) && rest)) one
    ∙ ap (λ (l : List ℕ). pcr_bits (bits_of n 1 p) && all_pcr_bits l) (sym (drop-cons p n 0 (omega arith)))
    ∙ pcrs_by_bits n p (omega arith)

pub all_by_bits : (p : List ℕ) → length p ≡ level_count → pcr_bits (bits_of level_count 1 p) ≡ all_pcr_bits p
all_by_bits p e =
    let bits : Bool = pcr_bits (bits_of level_count 1 p) in
    sym (and-true bits)
    ∙ ap (λ (l : List ℕ). bits && all_pcr_bits l) (sym (drop_of_length-le p {i = level_count} (omega arith)))
    ∙ pcrs_by_bits level_count p (omega arith)

pub flags_by_bits : (n : ℕ) (b : List ℕ) → ltb (bits_of n 8 b) 256 ≡ flags_fit n b
unfolding bits_of
flags_by_bits zero b = refl
flags_by_bits (suc n) b =
    below_both 8 (bits_of n 8 b) (get_or b (n * 8) 0)
    ∙ ap (λ (x : Bool). x && ltb (get_or b (n * 8) 0) 256) (flags_by_bits n b)
    ∙ and_comm (flags_fit n b) (ltb (get_or b (n * 8) 0) 256)
