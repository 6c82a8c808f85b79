-- Document 01, "Flags and signs".
use Rattle.std.specs.Prelude.{ℕ, zero, suc, ◌+◌, ◌-◌, ◌*◌, ◌/◌, ◌%◌, ◌^◌, Bool, true, false, cond, not, ◌||◌, ℤ, pos, negsuc, ◌+ℤ◌, ◌*ℤ◌, ◌==◌, int_div, int_le, int_rem, nat_le, nat_lt, unsigned_abs}
use Rattle.std.specs.Int.Signed.{mag}
use Rattle.isa.specs.Machine.{word_range, all_ones, flag_of, with_bit, flag_q, flag_o, flag_c}
use Rattle.isa.specs.declared.instruction.Relation.{Relation}
use Rattle.isa.specs.declared.instruction.Relation.TheVariants.{Eql, Geq, Gre, Mgre, Ueq, Lss, Lst, Mlst}
use Rattle.isa.specs.declared.instruction.ShiftKind.{ShiftKind}
use Rattle.isa.specs.declared.instruction.ShiftKind.TheVariants.{Arithmetic, Rotational, ZeroInput, LinkInput}

-- The signed meaning of the k bits n, in two's complement; n is below 2 ^ k. (`negsuc n` is the whole number -(n + 1).)
abbrev pub signed_of : ℕ → ℕ → ℤ
signed_of k n = cond (nat_lt n (2 ^ (k - 1))) (pos n) (negsuc (2 ^ k - suc n))

-- A word whose sign, bit 15, is 1.
abbrev pub negative : ℕ → Bool
negative w = nat_le 32768 w

-- A whole number modulo m: the residue from 0 to m - 1. (`negsuc n` is -(n + 1).)
abbrev pub residue : ℕ → ℤ → ℕ
residue m (pos n) = n % m
residue m (negsuc n) = m - suc (n % m)

-- The low k bits of a whole number in two's complement.
abbrev pub bits_of : ℕ → ℤ → ℕ
bits_of k z = residue (2 ^ k) z

-- A whole number is beyond 16 bits signed. (`mag z` is n both for n and for -(n + 1).)
abbrev pub too_large : ℤ → Bool
too_large z = nat_le 32768 (mag z)

-- a word's complement, as in "SUB (A + complement + 1)"; a word is not above 65,535, so nothing is cut off
abbrev pub complement : ℕ → ℕ
complement w = all_ones - w

-- "ADD, SUB (A + complement + 1), AAx and adding register operations: C is the adder's carry, O the signed overflow";
-- of two words, with a carry in of 0 or 1, so that the carry out is 0 or 1.
pub record Sum : Type 0 where
  pub value : ℕ
  pub carry : ℕ
  pub overflow : ℕ

unfoldable pub adder : ℕ → ℕ → ℕ → Sum
adder a b c = record {
  value = (a + b + c) % word_range;
  carry = (a + b + c) / word_range;
  overflow = flag_of (too_large (signed_of 16 a +ℤ signed_of 16 b +ℤ pos c));
}

-- "overflow also sets Q; without it O is 0 and Q stays"
unfoldable pub with_overflow : ℕ → ℕ → ℕ
with_overflow o sts = cond (o == 1) (with_bit flag_o 1 (with_bit flag_q 1 sts)) (with_bit flag_o 0 sts)

-- STS after an addition
unfoldable pub with_sum : Sum → ℕ → ℕ
with_sum s sts = with_bit flag_c s.carry (with_overflow s.overflow sts)

-- "MPY: A gets the low 16 bits. O and Q are set if the product's absolute value exceeds 32,767"
abbrev pub product : ℕ → ℕ → ℤ
product a b = signed_of 16 a *ℤ signed_of 16 b

unfoldable pub product_overflow : ℕ → ℕ → ℕ
product_overflow a b = flag_of (nat_lt 32767 (unsigned_abs (product a b)))

-- "RDIV: quotient toward zero in A, remainder with the dividend's sign in D. Divisor 0 or a quotient outside -32,768 to
-- 32,767" fails. The dividend is the 32 bits n, the divisor the 16 bits d.
abbrev pub quotient : ℕ → ℕ → ℤ
quotient n d = int_div (signed_of 32 n) (signed_of 16 d)

abbrev pub remainder : ℕ → ℕ → ℤ
remainder n d = int_rem (signed_of 32 n) (signed_of 16 d)

unfoldable pub division_fails : ℕ → ℕ → Bool
division_fails n d = d == 0 || too_large (quotient n d)

-- Shifts, for any width from 1 on: single shifts, and so many of them. What is shifted: a value below 2 ^ width, and M.
pub record Shifted : Type 0 where
  pub value : ℕ
  pub m : ℕ

-- One place to the left in a width: the top bit leaves, and a bit comes in at the lower end, by the kind. Ruling 21:
-- LIN takes M in. Decided by us (docs/DECISIONS.md, part 2, 2): an arithmetic shift to the left takes a 0 in.
abbrev pub lower_input : ShiftKind → ℕ → ℕ → ℕ
lower_input Arithmetic top m = 0
lower_input Rotational top m = top
lower_input ZeroInput top m = 0
lower_input LinkInput top m = m

unfoldable pub left_once : ℕ → ShiftKind → Shifted → Shifted
left_once w k s =
    let top = s.value / 2 ^ (w - 1) in
    record { value = s.value % 2 ^ (w - 1) * 2 + lower_input k top s.m; m = top }

-- One place to the right: the lowest bit leaves, and a bit comes in at the upper end.
abbrev pub upper_input : ShiftKind → ℕ → ℕ → ℕ → ℕ
upper_input Arithmetic top low m = top
upper_input Rotational top low m = low
upper_input ZeroInput top low m = 0
upper_input LinkInput top low m = m

unfoldable pub right_once : ℕ → ShiftKind → Shifted → Shifted
right_once w k s =
    let top = s.value / 2 ^ (w - 1) in
    let low = s.value % 2 in
    record { value = upper_input k top low s.m * 2 ^ (w - 1) + s.value / 2; m = low }

-- One place in a direction.
abbrev pub once : Bool → ℕ → ShiftKind → Shifted → Shifted
once true w k s = left_once w k s
once false w k s = right_once w k s

-- So many single shifts. "M gets the last bit shifted out. Count 0 changes nothing." Ruling 21: a count beyond the
-- width is the single shift repeated, for every kind.
abbrev pub places_by : Bool → ℕ → ShiftKind → ℕ → Shifted → Shifted
places_by left w k zero s = s
places_by left w k (suc n) s = once left w k (places_by left w k n s)

-- "The shift count is bits 5-0, -32 to 31, left when positive."
abbrev pub shift_by : ℕ → ShiftKind → ℤ → Shifted → Shifted
shift_by w k n s = places_by (int_le (pos 0) n) w k (unsigned_abs n) s

-- "GEQ tests the sign of dr - sr in 16 bits; GRE is the true signed comparison." By document 002 MGRE compares without
-- signs (C = 1 of dr - sr), and the other four are the complements.
-- s is a word, so 65,536 - s is not cut off; the sum drops its carry.
abbrev pub word_difference : ℕ → ℕ → ℕ
word_difference d s = (d + (word_range - s)) % word_range

abbrev pub compares : Relation → ℕ → ℕ → Bool
compares Eql d s = d == s
compares Geq d s = nat_lt (word_difference d s) 32768
compares Gre d s = int_le (signed_of 16 s) (signed_of 16 d)
compares Mgre d s = nat_le s d
compares Ueq d s = not (d == s)
compares Lss d s = not (nat_lt (word_difference d s) 32768)
compares Lst d s = not (int_le (signed_of 16 s) (signed_of 16 d))
compares Mlst d s = not (nat_le s d)
