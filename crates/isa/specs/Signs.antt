-- Document 02, card 2: "the carry and overflow of addition, with and without a carry in, as cases over the two operand
-- signs and the result's sign", and that "for all operands they are the adder's carry and the signed overflow".
use Rattle.std.specs.Prelude.{◌≡◌, ℕ, ◌+◌, ◌-◌, ◌/◌, ◌%◌, ◌^◌, ◌<◌, Bool, true, false, pos, ◌+ℤ◌, nat_le}
use Rattle.std.specs.Int.Signed.{mag}
use Rattle.isa.specs.Machine.{word_range, flag_of}
use Rattle.isa.specs.Flags.{signed_of, adder}

-- Ruling D3: "A sign is bit 15": Neg where it is 1, Pos where it is 0, so of zero too. Of a number below 2 ^ k it is
-- bit k - 1.
pub data Sign : Type 0 where
  Pos : Sign
  Neg : Sign

abbrev pub sign_if : Bool → Sign
sign_if false = Pos
sign_if true = Neg

abbrev pub sign_of : ℕ → ℕ → Sign
sign_of k n = sign_if (nat_le (2 ^ (k - 1)) n)

-- The cases are by the sign of the first operand, of the second, and of the result, which is the low bits of their sum
-- and the carry in. Whose operands: ruling D3, so of SUB the second is the word's complement and the carry in is 1.

-- Document 002: C is 1 "If a carry occurs from the signed bit positions of the adder." Ruling D4: where the operands'
-- signs are equal it is that sign; where they are different it is 1 exactly if the result is not negative.
abbrev pub carry_by_signs : Sign → Sign → Sign → ℕ
carry_by_signs Pos Pos Pos = 0
carry_by_signs Pos Pos Neg = 0
carry_by_signs Pos Neg Pos = 1
carry_by_signs Pos Neg Neg = 0
carry_by_signs Neg Pos Pos = 1
carry_by_signs Neg Pos Neg = 0
carry_by_signs Neg Neg Pos = 1
carry_by_signs Neg Neg Neg = 1

-- Document 002: O is 1 "if the signs of the two operands are equal and the sign of the result is different."
abbrev pub overflow_by_signs : Sign → Sign → Sign → ℕ
overflow_by_signs Pos Pos Pos = 0
overflow_by_signs Pos Pos Neg = 1
overflow_by_signs Pos Neg Pos = 0
overflow_by_signs Pos Neg Neg = 0
overflow_by_signs Neg Pos Pos = 0
overflow_by_signs Neg Pos Neg = 0
overflow_by_signs Neg Neg Pos = 1
overflow_by_signs Neg Neg Neg = 0

-- ---- the theorems, for every width k above 0, all operands of k bits, and a carry in of 0 or 1

-- the cases tell what is carried out of k bits
abbrev pub CarryInWidth : Type 0
CarryInWidth =
    (k a b c : ℕ) → 0 < k → a < 2 ^ k → b < 2 ^ k → c < 2
    → carry_by_signs (sign_of k a) (sign_of k b) (sign_of k ((a + b + c) % 2 ^ k)) ≡ (a + b + c) / 2 ^ k

-- .. and whether the sum of the two signed numbers and the carry in is beyond k bits signed, as Flags.too_large has it
-- for 16
abbrev pub OverflowInWidth : Type 0
OverflowInWidth =
    (k a b c : ℕ) → 0 < k → a < 2 ^ k → b < 2 ^ k → c < 2
    → overflow_by_signs (sign_of k a) (sign_of k b) (sign_of k ((a + b + c) % 2 ^ k))
    ≡ flag_of (nat_le (2 ^ (k - 1)) (mag (signed_of k a +ℤ signed_of k b +ℤ pos c)))

-- In 16 bits: "for all operands they are the adder's carry and the signed overflow"
abbrev pub AdderCarryBySigns : Type 0
AdderCarryBySigns =
    (a b c : ℕ) → a < word_range → b < word_range → c < 2
    → carry_by_signs (sign_of 16 a) (sign_of 16 b) (sign_of 16 (adder a b c).value) ≡ (adder a b c).carry

abbrev pub AdderOverflowBySigns : Type 0
AdderOverflowBySigns =
    (a b c : ℕ) → a < word_range → b < word_range → c < 2
    → overflow_by_signs (sign_of 16 a) (sign_of 16 b) (sign_of 16 (adder a b c).value) ≡ (adder a b c).overflow
