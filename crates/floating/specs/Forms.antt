-- Document 002, pages 5 and 6: the floating point words of 32 and of 48 bits, as document 02, card 12, and rulings D12
-- and D16 settle them. Their types are Short, words A and D, and Long, words T, A and D.
use Rattle.std.specs.Prelude.{ℕ, zero, suc, ◌+◌, ◌*◌, ◌-◌, ◌/◌, ◌%◌, ◌^◌, ◌<◌, Bool, cond, ◌&&◌, eqb, ℤ, pos, neg_ℤ}
use Rattle.isa.specs.Machine.{word_range, bit}
use Rattle.floating.specs.declared.form.Short.{Short}
use Rattle.floating.specs.declared.form.Long.{Long}
use Rattle.floating.specs.declared.form.Fields.{Fields}

-- a word has 16 bits
abbrev pub ShortIsWords : Short → Type 0
ShortIsWords s = (s.a < word_range) × (s.d < word_range)

abbrev pub LongIsWords : Long → Type 0
LongIsWords l = (l.t < word_range) × (l.a < word_range) × (l.d < word_range)

-- ---- the fields

-- "address n provides the sign, exponent and 6 most significant bits of the mantissa while address n+1 provides the
-- lower 16 bits of the mantissa." "The exponent consists of 9 bits". D12: "bit 15 of A sign, bits 14-6 exponent field
-- e, bits 5-0 of A and 15-0 of D the mantissa m of 22 bits".
abbrev pub short_fields : Short → Fields
short_fields s = record {
  sign = bit 15 s.a;
  exponent = s.a / 2 ^ 6 % 2 ^ 9;
  mantissa = s.a % 2 ^ 6 * word_range + s.d;
}

-- "Address n holds the single bit sign and the 15-bit exponent value, address n+1 the most significant part of the
-- mantissa and address n+2 the least significant." D12: "bit 15 of T sign, bits 14-0 exponent field E, A and D the
-- mantissa M of 32 bits".
abbrev pub long_fields : Long → Fields
long_fields l = record { sign = bit 15 l.t; exponent = l.t % 2 ^ 15; mantissa = l.a * word_range + l.d }

-- the fields that each form has room for, and the words that hold them
abbrev pub FitsShort : Fields → Type 0
FitsShort f = (f.sign < 2) × (f.exponent < 2 ^ 9) × (f.mantissa < 2 ^ 22)

abbrev pub FitsLong : Fields → Type 0
FitsLong f = (f.sign < 2) × (f.exponent < 2 ^ 15) × (f.mantissa < 2 ^ 32)

abbrev pub short_of : Fields → Short
short_of f = record {
  a = f.sign * 2 ^ 15 + f.exponent * 2 ^ 6 + f.mantissa / word_range;
  d = f.mantissa % word_range;
}

abbrev pub long_of : Fields → Long
long_of f = record {
  t = f.sign * 2 ^ 15 + f.exponent;
  a = f.mantissa / word_range;
  d = f.mantissa % word_range;
}

-- "floating zero: 0 in all 32 bits"; "Floating Zero: 0 in all bits". A sign alone is not zero (D14).
abbrev pub short_zero : Short
short_zero = record { a = 0; d = 0 }

abbrev pub long_zero : Long
long_zero = record { t = 0; a = 0; d = 0 }

unfoldable pub is_zero_short : Short → Bool
is_zero_short s = eqb s.a 0 && eqb s.d 0

unfoldable pub is_zero_long : Long → Bool
is_zero_long l = eqb l.t 0 && eqb l.a 0 && eqb l.d 0

-- ---- the values

-- 002: "The exponent is biased with 2^8." Card 12: in 48 bits it "is biased by 16,384"
abbrev pub short_bias : ℕ
short_bias = 2 ^ 8

abbrev pub long_bias : ℕ
long_bias = 16384

-- "accuracy: 23 bits", the top one implied; "Accuracy: 32 bits": the mantissa's bits
abbrev pub short_bits : ℕ
short_bits = 23

abbrev pub long_bits : ℕ
long_bits = 32

-- D16: "2^16416 times the value", which is a whole number in either form
abbrev pub scale : ℕ
scale = long_bias + long_bits

-- (-1) ^ sign x n
abbrev pub signed : ℕ → ℕ → ℤ
signed zero n = pos n
signed (suc s) n = neg_ℤ (pos n)

-- "The mantissa is normalised to lie from 0.5 to approximately 1": one of so many bits, m, stands for the fraction
-- m / 2 ^ bits, so the value is (-1) ^ sign x m x 2 ^ (e - bias - bits); here 2 ^ scale times as large
unfoldable pub value_by : (bits bias sign e m : ℕ) → ℤ
value_by bits bias s e m = signed s (m * 2 ^ (e + (scale - bias - bits)))

-- "in 32 bits the top bit is implied": (-1) ^ s x (2 ^ 22 + m) x 2 ^ (e + 16137), and 0 for zero
abbrev pub value_in_short : Fields → ℤ
value_in_short f = value_by short_bits short_bias f.sign f.exponent (2 ^ 22 + f.mantissa)

abbrev pub short_value : Short → ℤ
short_value s = cond (is_zero_short s) (pos 0) (value_in_short (short_fields s))

-- "In 48 bits the mantissa's top bit is stored": (-1) ^ s x M x 2 ^ E, which of zero is 0
abbrev pub value_in_long : Fields → ℤ
value_in_long f = value_by long_bits long_bias f.sign f.exponent f.mantissa

abbrev pub long_value : Long → ℤ
long_value l = value_in_long (long_fields l)
