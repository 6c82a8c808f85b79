-- Document 02, card 12: both conversions, "only where the value is exactly kept", with their refusals in their order.
use Rattle.std.specs.Prelude.{Result, Ok, Err, ℕ, ◌+◌, ◌*◌, ◌-◌, ◌/◌, ◌%◌, ◌^◌, Bool, cond, not, ◌||◌, List, [], ◌∷◌, ltb, eqb}
use Rattle.isa.specs.Machine.{bit}
use Rattle.isa.specs.Answers.{refusal_number, Told, tells_by}
use Rattle.isa.specs.declared.answer.Refusal.{Refusal}
use Rattle.isa.specs.declared.answer.Refusal.TheVariants.{Malformed, ExponentRange, Precision}
use Rattle.floating.specs.Forms.{short_fields, long_fields, short_of, long_of, short_zero, long_zero, is_zero_short}
use Rattle.floating.specs.Forms.{is_zero_long, short_bias, long_bias}
use Rattle.floating.specs.declared.form.Short.{Short}
use Rattle.floating.specs.declared.form.Long.{Long}
use Rattle.floating.specs.declared.form.Fields.{Fields}

-- ---- short to long

-- by how much the exponent fields of one value differ: 16,128
abbrev pub bias_gap : ℕ
bias_gap = long_bias - short_bias

-- D13: "same sign, E = e + 16,128, M = 2^31 + m x 2^9"
abbrev pub lengthened : Fields → Fields
lengthened f = record {
  sign = f.sign;
  exponent = f.exponent + bias_gap;
  mantissa = 2 ^ 31 + f.mantissa * 2 ^ 9;
}

-- "15, not zero and .. a short form with exponent field 0"
unfoldable pub malformed_short : Fields → Bool
malformed_short f = eqb f.exponent 0

-- D13: "all bits 0 gives all bits 0; else e = 0 is 15"
unfoldable pub to_long : Short → Result Long Refusal
to_long s =
    let f = short_fields s in
    cond (is_zero_short s) (Ok long_zero)
    (cond (malformed_short f) (Err Malformed)
    (Ok (long_of (lengthened f))))

-- ---- long to short

-- D14: "same sign, e = E - 16,128, m = M mod 2^31 / 2^9"
abbrev pub shortened : Fields → Fields
shortened f = record {
  sign = f.sign;
  exponent = f.exponent - bias_gap;
  mantissa = f.mantissa % 2 ^ 31 / 2 ^ 9;
}

-- "15, not zero and .. a long form with its top mantissa bit 0"
unfoldable pub malformed_long : Fields → Bool
malformed_long f = eqb (bit 31 f.mantissa) 0

-- "Exponent fields 1 to 511 of the short form match 16,129 to 16,639 of the long."
abbrev pub match_first : ℕ
match_first = 16129

abbrev pub match_last : ℕ
match_last = 16639

-- "16, a long exponent beyond the match"
unfoldable pub beyond_match : Fields → Bool
beyond_match f = ltb f.exponent match_first || ltb match_last f.exponent

-- "17, any of the nine lowest mantissa bits set"
unfoldable pub loses_bits : Fields → Bool
loses_bits f = not (eqb (f.mantissa % 2 ^ 9) 0)

-- D14: "all bits 0 gives all bits 0; else bit 15 of A zero is 15; else E outside 16,129 to 16,639 is 16; else D mod 512
-- not 0 is 17; else .."
unfoldable pub to_short : Long → Result Short Refusal
to_short l =
    let f = long_fields l in
    cond (is_zero_long l) (Ok short_zero)
    (cond (malformed_long f) (Err Malformed)
    (cond (beyond_match f) (Err ExponentRange)
    (cond (loses_bits f) (Err Precision)
    (Ok (short_of (shortened f))))))

-- ---- the same in document 02's numbers: 0 and the words, or a refusal's number and none

abbrev pub short_words : Short → List ℕ
short_words s = s.a ∷ s.d ∷ []

abbrev pub long_words : Long → List ℕ
long_words l = l.t ∷ l.a ∷ l.d ∷ []

abbrev pub long_numbers : Result Long Refusal → Told
long_numbers (Ok l) = record { number = 0; values = long_words l }
long_numbers (Err r) = record { number = refusal_number r; values = [] }

abbrev pub short_numbers : Result Short Refusal → Told
short_numbers (Ok s) = record { number = 0; values = short_words s }
short_numbers (Err r) = record { number = refusal_number r; values = [] }

-- "Answers: 15 ..; 16 ..; 17 ..; in this order."
unfoldable pub long_told : Short → Told
long_told s =
    let f = short_fields s in
    cond (is_zero_short s) (tells_by [] (long_words long_zero))
    (tells_by ((malformed_short f, 15) ∷ []) (long_words (long_of (lengthened f))))

unfoldable pub short_told : Long → Told
short_told l =
    let f = long_fields l in
    cond (is_zero_long l) (tells_by [] (short_words short_zero))
    (tells_by ((malformed_long f, 15) ∷ (beyond_match f, 16) ∷ (loses_bits f, 17) ∷ [])
    (short_words (short_of (shortened f))))
