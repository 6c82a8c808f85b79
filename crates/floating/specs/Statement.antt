-- What is proved of the two floating forms (document 02, card 12; ruling D16).
use Rattle.std.specs.Prelude.{Result, Ok, Err, ℕ, ◌^◌, ◌≡◌, ◌⊎◌, List, [], ◌∷◌, ℤ, pos, neg_ℤ, ◌*ℤ◌}
use Rattle.isa.specs.declared.answer.Refusal.{Refusal}
use Rattle.isa.specs.declared.answer.Refusal.TheVariants.{Malformed, ExponentRange, Precision}
use Rattle.floating.specs.Forms.{ShortIsWords, LongIsWords, short_value, long_value, scale}
use Rattle.floating.specs.Conversions.{to_long, to_short, long_numbers, short_numbers, long_told, short_told}
use Rattle.floating.specs.declared.form.Short.{Short}
use Rattle.floating.specs.declared.form.Long.{Long}

-- A short number is accepted if to_long gives a long one for it, and a long one if to_short gives a short one.

-- one number in both forms: of the same value, and each goes to the other
pub record SameNumber (s : Short) (l : Long) : Type 0 where
  pub value : long_value l ≡ short_value s
  pub lengthens : to_long s ≡ Ok l
  pub shortens : to_short l ≡ Ok s

-- "Every short number accepted goes to a long one that comes back to it", and of the same value
abbrev pub ShortsKept : Type 0
ShortsKept = (s : Short) → ShortIsWords s → (l : Long) → to_long s ≡ Ok l → SameNumber s l

-- every long number accepted goes to a short one of the same value that comes back to it
abbrev pub LongsKept : Type 0
LongsKept = (l : Long) → LongIsWords l → (s : Short) → to_short l ≡ Ok s → SameNumber s l

-- "no two share an image"
abbrev pub NoSharedImage : Type 0
NoSharedImage =
    (s u : Short) → ShortIsWords s → ShortIsWords u → (l : Long) → to_long s ≡ Ok l → to_long u ≡ Ok l → s ≡ u

-- "only where the value is exactly kept": a long number refused with 16 or 17 has the value of no accepted short one
abbrev pub RefusedHasNoShort : Type 0
RefusedHasNoShort =
    (l : Long) → LongIsWords l → (to_short l ≡ Err ExponentRange) ⊎ (to_short l ≡ Err Precision)
    → (s : Short) → ShortIsWords s → (k : Long) → to_long s ≡ Ok k → ¬ (short_value s ≡ long_value l)

-- 15 is left out there, since it is of the form and not of the value: 040002 040000 000000, refused with 15, is +1 too
pub record RefusedOne : Type 0 where
  pub refused : to_short (record { t = 0o040002; a = 0o040000; d = 0 }) ≡ Err Malformed
  pub value : long_value (record { t = 0o040002; a = 0o040000; d = 0 }) ≡ pos (2 ^ scale)

-- ---- document 002's examples

-- a row of its tables 1 and 2: the number, the words A D of the short form, the words T A D of the long one
pub record Example : Type 0 where
  pub number : ℤ
  pub short : Short
  pub long : Long

abbrev pub row : ℤ → ℕ → ℕ → ℕ → ℕ → ℕ → Example
row n a d t b c = record { number = n; short = record { a = a; d = d }; long = record { t = t; a = b; d = c } }

-- Document 02: "Document 002's 48-bit row for +3 is wrong: it is 040002, 140000, 000000."
abbrev pub examples : List Example
examples =
    row (pos 0) 0o000000 0o000000 0o000000 0o000000 0o000000
    ∷ row (pos 1) 0o040100 0o000000 0o040001 0o100000 0o000000
    ∷ row (neg_ℤ (pos 1)) 0o140100 0o000000 0o140001 0o100000 0o000000
    ∷ row (pos 3) 0o040240 0o000000 0o040002 0o140000 0o000000
    ∷ []

-- the row's words are its number in both forms
pub record Holds (r : Example) : Type 0 where
  pub value : short_value r.short ≡ r.number *ℤ pos (2 ^ scale)
  pub same : SameNumber r.short r.long

abbrev pub EachHolds : List Example → Type 0
EachHolds [] = Unit {0}
EachHolds (r ∷ rs) = Holds r × EachHolds rs

abbrev pub ExamplesHold : Type 0
ExamplesHold = EachHolds examples

-- the row that the manual prints for +3 in 48 bits, 040240 100000 000000, is 2 ^ 159 (ruling D16)
abbrev pub PrintedRow : Type 0
PrintedRow = Holds (row (pos (2 ^ 159)) 0o064000 0o000000 0o040240 0o100000 0o000000)

-- ---- answers in document 02's numbers

-- each conversion tells the number and the words that its tests, in their order, give; and these determine the answer
pub record ConversionsTell : Type 0 where
  pub to_long_law : (s : Short) → long_numbers (to_long s) ≡ long_told s
  pub to_short_law : (l : Long) → short_numbers (to_short l) ≡ short_told l
  pub long_decided : (x y : Result Long Refusal) → long_numbers x ≡ long_numbers y → x ≡ y
  pub short_decided : (x y : Result Short Refusal) → short_numbers x ≡ short_numbers y → x ≡ y
