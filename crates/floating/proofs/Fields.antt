-- Words and fields hold the same, and what fields become in the other form.
-- Assumes nothing.
use Prim.Native.Nat.{ℕ, ◌+◌, ◌*◌, ◌-◌, ◌%◌, ◌^◌, ◌≤◌}
use mathlib.Core.Path.{◌≡◌, refl, ap}
use mathlib.Core.Bool.{true, false, ◌&&◌}
use native.Mathlib.Omega.{arith}
use lib.Dec.{ltb, eqb}
use borrow.Author.Tests.{eq-eqb, ne_eqb, le-ltb, ltb-false, eqb-true, eqb-false, not-false}
use Rattle.isa.specs.Machine.{bit}
use Rattle.isa.proofs.Tests.{refuted, neither, and_left, and_right}
use Rattle.floating.specs.Forms.{ShortIsWords, LongIsWords, FitsShort, FitsLong, short_fields, long_fields}
use Rattle.floating.specs.Forms.{short_of, long_of, short_zero, long_zero, is_zero_short, is_zero_long}
use Rattle.floating.specs.Conversions.{lengthened, shortened, malformed_short, malformed_long, beyond_match}
use Rattle.floating.specs.Conversions.{loses_bits, bias_gap, match_first, match_last}
use Rattle.floating.specs.declared.form.Short.{Short}
use Rattle.floating.specs.declared.form.Long.{Long}
use Rattle.floating.specs.declared.form.Fields.{Fields}

-- ---- equal parts, equal wholes

short_path : (a d b e : ℕ) → a ≡ b → d ≡ e → ◌≡◌ {A = Short} (record { a = a; d = d }) (record { a = b; d = e })
short_path a d b e p q = simp (p, q)

long_path : (t a d u b e : ℕ) → t ≡ u → a ≡ b → d ≡ e
    → ◌≡◌ {A = Long} (record { t = t; a = a; d = d }) (record { t = u; a = b; d = e })
long_path t a d u b e o p q = simp (o, p, q)

pub fields_path : (s e m r g n : ℕ) → s ≡ r → e ≡ g → m ≡ n
    → ◌≡◌ {A = Fields} (record { sign = s; exponent = e; mantissa = m })
    (record { sign = r; exponent = g; mantissa = n })
fields_path s e m r g n o p q = simp (o, p, q)

-- ---- zero is zero in all words

pub zero_short : (s : Short) → is_zero_short s ≡ true → s ≡ short_zero
unfolding is_zero_short
zero_short s h =
    let x = eqb s.a 0 in
    let y = eqb s.d 0 in
    short_path _ _ _ _ (eqb-true s.a 0 (and_left x y h)) (eqb-true s.d 0 (and_right x y h))

pub zero_long : (l : Long) → is_zero_long l ≡ true → l ≡ long_zero
unfolding is_zero_long
zero_long l h =
    let x = eqb l.t 0 in
    let y = eqb l.a 0 in
    let z = eqb l.d 0 in
    let front = and_left (x && y) z h in
    long_path _ _ _ _ _ _ (eqb-true l.t 0 (and_left x y front)) (eqb-true l.a 0 (and_right x y front))
    (eqb-true l.d 0 (and_right (x && y) z h))

not_zero_short : (s : Short) → (s ≡ short_zero → ⊥) → is_zero_short s ≡ false
not_zero_short s h = refuted (is_zero_short s) (λ p. h (zero_short s p))

not_zero_long : (l : Long) → (l ≡ long_zero → ⊥) → is_zero_long l ≡ false
not_zero_long l h = refuted (is_zero_long l) (λ p. h (zero_long l p))

-- ---- words to fields and back

pub short_fits : (s : Short) → ShortIsWords s → FitsShort (short_fields s)
short_fits s w = (omega (arith, w), omega (arith, w), omega (arith, w))

pub long_fits : (l : Long) → LongIsWords l → FitsLong (long_fields l)
long_fits l w = (omega (arith, w), omega (arith, w), omega (arith, w))

pub short_of_words : (f : Fields) → FitsShort f → ShortIsWords (short_of f)
short_of_words f w = (omega (arith, w), omega (arith, w))

pub short_of_fields : (s : Short) → ShortIsWords s → short_of (short_fields s) ≡ s
short_of_fields s w = short_path _ _ _ _ (omega (arith, w)) (omega (arith, w))

pub long_of_fields : (l : Long) → LongIsWords l → long_of (long_fields l) ≡ l
long_of_fields l w = long_path _ _ _ _ _ _ (omega (arith, w)) (omega (arith, w)) (omega (arith, w))

pub fields_of_short : (f : Fields) → FitsShort f → short_fields (short_of f) ≡ f
fields_of_short f w = fields_path _ _ _ _ _ _ (omega (arith, w)) (omega (arith, w)) (omega (arith, w))

pub fields_of_long : (f : Fields) → FitsLong f → long_fields (long_of f) ≡ f
fields_of_long f w = fields_path _ _ _ _ _ _ (omega (arith, w)) (omega (arith, w)) (omega (arith, w))

-- ---- fields in the other form

pub lengthened_fits : (f : Fields) → FitsShort f → FitsLong (lengthened f)
lengthened_fits f w = (w.0, omega (arith, w), omega (arith, w))

pub shortened_lengthened : (f : Fields) → FitsShort f → shortened (lengthened f) ≡ f
shortened_lengthened f w = fields_path _ _ _ _ _ _ refl (omega (arith, w)) (omega (arith, w))

-- a lengthened mantissa has its top bit and none of the nine lowest, and its exponent is in the match
pub lengthened_formed : (f : Fields) → FitsShort f → malformed_long (lengthened f) ≡ false
unfolding malformed_long
lengthened_formed f w = ne_eqb (bit 31 (2 ^ 31 + f.mantissa * 2 ^ 9)) 0 (λ z. omega (arith, w, z))

pub lengthened_keeps : (f : Fields) → loses_bits (lengthened f) ≡ false
unfolding loses_bits
lengthened_keeps f = simp (eq-eqb ((2 ^ 31 + f.mantissa * 2 ^ 9) % 2 ^ 9) 0 (omega arith))

pub lengthened_matched : (f : Fields) → FitsShort f → malformed_short f ≡ false → beyond_match (lengthened f) ≡ false
unfolding malformed_short beyond_match
lengthened_matched f w h =
    let some : f.exponent ≡ 0 → ⊥ = eqb-false _ _ h in
    let e = f.exponent + bias_gap in
    simp (le-ltb e match_first (omega (arith, some)), le-ltb match_last e (omega (arith, w)))

pub lengthened_not_zero : (f : Fields) → FitsShort f → is_zero_long (long_of (lengthened f)) ≡ false
lengthened_not_zero f w = not_zero_long (long_of (lengthened f)) (λ z. omega (arith, w, ap (λ (l : Long). l.a) z))

-- ---- what the tests of a long number say of its fields
pub record Matched (f : Fields) : Type 0 where
  pub fits : FitsLong f
  pub top : 2 ^ 31 ≤ f.mantissa
  pub first : match_first ≤ f.exponent
  pub last : f.exponent ≤ match_last
  pub low : f.mantissa % 2 ^ 9 ≡ 0

pub top_bit : (f : Fields) → FitsLong f → malformed_long f ≡ false → 2 ^ 31 ≤ f.mantissa
unfolding malformed_long
top_bit f w h =
    let some : bit 31 f.mantissa ≡ 0 → ⊥ = eqb-false _ _ h in
    omega (arith, w, some)

pub match_bounds : (f : Fields) → beyond_match f ≡ false → (match_first ≤ f.exponent) × (f.exponent ≤ match_last)
unfolding beyond_match
match_bounds f h =
    let e = f.exponent in
    let both = neither (ltb e match_first) (ltb match_last e) h in
    (ltb-false e match_first both.0, ltb-false match_last e both.1)

pub matched : (f : Fields) → FitsLong f → malformed_long f ≡ false → beyond_match f ≡ false → loses_bits f ≡ false
    → Matched f
unfolding loses_bits
matched f w formed within kept = record {
  fits = w;
  top = top_bit f w formed;
  first = (match_bounds f within).0;
  last = (match_bounds f within).1;
  low = eqb-true (f.mantissa % 2 ^ 9) 0 (not-false _ kept);
}

pub shortened_fits : (f : Fields) → Matched f → FitsShort (shortened f)
shortened_fits f w = (w.fits.0, omega (arith, w), omega (arith, w))

pub lengthened_shortened : (f : Fields) → Matched f → lengthened (shortened f) ≡ f
lengthened_shortened f w = fields_path _ _ _ _ _ _ refl (omega (arith, w)) (omega (arith, w))

pub shortened_formed : (f : Fields) → Matched f → malformed_short (shortened f) ≡ false
unfolding malformed_short
shortened_formed f w = ne_eqb (f.exponent - bias_gap) 0 (λ z. omega (arith, w, z))

pub shortened_not_zero : (f : Fields) → Matched f → is_zero_short (short_of (shortened f)) ≡ false
shortened_not_zero f w = not_zero_short (short_of (shortened f)) (λ z. omega (arith, w, ap (λ (s : Short). s.a) z))
