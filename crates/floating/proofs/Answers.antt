-- What the conversions answer, by the outcomes of their tests.
-- Assumes nothing.
use Rattle.std.specs.Prelude.{Ok, Err}
use mathlib.Core.Path.{◌≡◌, refl, sym, ap, ◌∙◌}
use mathlib.Core.Bool.{Bool, true, false, cond}
use mathlib.Core.List.{[], ◌∷◌}
use Rattle.isa.specs.Answers.{tells_by}
use Rattle.isa.specs.declared.answer.Refusal.TheVariants.{Malformed, ExponentRange, Precision}
use Rattle.floating.specs.Forms.{short_fields, long_fields, short_of, long_of, short_zero, long_zero, is_zero_short}
use Rattle.floating.specs.Forms.{is_zero_long}
use Rattle.floating.specs.Conversions.{lengthened, shortened, malformed_short, malformed_long, beyond_match}
use Rattle.floating.specs.Conversions.{loses_bits, to_long, to_short, short_words, long_words, long_numbers}
use Rattle.floating.specs.Conversions.{short_numbers, long_told, short_told}
use Rattle.floating.specs.declared.form.Short.{Short}
use Rattle.floating.specs.declared.form.Long.{Long}
use Rattle.floating.specs.declared.form.Fields.{Fields}

-- ---- short to long, f being the fields of s

module _ (s : Short) (f : Fields) (e : f ≡ short_fields s) where
  pub long_malformed : is_zero_short s ≡ false → malformed_short f ≡ true → to_long s ≡ Err Malformed
  unfolding to_long
  long_malformed p q = simp (p, ap malformed_short (sym e) ∙ q)

  pub long_converted : is_zero_short s ≡ false → malformed_short f ≡ false → to_long s ≡ Ok (long_of (lengthened f))
  unfolding to_long
  long_converted p q =
      simp (p, ap malformed_short (sym e) ∙ q) (ap (λ (g : Fields). Ok (long_of (lengthened g))) (sym e))

pub long_zero_law : (s : Short) → is_zero_short s ≡ true → to_long s ≡ Ok long_zero
unfolding to_long
long_zero_law s p = simp (p)

-- ---- long to short, f being the fields of l

module _ (l : Long) (f : Fields) (e : f ≡ long_fields l) (p : is_zero_long l ≡ false) where
  pub short_malformed : malformed_long f ≡ true → to_short l ≡ Err Malformed
  unfolding to_short
  short_malformed q = simp (p, ap malformed_long (sym e) ∙ q)

  pub short_beyond : malformed_long f ≡ false → beyond_match f ≡ true → to_short l ≡ Err ExponentRange
  unfolding to_short
  short_beyond q r = simp (p, ap malformed_long (sym e) ∙ q, ap beyond_match (sym e) ∙ r)

  module _ (q : malformed_long f ≡ false) (r : beyond_match f ≡ false) where
    pub short_inexact : loses_bits f ≡ true → to_short l ≡ Err Precision
    unfolding to_short
    short_inexact k = simp (p, ap malformed_long (sym e) ∙ q, ap beyond_match (sym e) ∙ r, ap loses_bits (sym e) ∙ k)

    pub short_converted : loses_bits f ≡ false → to_short l ≡ Ok (short_of (shortened f))
    unfolding to_short
    short_converted k =
        simp (p, ap malformed_long (sym e) ∙ q, ap beyond_match (sym e) ∙ r, ap loses_bits (sym e) ∙ k)
        (ap (λ (g : Fields). Ok (short_of (shortened g))) (sym e))

pub short_zero_law : (l : Long) → is_zero_long l ≡ true → to_short l ≡ Ok short_zero
unfolding to_short
short_zero_law l p = simp (p)

-- ---- the tests, in their order, give the same numbers and words

pub tell_long : (s : Short) → long_numbers (to_long s) ≡ long_told s
unfolding to_long long_told
tell_long s = go (is_zero_short s) (malformed_short f)
  where
    f : Fields
    f = short_fields s

    go : (x y : Bool)
        → long_numbers (cond x (Ok long_zero) (cond y (Err Malformed) (Ok (long_of (lengthened f)))))
        ≡ cond x (tells_by [] (long_words long_zero)) (tells_by ((y, 15) ∷ []) (long_words (long_of (lengthened f))))
    go true y = refl
    go false true = refl
    go false false = refl

pub tell_short : (l : Long) → short_numbers (to_short l) ≡ short_told l
unfolding to_short short_told
tell_short l = go (is_zero_long l) (malformed_long f) (beyond_match f) (loses_bits f)
  where
    f : Fields
    f = long_fields l

    go : (x y z w : Bool)
        → short_numbers
        (cond x (Ok short_zero)
        (cond y (Err Malformed)
        (cond z (Err ExponentRange) (cond w (Err Precision) (Ok (short_of (shortened f)))))))
        ≡ cond x (tells_by [] (short_words short_zero))
        (tells_by ((y, 15) ∷ (z, 16) ∷ (w, 17) ∷ []) (short_words (short_of (shortened f))))
    go true y z w = refl
    go false true z w = refl
    go false false true w = refl
    go false false false true = refl
    go false false false false = refl
