-- The theorems of the two floating forms.
-- Assumes nothing.
use Rattle.std.specs.Prelude.{Result, Ok, Err}
use Prim.Native.Nat.{ℕ, ◌^◌}
use mathlib.Core.Path.{◌≡◌, refl, sym, ap, ◌∙◌, subst}
use mathlib.Core.Logic.{◌⊎◌, inl, inr, ⊎_elim}
use mathlib.Core.Bool.{Bool, true, false, cond}
use lib.IntN.{pos, ◌*ℤ◌}
use lib.ListN.{get_or}
use lib.Dec.{eqb}
use native.Mathlib.Omega.{arith}
use Rattle.isa.specs.Answers.{refusal_number, Told}
use Rattle.isa.specs.declared.answer.Refusal.{Refusal}
use Rattle.isa.specs.declared.answer.Refusal.TheVariants.{Malformed, ExponentRange, Precision}
use Rattle.isa.proofs.Refusals.{refusal_at, refusal_again, refusal_above, decides}
use Rattle.floating.specs.Forms.{ShortIsWords, LongIsWords, FitsShort, short_fields, long_fields, short_of}
use Rattle.floating.specs.Forms.{long_of, short_zero, long_zero, is_zero_short, is_zero_long, short_value, long_value}
use Rattle.floating.specs.Forms.{scale, value_by}
use Rattle.floating.specs.Conversions.{lengthened, shortened, malformed_short, malformed_long, beyond_match}
use Rattle.floating.specs.Conversions.{loses_bits, to_long, to_short, long_numbers, short_numbers}
use Rattle.floating.specs.Statement.{SameNumber, ShortsKept, LongsKept, NoSharedImage, RefusedHasNoShort}
use Rattle.floating.specs.Statement.{RefusedOne, Example, Holds, ExamplesHold, PrintedRow, ConversionsTell}
use Rattle.floating.specs.declared.form.Short.{Short}
use Rattle.floating.specs.declared.form.Long.{Long}
use Rattle.floating.specs.declared.form.Fields.{Fields}
use Rattle.floating.proofs.Fields.{short_fits, long_fits, short_of_words, short_of_fields, long_of_fields}
use Rattle.floating.proofs.Fields.{fields_of_short, fields_of_long, zero_short, zero_long, lengthened_fits}
use Rattle.floating.proofs.Fields.{shortened_lengthened, lengthened_formed, lengthened_keeps, lengthened_matched}
use Rattle.floating.proofs.Fields.{lengthened_not_zero, Matched, matched, shortened_fits, lengthened_shortened}
use Rattle.floating.proofs.Fields.{shortened_formed, shortened_not_zero}
use Rattle.floating.proofs.Answers.{long_zero_law, long_malformed, long_converted, short_zero_law, short_malformed}
use Rattle.floating.proofs.Answers.{short_beyond, short_inexact, short_converted, tell_long, tell_short}
use Rattle.floating.proofs.Values.{lengthened_value, value_of_fields, one_normalised}
use Rattle.floating.proofs.Values.{normalised_not_zero}

-- ---- accepted numbers

-- what is refused is not converted, and words that are converted to are those of one number
apart : {F : Type 0} (x : Refusal) (y : F) → ◌≡◌ {A = Result F Refusal} (Err x) (Ok y) → ⊥
apart x y e = let z : ◌≡◌ {A = ℕ} 0 1 = cc in omega arith

same : {F : Type 0} (x y : F) → ◌≡◌ {A = Result F Refusal} (Ok x) (Ok y) → x ≡ y
same x y e = cc

-- a short number that is not zero passes its test and goes to l
record Lengthens (s : Short) (l : Long) : Type 0 where
  not_zero : is_zero_short s ≡ false
  formed : malformed_short (short_fields s) ≡ false
  image : long_of (lengthened (short_fields s)) ≡ l

-- an accepted one is zero, or does so
short_accepted : (s : Short) (l : Long) → to_long s ≡ Ok l
    → ((is_zero_short s ≡ true) × (long_zero ≡ l)) ⊎ Lengthens s l
short_accepted s l e = go (is_zero_short s) (malformed_short f) refl refl
  where
    f : Fields
    f = short_fields s

    go : (x y : Bool) → is_zero_short s ≡ x → malformed_short f ≡ y
        → ((is_zero_short s ≡ true) × (long_zero ≡ l)) ⊎ Lengthens s l
    go true y p q = inl (p, same _ _ (sym (long_zero_law s p) ∙ e))
    go false true p q = absurd (apart _ _ (sym (long_malformed s f refl p q) ∙ e))
    go false false p q =
        inr (record { not_zero = p; formed = q; image = same _ _ (sym (long_converted s f refl p q) ∙ e) })

-- a long number that is not zero passes its three tests and goes to s
record Shortens (l : Long) (s : Short) : Type 0 where
  not_zero : is_zero_long l ≡ false
  formed : malformed_long (long_fields l) ≡ false
  within : beyond_match (long_fields l) ≡ false
  kept : loses_bits (long_fields l) ≡ false
  image : short_of (shortened (long_fields l)) ≡ s

-- an accepted one is zero, or does so
long_accepted : (l : Long) (s : Short) → to_short l ≡ Ok s
    → ((is_zero_long l ≡ true) × (short_zero ≡ s)) ⊎ Shortens l s
long_accepted l s e = go (is_zero_long l) (malformed_long f) (beyond_match f) (loses_bits f) refl refl refl refl
  where
    f : Fields
    f = long_fields l

    go : (x y z w : Bool) → is_zero_long l ≡ x → malformed_long f ≡ y → beyond_match f ≡ z → loses_bits f ≡ w
        → ((is_zero_long l ≡ true) × (short_zero ≡ s)) ⊎ Shortens l s
    go true y z w p q r k = inl (p, same _ _ (sym (short_zero_law l p) ∙ e))
    go false true z w p q r k = absurd (apart _ _ (sym (short_malformed l f refl p q) ∙ e))
    go false false true w p q r k = absurd (apart _ _ (sym (short_beyond l f refl p q r) ∙ e))
    go false false false true p q r k = absurd (apart _ _ (sym (short_inexact l f refl p q r k) ∙ e))
    go false false false false p q r k =
        let image = same _ _ (sym (short_converted l f refl p q r k) ∙ e) in
        inr (record { not_zero = p; formed = q; within = r; kept = k; image = image })

-- a long number refused with other than 15 has its top mantissa bit
refused_formed : (l : Long) (x : Refusal) → (Malformed ≡ x → ⊥) → to_short l ≡ Err x
    → malformed_long (long_fields l) ≡ false
refused_formed l x other e = go (is_zero_long l) (malformed_long f) refl refl
  where
    f : Fields
    f = long_fields l

    malformed : ◌≡◌ {A = Result Short Refusal} (Err Malformed) (Err x) → Malformed ≡ x
    malformed q = cc

    go : (z y : Bool) → is_zero_long l ≡ z → malformed_long f ≡ y → malformed_long f ≡ false
    go true y p q = absurd (apart _ _ (sym e ∙ short_zero_law l p))
    go false true p q = absurd (other (malformed (sym (short_malformed l f refl p q) ∙ e)))
    go false false p q = q

-- ---- zero in both forms

zero_same : SameNumber short_zero long_zero
unfolding value_by is_zero_short is_zero_long to_long to_short
zero_same = record { value = refl; lengthens = refl; shortens = refl }

-- ---- short to long and back

module _ (s : Short) (w : ShortIsWords s) (z : is_zero_short s ≡ false)
    (h : malformed_short (short_fields s) ≡ false) where
  abbrev f : Fields
  f = short_fields s

  fits : FitsShort f
  fits = short_fits s w

  lengthened_same : SameNumber s (long_of (lengthened f))
  lengthened_same = record {
    value = value_of_fields (lengthened f) (lengthened_fits f fits) ∙ lengthened_value f ∙ sym (simp (z));
    lengthens = long_converted s f refl z h;
    shortens = short_converted (long_of (lengthened f)) (lengthened f)
        (sym (fields_of_long (lengthened f) (lengthened_fits f fits)))
        (lengthened_not_zero f fits) (lengthened_formed f fits) (lengthened_matched f fits h) (lengthened_keeps f)
        ∙ ap (λ (g : Fields). Ok (short_of g)) (shortened_lengthened f fits)
        ∙ ap Ok (short_of_fields s w);
  }

pub shorts_kept : ShortsKept
shorts_kept s w l e =
    ⊎_elim
    (λ z. subst (λ (x : Short). SameNumber x l) (sym (zero_short s z.0))
    (subst (SameNumber short_zero) z.1 zero_same))
    (λ n. subst (SameNumber s) n.image (lengthened_same s w n.not_zero n.formed))
    (short_accepted s l e)

-- ---- long to short and back: the short number is an accepted one, and goes to the long one that it came from

shortened_same : (l : Long) → LongIsWords l → Matched (long_fields l)
    → SameNumber (short_of (shortened (long_fields l))) l
shortened_same l w m =
    let g = long_fields l in
    let fits = shortened_fits g m in
    let s = short_of (shortened g) in
    shorts_kept s (short_of_words (shortened g) fits) l
    (long_converted s (shortened g) (sym (fields_of_short (shortened g) fits)) (shortened_not_zero g m)
    (shortened_formed g m)
    ∙ ap (λ (f : Fields). Ok (long_of f)) (lengthened_shortened g m)
    ∙ ap Ok (long_of_fields l w))

pub longs_kept : LongsKept
longs_kept l w s e =
    ⊎_elim
    (λ z. subst (λ (x : Long). SameNumber s x) (sym (zero_long l z.0))
    (subst (λ (x : Short). SameNumber x long_zero) z.1 zero_same))
    (λ n. subst (λ (x : Short). SameNumber x l) n.image
    (shortened_same l w (matched (long_fields l) (long_fits l w) n.formed n.within n.kept)))
    (long_accepted l s e)

-- ---- no shared image

pub no_shared_image : NoSharedImage
no_shared_image s u w v l p q = same s u (sym (shorts_kept s w l p).shortens ∙ (shorts_kept u v l q).shortens)

-- ---- a long number refused with 16 or 17: a short one of its value would be lengthened to it

-- an accepted short number that has the value of a normalised long one goes to that one
image_of_law : (s : Short) → ShortIsWords s → (k : Long) → to_long s ≡ Ok k
    → (l : Long) → LongIsWords l → malformed_long (long_fields l) ≡ false → short_value s ≡ long_value l → k ≡ l
image_of_law s w k e l v h same = ⊎_elim by_zero by_number_law (short_accepted s k e)
  where
    values : long_value k ≡ long_value l
    values = (shorts_kept s w k e).value ∙ same

    by_zero : (is_zero_short s ≡ true) × (long_zero ≡ k) → k ≡ l
    by_zero z =
        let nothing : short_value s ≡ pos 0 = simp z.0 in
        absurd (normalised_not_zero (long_fields l) (long_fits l v) h (sym nothing ∙ same))

    by_number_law : Lengthens s k → k ≡ l
    by_number_law n =
        let f = short_fields s in
        let fits = lengthened_fits f (short_fits s w) in
        sym n.image
        ∙ ap long_of
        (one_normalised (lengthened f) (long_fields l) fits (long_fits l v) (lengthened_formed f (short_fits s w)) h
        (sym (value_of_fields (lengthened f) fits) ∙ ap long_value n.image ∙ values))
        ∙ long_of_fields l v

pub refused_has_no_short : RefusedHasNoShort
refused_has_no_short l w r s v k e same =
    ⊎_elim
    (clash ExponentRange (λ d. let z : 15 ≡ 16 = ap refusal_number d in omega (arith, z)))
    (clash Precision (λ d. let z : 15 ≡ 17 = ap refusal_number d in omega (arith, z)))
    r
  where
    clash : (x : Refusal) → (Malformed ≡ x → ⊥) → to_short l ≡ Err x → ⊥
    clash x other q =
        apart x s
        (sym q
        ∙ ap to_short (sym (image_of_law s v k e l w (refused_formed l x other q) same))
        ∙ (shorts_kept s v k e).shortens)

-- ---- document 002's examples, computed

holds : (r : Example) → short_value r.short ≡ r.number *ℤ pos (2 ^ scale)
    → long_value r.long ≡ short_value r.short → to_long r.short ≡ Ok r.long
    → to_short r.long ≡ Ok r.short
    → Holds r
holds r v w p q = record { value = v; same = record { value = w; lengthens = p; shortens = q } }

pub examples_hold : ExamplesHold
unfolding value_by is_zero_short is_zero_long malformed_short malformed_long beyond_match loses_bits to_long to_short
examples_hold = (
  holds _ refl refl refl refl,
  (holds _ refl refl refl refl, (holds _ refl refl refl refl, (holds _ refl refl refl refl, tt))),
)

pub printed_row : PrintedRow
unfolding value_by is_zero_short is_zero_long malformed_short malformed_long beyond_match loses_bits to_long to_short
printed_row = holds _ refl refl refl refl

pub refused_one : RefusedOne
unfolding value_by is_zero_long malformed_long to_short
refused_one = record { refused = refl; value = refl }

-- ---- answers in document 02's numbers: each can be made again of its number and words

abbrev long_at : Told → Result Long Refusal
long_at r =
    let w = r.values in
    cond (eqb r.number 0) (Ok (record { t = get_or w 0 0; a = get_or w 1 0; d = get_or w 2 0 }))
    (Err (refusal_at r.number))

long_again : (x : Result Long Refusal) → long_at (long_numbers x) ≡ x
long_again (Ok l) = refl
long_again (Err x) = rw (refusal_above x) (ap Err (refusal_again x))

abbrev short_at : Told → Result Short Refusal
short_at r =
    let w = r.values in
    cond (eqb r.number 0) (Ok (record { a = get_or w 0 0; d = get_or w 1 0 }))
    (Err (refusal_at r.number))

short_again : (x : Result Short Refusal) → short_at (short_numbers x) ≡ x
short_again (Ok s) = refl
short_again (Err x) = rw (refusal_above x) (ap Err (refusal_again x))

pub conversions_tell : ConversionsTell
conversions_tell = record {
  to_long_law = tell_long;
  to_short_law = tell_short;
  long_decided = decides long_numbers long_at long_again;
  short_decided = decides short_numbers short_at short_again;
}
