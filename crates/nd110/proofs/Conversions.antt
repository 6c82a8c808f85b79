-- What a conversion leaves of an output of the other form's words.
-- Assumes nothing.
use Prim.Native.Nat.{ℕ}
use mathlib.Core.Path.{◌≡◌, refl, ap}
use mathlib.Core.List.{List, [], ◌∷◌}
use native.Mathlib.Omega.{arith}
use lib.ListN.{length, set}
use borrow.Author.Tests.{eq-eqb}
use Rattle.std.specs.Prelude.{Ok, Err}
use Rattle.isa.specs.Answers.{refusal_number}
use Rattle.isa.specs.declared.answer.Refusal.{Refusal}
use Rattle.isa.proofs.Refusals.{refusal_above}
use Rattle.floating.specs.Conversions.{to_long, to_short}
use Rattle.floating.specs.declared.form.Short.{Short}
use Rattle.floating.specs.declared.form.Long.{Long}
use Rattle.nd110.specs.Calls.{output_left, convert_end, short_count, long_count, host_to_long, host_to_short}

-- every word of the output is written
two_put : (o : List ℕ) (x y : ℕ) → length o ≡ short_count → set (set o 0 x) 1 y ≡ x ∷ y ∷ []
two_put (p ∷ q ∷ []) x y h = refl
two_put [] x y h = absurd (omega (arith, h))
two_put (p ∷ []) x y h = absurd (omega (arith, h))
two_put (p ∷ q ∷ r ∷ rs) x y h = absurd (omega (arith, h))

three_put : (o : List ℕ) (x y z : ℕ) → length o ≡ long_count → set (set (set o 0 x) 1 y) 2 z ≡ x ∷ y ∷ z ∷ []
three_put (p ∷ os) x y z h =
    ap (λ (t : List ℕ). x ∷ t) (two_put os y z (omega (arith, h)))
three_put [] x y z h = absurd (omega (arith, h))

module _ (a d : ℕ) (o : List ℕ) (h : length o ≡ long_count) where
  pub long_put : (l : Long) → to_long (record { a = a; d = d }) ≡ Ok l
      → output_left 0 (set (set (set o 0 l.t) 1 l.a) 2 l.d) ≡ host_to_long a d o
  unfolding host_to_long convert_end
  long_put l e = simp (eq-eqb _ _ h, e) (ap (output_left 0) (three_put o l.t l.a l.d h))

  pub long_refused : (x : Refusal) → to_long (record { a = a; d = d }) ≡ Err x
      → output_left (refusal_number x) o ≡ host_to_long a d o
  unfolding host_to_long convert_end
  long_refused x e = simp (eq-eqb _ _ h, e, refusal_above x)

module _ (t a d : ℕ) (o : List ℕ) (h : length o ≡ short_count) where
  pub short_put : (s : Short) → to_short (record { t = t; a = a; d = d }) ≡ Ok s
      → output_left 0 (set (set o 0 s.a) 1 s.d) ≡ host_to_short t a d o
  unfolding host_to_short convert_end
  short_put s e = simp (eq-eqb _ _ h, e) (ap (output_left 0) (two_put o s.a s.d h))

  pub short_refused : (x : Refusal) → to_short (record { t = t; a = a; d = d }) ≡ Err x
      → output_left (refusal_number x) o ≡ host_to_short t a d o
  unfolding host_to_short convert_end
  short_refused x e = simp (eq-eqb _ _ h, e, refusal_above x)
