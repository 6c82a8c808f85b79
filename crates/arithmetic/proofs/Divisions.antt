-- The two outcomes of a division.
-- Assumes nothing.
use Rattle.std.proofs.Common.{◌≡◌, ℕ, true, false, None, Some, ℤ, pos, negsuc, FitsSigned, w16, w64, to_z, of_z, leb, ◌<◌, sym, arith, ap, ◌∙◌, subst, eq-eqb, ne_eqb}
use Rattle.std.proofs.lemmas.Bool.Decides.{nat_tests}
use mir.ValLaws.{to_z-of_z}
use Rattle.isa.specs.Flags.{bits_of, too_large, quotient, remainder, division_fails}
use Rattle.arithmetic.specs.Results.{division_of}

-- the outcome by the two tests: the divisor is 0, the quotient is beyond 16 bits
module _ (n d : ℕ) where
  pub by_zero : d ≡ 0 → None ≡ division_of n d
  unfolding division_of division_fails
  by_zero h = simp (eq-eqb d 0 h)

  module _ (h : d ≡ 0 → ⊥) where
    beyond : too_large (quotient n d) ≡ true → None ≡ division_of n d
    unfolding division_of division_fails
    beyond e = simp (ne_eqb d 0 h, e)

    within : too_large (quotient n d) ≡ false
        → Some (record { quotient = bits_of 16 (quotient n d); remainder = bits_of 16 (remainder n d) })
        ≡ division_of n d
    unfolding division_of division_fails
    within e = simp (ne_eqb d 0 h, e)

ge-leb : {n : ℕ} → (n < 32768 → ⊥) → leb 32768 n ≡ true
ge-leb h = grind (arith, nat_tests)

-- 16 bits hold a signed number, or it is too large
pub fitting : (z : ℤ) → FitsSigned w16 z → too_large z ≡ false
fitting (pos n) f = grind (arith, nat_tests)
fitting (negsuc n) f = grind (arith, nat_tests)

pub not_fitting : (z : ℤ) → (FitsSigned w16 z → ⊥) → too_large z ≡ true
not_fitting (pos n) f = ge-leb (λ l. f (record { sfits = l }))
not_fitting (negsuc n) f = ge-leb (λ l. f (record { sfits = l }))

-- the outcome by the two whole numbers, as they are held in 64 bits
module _ (n d : ℕ) (h : d ≡ 0 → ⊥) (q r : ℤ) (i : q ≡ quotient n d) (j : r ≡ remainder n d) (fq : FitsSigned w64 q)
    (fr : FitsSigned w64 r) where
  abbrev held : ℤ → ℤ
  held z = to_z w64 (of_z w64 z)

  held_quotient : held q ≡ quotient n d
  held_quotient = to_z-of_z w64 q fq ∙ i

  held_remainder : held r ≡ remainder n d
  held_remainder = to_z-of_z w64 r fr ∙ j

  pub fails : (FitsSigned w16 (held q) → ⊥) → None ≡ division_of n d
  fails f = beyond n d h (subst (λ (z : ℤ). too_large z ≡ true) held_quotient (not_fitting (held q) f))

  pub gives :
      (z : ℤ) → FitsSigned w16 (held q) → z ≡ held q → (x y : ℕ) → x ≡ bits_of 16 (to_z w16 (of_z w16 z))
      → y ≡ bits_of 16 (held r) → Some (record { quotient = x; remainder = y }) ≡ division_of n d
  gives z f k x y e g =
      let narrow : FitsSigned w16 z = subst (FitsSigned w16) (sym k) f in
      let a : x ≡ bits_of 16 (quotient n d) = e ∙ ap (bits_of 16) (to_z-of_z w16 z narrow ∙ k ∙ held_quotient) in
      let b : y ≡ bits_of 16 (remainder n d) = g ∙ ap (bits_of 16) held_remainder in
      simp (a, b) (within n d h (subst (λ (z : ℤ). too_large z ≡ false) held_quotient (fitting (held q) f)))
