-- What can be made again of its number is determined by it. A refusal is so, and its number is never 0.
-- Assumes nothing.
use Rattle.std.proofs.Common.{◌≡◌, ℕ, false, eqb, [], ◌∷◌, get_or, sym, refl, ap, ◌∙◌, arith, ne_eqb}
use Rattle.isa.specs.Answers.{refusal_number}
use Rattle.isa.specs.declared.answer.Refusal.{Refusal}
use Rattle.isa.specs.declared.answer.Refusal.TheVariants.{Sizes, State as StateRange, RaiseLevel, Contents}
use Rattle.isa.specs.declared.answer.Refusal.TheVariants.{Kind, Target as TargetSize, Overlap, Bodies, View}
use Rattle.isa.specs.declared.answer.Refusal.TheVariants.{Output, Unread, Malformed, ExponentRange, Precision}

pub decides : {A B : Type 0} (f : A → B) (g : B → A) → ((a : A) → g (f a) ≡ a) → (a b : A) → f a ≡ f b → a ≡ b
decides f g h a b e = sym (h a) ∙ ap g e ∙ h b

-- 0 and 12 to 14 are no refusal's
abbrev pub refusal_at : ℕ → Refusal
refusal_at n =
    get_or
    (Sizes ∷ Sizes ∷ StateRange ∷ RaiseLevel ∷ Contents ∷ Kind ∷ TargetSize ∷ Overlap ∷ Bodies ∷ View ∷ Output
    ∷ Unread ∷ Sizes ∷ Sizes ∷ Sizes ∷ Malformed ∷ ExponentRange ∷ Precision ∷ [])
    n Sizes

pub refusal_again : (x : Refusal) → refusal_at (refusal_number x) ≡ x
refusal_again Sizes = refl
refusal_again StateRange = refl
refusal_again RaiseLevel = refl
refusal_again Contents = refl
refusal_again Kind = refl
refusal_again TargetSize = refl
refusal_again Overlap = refl
refusal_again Bodies = refl
refusal_again View = refl
refusal_again Output = refl
refusal_again Unread = refl
refusal_again Malformed = refl
refusal_again ExponentRange = refl
refusal_again Precision = refl

-- 0 would stand for Sizes, whose number is 1
pub refusal_above : (x : Refusal) → eqb (refusal_number x) 0 ≡ false
refusal_above x =
    ne_eqb (refusal_number x) 0
    (λ z.
    let e : refusal_number x ≡ 1 = ap refusal_number (sym (refusal_again x) ∙ ap refusal_at z) in
    omega (arith, z, e))
