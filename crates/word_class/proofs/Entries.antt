-- From one test over a whole table to each of its entries.
-- Assumes nothing.
use Prim.Native.Nat.{ℕ, zero, suc, ◌+◌, ◌<◌}
use native.Mathlib.Omega.{arith}
use mathlib.Core.Path.{◌≡◌, ap, subst, ◌∙◌}
use mathlib.Core.Bool.{true}
use mathlib.Core.List.{List, [], ◌∷◌}
use lib.ListN.{get_or, length}
use lib.Dec.{eqb}
use Rattle.isa.proofs.Tests.{no_both, and_left, and_right}
use Rattle.word_class.proofs.Classes.{same_number}
use Rattle.word_class.specs.declared.Class.{Class}
use Rattle.word_class.specs.Classes.{number, class_of, Sorts, agrees, sorted_values, all_agree}

-- the entry k places on
entry : (n i : ℕ) (t : List Class) → agrees n i t ≡ true → (k : ℕ) (past : Class) → k < n
    → get_or t k past ≡ class_of (i + k)
entry zero i t h k past l = absurd (omega (arith, l))
entry (suc n) i [] h k past l = absurd (no_both h)
entry (suc n) i (c ∷ t) h zero past l =
    let here : i ≡ i + 0 = omega arith in
    let first : eqb (number c) (number (class_of i)) ≡ true = and_left _ (agrees n (suc i) t) h in
    same_number c (class_of i) first ∙ ap class_of here
entry (suc n) i (c ∷ t) h (suc k) past l =
    let next : suc i + k ≡ i + suc k = omega arith in
    let rest : agrees n (suc i) t ≡ true = and_right (eqb (number c) (number (class_of i))) _ h in
    entry n (suc i) t rest k past (omega (arith, l)) ∙ ap class_of next

pub sorted : (t : List Class) → length t ≡ sorted_values → all_agree t ≡ true → Sorts t
sorted t long h = record {
  at =
      λ n past l.
      let below : n < sorted_values = subst (λ (k : ℕ). n < k) long l in
      let at : 0 + n ≡ n = omega arith in
      entry sorted_values 0 t h n past below ∙ ap class_of at;
}
