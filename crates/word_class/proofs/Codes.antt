-- Tables by first codes: what one gives for a number that a match has sorted, for any table.
-- Assumes nothing.
use Prim.Native.Nat.{ℕ, zero, suc, ◌+◌, ◌≤◌, ◌<◌}
use native.Mathlib.Nat.{le_trans}
use native.Mathlib.Decide.{dec_lt}
use native.Mathlib.Omega.{arith}
use mathlib.Core.Path.{◌≡◌, refl, ap, ◌∙◌}
use mathlib.Core.List.{List, [], ◌∷◌}
use mathlib.Core.Bool.{Bool, true, false, cond, ◌&&◌, ◌||◌}
use lib.Dec.{leb, ltb, eqb}
use borrow.Author.Tests.{lt-ltb, le-ltb, leb-true, lt-leb, ne_eqb}
use Rattle.isa.specs.Decode.{by_code}
use Rattle.isa.proofs.Tests.{and_left, and_right}

module _ {A : Type 0} where
  -- what it gives for a code, computed
  abbrev pub lookup : A → List (ℕ × A) → ℕ → A
  lookup d [] n = d
  lookup d (r ∷ rs) n = cond (ltb n r.0) d (lookup r.1 rs n)

  pub computed : (d : A) (rs : List (ℕ × A)) (n : ℕ) → lookup d rs n ≡ by_code d rs n
  unfolding by_code
  computed d [] n = refl
  computed d (r ∷ rs) n = ap (cond (ltb n r.0) d) (computed r.1 rs n)

  -- no row starts between c and e
  abbrev pub unbroken : List (ℕ × A) → ℕ → ℕ → Bool
  unbroken [] c e = true
  unbroken (r ∷ rs) c e = (leb r.0 c || leb e r.0) && unbroken rs c e

  -- so every code from c to e has what c has
  pub same : (c e : ℕ) (d : A) (rs : List (ℕ × A)) (n : ℕ)
      → unbroken rs c e ≡ true → c ≤ n → n < e → by_code d rs c ≡ by_code d rs n
  unfolding by_code
  same c e d [] n p l h = refl
  same c e d (r ∷ rs) n p l h =
      go (dec_lt c r.0) (same c e r.1 rs n (and_right (leb r.0 c || leb e r.0) (unbroken rs c e) p) l h)
    where
      here : (leb r.0 c || leb e r.0) ≡ true
      here = and_left (leb r.0 c || leb e r.0) (unbroken rs c e) p

      go : Dec (c < r.0) → by_code r.1 rs c ≡ by_code r.1 rs n → by_code d (r ∷ rs) c ≡ by_code d (r ∷ rs) n
      go (yes b) q =
          let ends : leb e r.0 ≡ true = simp (lt-leb r.0 c b) at here in
          let k : e ≤ r.0 = leb-true e r.0 ends in
          let j : n < r.0 = omega arith in
          simp (lt-ltb c r.0 b, lt-ltb n r.0 j)
      go (no b) q =
          let k : r.0 ≤ c = omega arith in
          simp (le-ltb c r.0 k, le-ltb n r.0 (le_trans k l)) q

-- what a match has left: what is known, and that n is none of the numbers xs
abbrev pub Excluded : Type 0 → List ℕ → ℕ → Type 0
Excluded Known [] n = Known
Excluded Known (x ∷ xs) n = Excluded Known xs n × (n ≡ x → ⊥)

abbrev pub among : ℕ → List ℕ → Bool
among n [] = false
among n (x ∷ xs) = eqb n x || among n xs

not_among : (Known : Type 0) (xs : List ℕ) (n : ℕ) → Excluded Known xs n → among n xs ≡ false
not_among Known [] n h = refl
not_among Known (x ∷ xs) n h = simp (ne_eqb n x h.1) (not_among Known xs n h.0)

-- The last arm of a match, `_`: of the k numbers from lo, those not among xs have no value of their own.
module _ {A : Type 0} (none : A) (is_none : A → Bool) (rs : List (ℕ × A)) where
  abbrev pub unserved : List ℕ → ℕ → ℕ → Bool
  unserved xs lo zero = true
  unserved xs lo (suc k) = (among (lo + k) xs || is_none (lookup none rs (lo + k))) && unserved xs lo k

  pub no_code : ((v : A) → is_none v ≡ true → none ≡ v) → (xs : List ℕ) (lo k n : ℕ) (Known : Type 0)
      → unserved xs lo k ≡ true → Excluded Known xs n → lo ≤ n → n < lo + k → none ≡ by_code none rs n
  no_code is xs lo zero n Known p h l e = absurd (let none : ⊥ = omega arith in none)
  no_code is xs lo (suc k) n Known p h l e =
      go (dec_lt n (lo + k)) (λ q. no_code is xs lo k n Known (and_right here (unserved xs lo k) p) h l q)
    where
      here : Bool
      here = among (lo + k) xs || is_none (lookup none rs (lo + k))

      go : Dec (n < lo + k) → (n < lo + k → none ≡ by_code none rs n) → none ≡ by_code none rs n
      go (yes b) lower = lower b
      go (no o) lower =
          let i : lo + k ≡ n = omega arith in
          let value : A = lookup none rs n in
          let tested : (among n xs || is_none value) ≡ true = simp i at (and_left here (unserved xs lo k) p) in
          let out : is_none value ≡ true = simp (not_among Known xs n h) at tested in
          is value out ∙ computed none rs n
