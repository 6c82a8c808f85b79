-- Two memories that differ in foreign words alone, and one memory that is kept: what reading and storing at allowed
-- places leaves.
-- Assumes nothing.
use Prim.Native.Nat.{ℕ, ◌/◌, ◌<◌}
use mathlib.Core.Path.{◌≡◌, refl, sym, ap, subst, ◌∙◌}
use mathlib.Core.Bool.{Bool, true, false}
use mathlib.Core.List.{List, [], ◌∷◌}
use native.Mathlib.Omega.{arith}
use native.Mathlib.Decide.{dec_lt, ℕ_discrete}
use lib.ListN.{get_or, set, drop, length, length-set}
use lib.Seq.{get_or-set_same, get_or-set_other, set_out}
use Rattle.isa.specs.Pages.{word_at, words_at, store_all, Lent}
use Rattle.isa.specs.Isolation.{permitted, permitted_writing}
use Rattle.isa.specs.declared.access.Place.{Place}
use Rattle.isa.specs.declared.access.Place.TheVariants.{Load, Store, LoadTable, StoreTable}
use Rattle.isa.proofs.Tests.{no_both}
use Rattle.isolation.proofs.Accesses.{Allowed, AllAllowed, also}

module _ (form : Bool) (t₀ : List ℕ) (a b ρ : ℕ) where
  -- equally long, and equal at each word of a permitted page
  pub record Agree (m n : List ℕ) : Type 0 where
    pub size : length m ≡ length n
    pub same : (k : ℕ) → permitted form t₀ a b ρ (k / 1024) ≡ true → get_or m k 0 ≡ get_or n k 0

  -- n is m but for words of pages that are permitted for writing
  pub record Kept (m n : List ℕ) : Type 0 where
    pub size : length n ≡ length m
    pub same : (k : ℕ) → permitted_writing form t₀ a b ρ (k / 1024) ≡ false → get_or n k 0 ≡ get_or m k 0

  kept_refl : (m : List ℕ) → Kept m m
  kept_refl m = record { size = refl; same = λ k f. refl }

  kept_trans : (m n o : List ℕ) → Kept m n → Kept n o → Kept m o
  kept_trans m n o h l = record { size = l.size ∙ h.size; same = λ k f. l.same k f ∙ h.same k f }

  -- what is left of the memories m and n: they agree, and each is kept
  pub record EvenMemories (m n m' n' : List ℕ) : Type 0 where
    pub agree : Agree m' n'
    pub left : Kept m m'
    pub right : Kept n n'

  pub even_refl : (m n : List ℕ) → Agree m n → EvenMemories m n m n
  even_refl m n h = record { agree = h; left = kept_refl m; right = kept_refl n }

  pub even_trans : (m n m' n' r q : List ℕ) → EvenMemories m n m' n' → EvenMemories m' n' r q → EvenMemories m n r q
  even_trans m n m' n' r q h l =
      record {
        agree = l.agree;
        left = kept_trans m m' r h.left l.left;
        right = kept_trans n n' q h.right l.right;
      }

  -- one store of the same word in both
  set_agree : (m n : List ℕ) (p v : ℕ) → Agree m n → Agree (set m p v) (set n p v)
  set_agree m n p v h =
      record {
        size = length-set m p v ∙ h.size ∙ sym (length-set n p v);
        same = λ k f. go k f (ℕ_discrete k p) (dec_lt p (length m));
      }
    where
      go : (k : ℕ) → permitted form t₀ a b ρ (k / 1024) ≡ true → Dec (k ≡ p) → Dec (p < length m)
          → get_or (set m p v) k 0 ≡ get_or (set n p v) k 0
      go k f (no q) d = get_or-set_other m p k v 0 q ∙ h.same k f ∙ sym (get_or-set_other n p k v 0 q)
      go k f (yes q) (yes l) =
          rw q (get_or-set_same m p v 0 l ∙ sym (get_or-set_same n p v 0 (subst (λ (x : ℕ). p < x) h.size l)))
      go k f (yes q) (no l) =
          ap (λ (x : List ℕ). get_or x k 0) (set_out m p v (omega arith)) ∙ h.same k f
          ∙ sym (ap (λ (x : List ℕ). get_or x k 0) (set_out n p v (omega (arith, h.size))))

  -- a store to a page that is permitted for writing
  set_kept : (m : List ℕ) (p v : ℕ) → permitted_writing form t₀ a b ρ (p / 1024) ≡ true → Kept m (set m p v)
  set_kept m p v h =
      record { size = length-set m p v; same = λ k f. get_or-set_other m p k v 0 (λ q. no_both (sym (rw q at f) ∙ h)) }

  pub word_same : (m n t : List ℕ) (x : Place) → Allowed form t₀ a b ρ x → Agree m n
      → word_at m t x ≡ word_at n t x
  word_same m n t (Load p) h l = l.same p h
  word_same m n t (Store p) h l = refl
  word_same m n t (LoadTable i) h l = refl
  word_same m n t (StoreTable i) h l = refl

  pub words_same : (m n t : List ℕ) (xs : List Place) → AllAllowed form t₀ a b ρ xs → Agree m n
      → words_at m t xs ≡ words_at n t xs
  words_same m n t [] h l = refl
  words_same m n t (x ∷ xs) (also h hs) l =
      ap (λ (w : ℕ). w ∷ words_at m t xs) (word_same m n t x h l)
      ∙ ap (λ (ws : List ℕ). word_at n t x ∷ ws) (words_same m n t xs hs l)

  -- what storing the same words in both leaves
  pub record Stored (m n t : List ℕ) (r q : Lent) : Type 0 where
    pub memories : EvenMemories m n r.memory q.memory
    pub left_tables : r.tables ≡ t
    pub right_tables : q.tables ≡ t

  stored_none : (m n t : List ℕ) → Agree m n
      → Stored m n t (record { memory = m; tables = t }) (record { memory = n; tables = t })
  stored_none m n t h = record { memories = even_refl m n h; left_tables = refl; right_tables = refl }

  stored_more : (m n m' n' t : List ℕ) (r q : Lent) → EvenMemories m n m' n' → Stored m' n' t r q → Stored m n t r q
  stored_more m n m' n' t r q k h = record {
    memories = even_trans m n m' n' r.memory q.memory k h.memories;
    left_tables = h.left_tables;
    right_tables = h.right_tables;
  }

  pub store_all_law : (m n t : List ℕ) (xs : List Place) (ws : List ℕ) → AllAllowed form t₀ a b ρ xs → Agree m n
      → Stored m n t (store_all m t xs ws) (store_all n t xs ws)
  store_all_law m n t [] ws h l = stored_none m n t l
  store_all_law m n t (Load p ∷ xs) ws (also h hs) l = store_all_law m n t xs ws hs l
  store_all_law m n t (Store p ∷ xs) ws (also h hs) l =
      let w : ℕ = get_or ws 0 0 in
      let vs : List ℕ = drop 1 ws in
      let e = set_agree m n p w l in
      stored_more m n (set m p w) (set n p w) t (store_all (set m p w) t xs vs) (store_all (set n p w) t xs vs)
      (record { agree = e; left = set_kept m p w h; right = set_kept n p w h })
      (store_all_law (set m p w) (set n p w) t xs vs hs e)
  store_all_law m n t (LoadTable i ∷ xs) ws (also h hs) l = absurd h
  store_all_law m n t (StoreTable i ∷ xs) ws (also h hs) l = absurd h
