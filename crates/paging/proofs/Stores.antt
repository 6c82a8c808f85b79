-- One word stored, and the words after it.
-- Assumes nothing.
use Prim.Native.Nat.{ℕ}
use mathlib.Core.Path.{◌≡◌, ap}
use mathlib.Core.Bool.{true}
use mathlib.Core.List.{List, [], ◌∷◌}
use Rattle.isa.specs.Pages.{store_all, Lent, lent}
use Rattle.isa.proofs.Tests.{no_both}
use Rattle.isa.specs.declared.access.Place.{Place}
use Rattle.isa.specs.declared.access.Place.TheVariants.{Load, Store, LoadTable, StoreTable}
use Rattle.paging.specs.Within.{is_store}

module _ (m t m' t' : List ℕ) (w : ℕ) where
  abbrev Left : Place → Type 0
  Left x = lent m' t' ≡ store_all m t (x ∷ []) (w ∷ [])

  abbrev after : List Place → List ℕ → Lent → Lent
  after xs ws r = store_all r.memory r.tables xs ws

  -- a place to store to takes the word
  pub store_first : (x : Place) → Left x → is_store x ≡ true → (xs : List Place) (ws : List ℕ)
      → store_all m' t' xs ws ≡ store_all m t (x ∷ xs) (w ∷ ws)
  store_first (Load p) e h xs ws = absurd (no_both h)
  store_first (Store p) e h xs ws = ap (after xs ws) e
  store_first (LoadTable i) e h xs ws = absurd (no_both h)
  store_first (StoreTable i) e h xs ws = ap (after xs ws) e
