-- Places lie within a memory of so many words, or within the page tables.
use Rattle.std.specs.Prelude.{ℕ, ◌<◌, Bool, true, false, List, [], ◌∷◌}
use Rattle.std.specs.declared.option.Option.{Option}
use Rattle.std.specs.declared.option.Option.TheVariants.{None, Some}
use Rattle.isa.specs.Machine.{table_words}
use Rattle.isa.specs.Pages.{word_at, Lent, lent, store_all}
use Rattle.isa.specs.declared.access.Place.{Place}
use Rattle.isa.specs.declared.access.Place.TheVariants.{Load, Store, LoadTable, StoreTable}

abbrev pub Within : ℕ → Place → Type 0
Within words (Load p) = p < words
Within words (Store p) = p < words
Within words (LoadTable i) = i < table_words
Within words (StoreTable i) = i < table_words

-- a place to store to
abbrev pub is_store : Place → Bool
is_store (Load p) = false
is_store (Store p) = true
is_store (LoadTable i) = false
is_store (StoreTable i) = true

abbrev pub AllWithin : ℕ → List Place → Type 0
AllWithin words [] = Unit {0}
AllWithin words (x ∷ xs) = Within words x × AllWithin words xs

-- ---- the place of an access, if one was made and passed

abbrev pub WithinIfAny : ℕ → Option Place → Type 0
WithinIfAny words None = Unit {0}
WithinIfAny words (Some p) = Within words p

abbrev pub stores : Option Place → Bool
stores None = false
stores (Some p) = is_store p

-- the word that it reads, and what it leaves where it stores the word w
abbrev pub word_read : List ℕ → List ℕ → Option Place → ℕ
word_read m t None = 0
word_read m t (Some p) = word_at m t p

abbrev pub word_stored : List ℕ → List ℕ → Option Place → ℕ → Lent
word_stored m t None w = lent m t
word_stored m t (Some p) w = store_all m t (p ∷ []) (w ∷ [])
