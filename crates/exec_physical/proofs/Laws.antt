-- Two words by a physical address: both places are to load from, or both to store to.
-- Assumes nothing.
use Rattle.std.proofs.Common.{◌≡◌, ℕ, ◌+◌, ◌%◌, Bool, true, false, cond, ◌&&◌, leb, ltb, List, [], ◌∷◌, length, refl, sym, ap, ◌∙◌, subst}
use Rattle.std.specs.declared.option.Option.TheVariants.{None}
use Rattle.std.specs.declared.result.Result.{Result}
use Rattle.std.specs.declared.result.Result.TheVariants.{Ok, Err}
use Rattle.isa.specs.Machine.{word_range}
use Rattle.isa.specs.Pages.{none_tested, tested_first, in_memory, in_tables, within_memory, window_start}
use Rattle.isa.specs.Pages.{window_words, word_at, Lent, lent, store_all}
use Rattle.isa.specs.Physical.{physical_place, transfer_address, transfer_kind, two_words}
use Rattle.isa.specs.Physical.{test_physical, transfer_stores, transferred}
use Rattle.isa.specs.declared.access.AccessKind.{AccessKind}
use Rattle.isa.specs.declared.access.AccessKind.TheVariants.{Fetch, Read, Write, Indirect}
use Rattle.isa.specs.declared.access.Place.{Place}
use Rattle.isa.specs.declared.access.Place.TheVariants.{Load, Store, LoadTable, StoreTable}
use Rattle.isa.specs.declared.access.Fault.{Fault}
use Rattle.isa.specs.declared.instruction.Transfer.{Transfer}
use Rattle.isa.specs.declared.machine.File.{File}
use Rattle.isa.proofs.Tests.{either, no_both}
use Rattle.paging.specs.Within.{is_store}
use Rattle.paging.proofs.Stores.{store_first}
use Rattle.exec_physical.specs.Transfers.{transfer_tested, Moved}

-- ---- a write goes to a place to store to, and no other access does

abbrev writes : AccessKind → Bool
writes Fetch = false
writes Read = false
writes Write = true
writes Indirect = false

abbrev ByKind : AccessKind → Result Place Fault → Type 0
ByKind k (Ok p) = is_store p ≡ writes k
ByKind k (Err f) = Unit {0}

memory_kind : (k : AccessKind) (p : ℕ) → is_store (in_memory k p) ≡ writes k
memory_kind Fetch p = refl
memory_kind Read p = refl
memory_kind Write p = refl
memory_kind Indirect p = refl

tables_kind : (k : AccessKind) (i : ℕ) → is_store (in_tables k i) ≡ writes k
tables_kind Fetch i = refl
tables_kind Read i = refl
tables_kind Write i = refl
tables_kind Indirect i = refl

within_kind : (words : ℕ) (k : AccessKind) (p : ℕ) → ByKind k (within_memory words k p)
unfolding within_memory
within_kind words k p = either (ByKind k) (ltb p words) (memory_kind k p) tt

place_kind : (form : Bool) (words : ℕ) (k : AccessKind) (p : ℕ) → ByKind k (physical_place form words k p)
unfolding physical_place
place_kind form words k p =
    either (ByKind k) (leb (window_start form) p && ltb p word_range) (tables_kind k (p % window_words form))
    (within_kind words k p)

alike : (form : Bool) (words p q : ℕ) (k : AccessKind) (x y : Place) → Ok x ≡ physical_place form words k p
    → Ok y ≡ physical_place form words k q → is_store x ≡ is_store y
alike form words p q k x y e h =
    subst (ByKind k) (sym e) (place_kind form words k p) ∙ sym (subst (ByKind k) (sym h) (place_kind form words k q))

-- ---- one word stored after the other

-- nothing is stored at a place to load from
load_first : (m t : List ℕ) (x : Place) (xs : List Place) (ws : List ℕ) → is_store x ≡ false
    → store_all m t xs ws ≡ store_all m t (x ∷ xs) ws
load_first m t (Load p) xs ws h = refl
load_first m t (Store p) xs ws h = absurd (no_both (sym h))
load_first m t (LoadTable i) xs ws h = refl
load_first m t (StoreTable i) xs ws h = absurd (no_both (sym h))

-- what is stored last leaves the words after it
stored_last : (m t : List ℕ) (y : Place) (b c : ℕ)
    → store_all m t (y ∷ []) (b ∷ []) ≡ store_all m t (y ∷ []) (b ∷ c ∷ [])
stored_last m t (Load p) b c = refl
stored_last m t (Store p) b c = refl
stored_last m t (LoadTable i) b c = refl
stored_last m t (StoreTable i) b c = refl

-- nothing is stored at places to load from, whatever the words are
load_last : (m t : List ℕ) (y : Place) (v w : List ℕ) → is_store y ≡ false
    → store_all m t (y ∷ []) v ≡ store_all m t (y ∷ []) w
load_last m t y v w h = sym (load_first m t y [] v h) ∙ load_first m t y [] w h

pair_stored : (m t m' t' m'' t'' : List ℕ) (x y : Place) (a b c : ℕ) → is_store x ≡ is_store y
    → lent m' t' ≡ store_all m t (x ∷ []) (a ∷ [])
    → lent m'' t'' ≡ store_all m' t' (y ∷ []) (b ∷ [])
    → lent m'' t'' ≡ store_all m t (x ∷ y ∷ []) (a ∷ b ∷ c ∷ [])
pair_stored m t m' t' m'' t'' x y a b c e h k = go (is_store x) refl
  where
    go : (s : Bool) → is_store x ≡ s → lent m'' t'' ≡ store_all m t (x ∷ y ∷ []) (a ∷ b ∷ c ∷ [])
    go true q = k ∙ stored_last m' t' y b c ∙ store_first m t m' t' a x h q (y ∷ []) (b ∷ c ∷ [])
    go false q =
        let none : lent m' t' ≡ lent m t = h ∙ sym (load_first m t x [] (a ∷ []) q) in
        k
        ∙ ap (λ (l : Lent). store_all l.memory l.tables (y ∷ []) (b ∷ [])) none
        ∙ load_last m t y (b ∷ []) (a ∷ b ∷ c ∷ []) (sym e ∙ q)
        ∙ load_first m t x (y ∷ []) (a ∷ b ∷ c ∷ []) q

-- ---- the instruction

module _ (f : File) (form : Bool) (o : Transfer) (d : ℕ) (m t : List ℕ) where
  abbrev place : ℕ → Result Place Fault
  place = physical_place form (length m) (transfer_kind o)

  -- both words passed
  both_tested : (x y : Place) → two_words o ≡ true → Ok x ≡ place (transfer_address f d)
      → Ok y ≡ place (transfer_address f d + 1)
      → transfer_tested f form o d m t ≡ record { tables = t; places = x ∷ y ∷ []; fault = None; made = 2 }
  both_tested x y two e h =
      let p = transfer_address f d in
      (λ i. test_physical t form (length m) (transfer_kind o) (p ∷ cond (two i) ((p + 1) ∷ []) []))
      ∙ (λ i. tested_first t (sym e i) (tested_first t (sym h i) (none_tested t)))

  pub both_moved : (m' t' m'' t'' : List ℕ) (x y : Place) (g : File) → two_words o ≡ true
      → Ok x ≡ place (transfer_address f d) → Ok y ≡ place (transfer_address f d + 1)
      → g ≡ transferred o f (word_at m t x) (word_at m t y)
      → lent m' t' ≡ store_all m t (x ∷ []) ((transfer_stores o f).a ∷ [])
      → lent m'' t'' ≡ store_all m' t' (y ∷ []) ((transfer_stores o f).b ∷ [])
      → Moved f o m t (transfer_tested f form o d m t) g m'' t''
  both_moved m' t' m'' t'' x y g two e h k s z =
      let w = transfer_stores o f in
      subst (λ r. Moved f o m t r g m'' t'') (sym (both_tested x y two e h))
      (record {
        fault = refl;
        made = λ i. cond (sym two i) 2 1;
        file = k;
        stored =
            pair_stored m t m' t' m'' t'' x y w.a w.b w.c (alike form (length m) _ _ (transfer_kind o) x y e h) s z;
      })
