-- What accesses and unprivileged instructions leave of the page tables: with paging on and a ring below 3, marks alone.
-- Assumes nothing.
use Rattle.std.proofs.Common.{◌≡◌, ℕ, ◌<◌, Bool, true, not, ◌&&◌, List, [], ◌∷◌, length, get_or, drop, set, sym, refl, subst, eq-eqb}
use Rattle.isa.specs.Machine.{ring_of}
use Rattle.isa.specs.Instructions.{Completed, complete, request, indirect_request}
use Rattle.isa.specs.Pages.{Entry, entry_at, slot_of, table_of, in_window, translate, passes, with_mark}
use Rattle.isa.specs.Pages.{marked, Tested, tested_first, test_all, words_at, store_all, rights_of}
use Rattle.isa.specs.Step.{Part, operands_tested, operands, indirect_tested, user_stage, finished}
use Rattle.isa.specs.declared.access.Access.{Access}
use Rattle.isa.specs.declared.access.AccessKind.{AccessKind}
use Rattle.isa.specs.declared.access.Rights.{Rights}
use Rattle.std.specs.declared.result.Result.{Result}
use Rattle.std.specs.declared.result.Result.TheVariants.{Ok, Err}
use Rattle.isa.specs.declared.access.Place.{Place}
use Rattle.isa.specs.declared.access.Place.TheVariants.{Load, Store, LoadTable, StoreTable}
use Rattle.isa.specs.declared.access.Fault.{Fault}
use Rattle.isa.specs.declared.instruction.User.{User}
use Rattle.isa.specs.declared.machine.Core.{Core}
use Rattle.isa.proofs.Permits.{PlaceBy, By, judged_by}
use Rattle.isa.proofs.Tests.{either, by_fault}
use Rattle.isa.proofs.Window.{no_window}

-- ---- marks

-- a property of the tables that marks keep
abbrev pub Lasting : Bool → (List ℕ → Type 0) → Type 0
Lasting form K = (t : List ℕ) (i : ℕ) (k : AccessKind) → K t → K (with_mark form t i k)

-- .. the tests of an instruction's accesses keep
module _ (K : List ℕ → Type 0) (r : Rights) (mark : Lasting r.extended K) where
  pub marked_keeps : (t : List ℕ) (words : ℕ) (x : Access) → K t → K (marked t words r x)
  unfolding marked
  marked_keeps t words x h =
      either K (r.paging && not (in_window r x.address) && passes (translate t words r x))
      (mark t (slot_of (table_of r x.alternate) x.address) x.kind h) h

  pub tested_keeps : (xs : List Access) (t : List ℕ) (words : ℕ) → K t → K (test_all t words r xs).tables
  tested_keeps [] t words h = h
  tested_keeps (x ∷ xs) t words h =
      go (translate t words r x) _ (tested_keeps xs (marked t words r x) words (marked_keeps t words x h))
    where
      go : (y : Result Place Fault) (q : Tested) → K q.tables → K (tested_first t y q).tables
      go (Ok p) q k = k
      go (Err f) q k = h

-- ---- stores

-- an access that stores in no page table
abbrev NoTable : Place → Type 0
NoTable (Load p) = Unit {0}
NoTable (Store p) = Unit {0}
NoTable (LoadTable i) = Unit {0}
NoTable (StoreTable i) = ⊥

abbrev NoTables : List Place → Type 0
NoTables [] = Unit {0}
NoTables (x ∷ xs) = NoTable x × NoTables xs

stored_tables : (m t : List ℕ) (xs : List Place) (ws : List ℕ) → NoTables xs → (store_all m t xs ws).tables ≡ t
stored_tables m t [] ws h = refl
stored_tables m t (Load p ∷ xs) ws h = stored_tables m t xs ws h.1
stored_tables m t (Store p ∷ xs) ws h = stored_tables (set m p (get_or ws 0 0)) t xs (drop 1 ws) h.1
stored_tables m t (LoadTable i ∷ xs) ws h = stored_tables m t xs ws h.1
stored_tables m t (StoreTable i ∷ xs) ws h = absurd h.0

-- by an entry, no access goes to a page table
by_entry : (e : Entry) (ring : ℕ) (x : Place) → PlaceBy e ring x → NoTable x
by_entry e ring (Load p) h = tt
by_entry e ring (Store p) h = tt
by_entry e ring (LoadTable i) h = tt
by_entry e ring (StoreTable i) h = h

module _ (words : ℕ) (r : Rights) (on : r.paging ≡ true) (low : r.ring < 3) where
  by_tables : (t : List ℕ) (x : Access)
      → By (entry_at r.extended t (slot_of (table_of r x.alternate) x.address)) r.ring (translate t words r x)
  unfolding translate
  by_tables t x =
      let i = slot_of (table_of r x.alternate) x.address in
      rw (no_window r x.address on low, on)
      (judged_by (entry_at r.extended t i) i words r.ring x.kind x.address)

  no_tables : (xs : List Access) (t : List ℕ) → NoTables (test_all t words r xs).places
  no_tables [] t = tt
  no_tables (x ∷ xs) t = go (translate t words r x) (by_tables t x) _ (no_tables xs (marked t words r x))
    where
      e : Entry
      e = entry_at r.extended t (slot_of (table_of r x.alternate) x.address)

      go : (y : Result Place Fault) → By e r.ring y → (q : Tested) → NoTables q.places
          → NoTables (tested_first t y q).places
      go (Ok p) h q k = (by_entry e r.ring p h, k)
      go (Err f) h q k = tt

-- ---- instructions

-- what marks keep, an unprivileged instruction keeps
module _ (K : List ℕ → Type 0) (c : Core) (mark : Lasting (rights_of c).extended K) (on : c.control.paging ≡ 1)
    (low : ring_of c.pcr < 3) where
  abbrev Keeps : Part → Type 0
  Keeps p = K p.tables

  paging_on : (rights_of c).paging ≡ true
  paging_on = eq-eqb c.control.paging 1 on

  operands_keep : (m t : List ℕ) (u : User) (i : ℕ) → K t → Keeps (operands c m t u i)
  unfolding operands operands_tested finished
  operands_keep m t u i h =
      let xs = request u c.file i in
      let r : Tested = test_all t (length m) (rights_of c) xs in
      let marks : K r.tables = tested_keeps K (rights_of c) mark xs t (length m) h in
      let d : Completed = complete u c.file i (words_at m r.tables r.places) in
      by_fault Keeps r.fault
      (subst K
      (sym (stored_tables m r.tables r.places d.stores
      (no_tables (length m) (rights_of c) paging_on low xs t)))
      marks)
      (λ f. marks)

  pub user_keeps : (m t : List ℕ) (u : User) → K t → Keeps (user_stage c m t u)
  unfolding user_stage indirect_tested
  user_keeps m t u h =
      let xs = indirect_request u c.file in
      let r : Tested = test_all t (length m) (rights_of c) xs in
      let marks : K r.tables = tested_keeps K (rights_of c) mark xs t (length m) h in
      by_fault Keeps r.fault
      (operands_keep m r.tables u (get_or (words_at m r.tables r.places) 0 0) marks) (λ f. marks)
