-- Laws of one access: permits, the outcomes of its tests, and that a place lies within the memory.
-- Assumes nothing.
use Prim.Native.Nat.{ℕ, ◌/◌, ◌%◌, ◌<◌}
use native.Mathlib.Omega.{arith}
use native.Mathlib.Decide.{ℕ_discrete}
use mathlib.Core.Path.{◌≡◌, refl}
use mathlib.Core.Bool.{Bool, true, false, cond, not, ◌||◌, and-false}
use mathlib.Core.List.{List}
use lib.ListN.{get_or}
use lib.Dec.{ltb, eqb}
use borrow.Author.Tests.{ltb-true, eq-eqb, ne_eqb}
use Rattle.std.specs.Prelude.{IfOk}
use Rattle.std.specs.declared.result.Result.{Result}
use Rattle.std.specs.declared.result.Result.TheVariants.{Ok, Err}
use Rattle.isa.specs.Machine.{table_words}
use Rattle.isa.specs.Pages.{Entry, entry_of, entry_at, first_word, slot_of, some_permit, needed, ring_allows, physical}
use Rattle.isa.specs.Pages.{paging_status, in_memory, in_tables, within_memory, judged, table_of, window_words, in_window}
use Rattle.isa.specs.Pages.{translate, passes, with_mark, marked}
use Rattle.isa.specs.declared.access.Access.{Access}
use Rattle.isa.specs.declared.access.AccessKind.{AccessKind}
use Rattle.isa.specs.declared.access.AccessKind.TheVariants.{Fetch, Read, Write, Indirect}
use Rattle.isa.specs.declared.access.Rights.{Rights}
use Rattle.isa.specs.declared.access.Place.{Place}
use Rattle.isa.specs.declared.access.Fault.{Fault}
use Rattle.isa.specs.declared.access.Fault.TheVariants.{Protection, PageFault, OutOfRange}
use Rattle.isa.proofs.Tests.{either, decided}
use Rattle.paging.specs.Within.{Within}

-- ---- permits

-- bits 14 and 13 at once, and bits 15 to 13
both_zero : (e : ℕ) → (e / 16384 % 2 ≡ 1 → ⊥) → (e / 8192 % 2 ≡ 1 → ⊥) → e / 8192 % 4 ≡ 0
both_zero e p q = go (e / 8192) (e / 16384) (omega arith) p q
  where
    go : (u v : ℕ) → v ≡ u / 2 → (v % 2 ≡ 1 → ⊥) → (u % 2 ≡ 1 → ⊥) → u % 4 ≡ 0
    go u v h x y = omega arith

all_zero : (e : ℕ) → e < 65536 → (e / 32768 % 2 ≡ 1 → ⊥) → e / 8192 % 4 ≡ 0 → e / 8192 ≡ 0
all_zero e l p h = go (e / 8192) (e / 32768) (omega arith) (omega arith) p h
  where
    go : (u v : ℕ) → v ≡ u / 4 → u < 8 → (v % 2 ≡ 1 → ⊥) → u % 4 ≡ 0 → u ≡ 0
    go u v h k x y = omega arith

pub any_permit : (e : ℕ) → e < 65536 → not (eqb (e / 8192) 0) ≡ some_permit (entry_of e 0)
any_permit e l = go (ℕ_discrete (e / 32768 % 2) 1) (ℕ_discrete (e / 16384 % 2) 1) (ℕ_discrete (e / 8192 % 2) 1)
  where
    go : Dec (e / 32768 % 2 ≡ 1) → Dec (e / 16384 % 2 ≡ 1) → Dec (e / 8192 % 2 ≡ 1)
        → not (eqb (e / 8192) 0) ≡ some_permit (entry_of e 0)
    go (yes p) d f = simp (eq-eqb _ _ p, ne_eqb (e / 8192) 0 (λ z. omega (arith, p, z)))
    go (no p) (yes q) f = simp (ne_eqb _ _ p, eq-eqb _ _ q, ne_eqb (e / 8192) 0 (λ z. omega (arith, q, z)))
    go (no p) (no q) (yes r) =
        simp (ne_eqb _ _ p, ne_eqb _ _ q, eq-eqb _ _ r, ne_eqb (e / 8192) 0 (λ z. omega (arith, r, z)))
    go (no p) (no q) (no r) =
        simp (ne_eqb _ _ p, ne_eqb _ _ q, ne_eqb _ _ r, eq-eqb (e / 8192) 0 (all_zero e l p (both_zero e q r)))

-- an entry with the needed permit has some permit
needed_some : (e : Entry) (k : AccessKind) → needed e k ≡ true → some_permit e ≡ true
needed_some e Fetch h = go e.write e.read
  where
    go : (x y : Bool) → (x || y || e.fetch) ≡ true
    go true y = refl
    go false true = refl
    go false false = h
needed_some e Read h = go e.write
  where
    go : (x : Bool) → (x || e.read || e.fetch) ≡ true
    go true = refl
    go false = simp h
needed_some e Write h = simp h
needed_some e Indirect h = go e.write
  where
    go : (x : Bool) → (x || e.read || e.fetch) ≡ true
    go true = refl
    go false = h

-- the entry of the word at the place i and of the page p, which are those of a slot
pub entry_by : (form : Bool) (t : List ℕ) (slot : ℕ) {i p : ℕ} → i ≡ first_word form slot
    → p ≡ (entry_at form t slot).page
    → entry_of (get_or t i 0) p ≡ entry_at form t slot
entry_by form t slot at named = λ j. entry_of (get_or t (at j) 0) (named j)

-- ---- the outcomes of the tests by an entry

abbrev pub passed : Place → Result Place Fault
passed p = Ok p

abbrev pub refused : Fault → Result Place Fault
refused f = Err f

module _ (e : Entry) (slot words ring : ℕ) (k : AccessKind) (a : ℕ) where
  pub judged_refused : needed e k ≡ false
      → judged e slot words ring k a
      ≡ Err
      (cond (not (some_permit e)) (PageFault (paging_status k 16384 slot)) (Protection (paging_status k 16384 slot)))
  unfolding judged
  judged_refused n = simp n (go (some_permit e))
    where
      g : ℕ
      g = paging_status k 16384 slot

      go : (b : Bool) → cond (not b) (refused (PageFault g)) (refused (Protection g))
          ≡ refused (cond (not b) (PageFault g) (Protection g))
      go true = refl
      go false = refl

  module _ (n : needed e k ≡ true) where
    pub judged_ring : ring_allows e ring ≡ false
        → judged e slot words ring k a ≡ Err (Protection (paging_status k 0 slot))
    unfolding judged
    judged_ring r = simp (needed_some e k n, n, r)

    module _ (r : ring_allows e ring ≡ true) where
      pub judged_within : ltb (physical e a) words ≡ true
          → judged e slot words ring k a ≡ Ok (in_memory k (physical e a))
      unfolding judged within_memory
      judged_within w = simp (needed_some e k n, n, r, w)

      pub judged_beyond : ltb (physical e a) words ≡ false → judged e slot words ring k a ≡ Err OutOfRange
      unfolding judged within_memory
      judged_beyond w = simp (needed_some e k n, n, r, w)

-- ---- the three ways of an access: the window, the tables, and paging off

module _ (t : List ℕ) (words : ℕ) (r : Rights) (x : Access) where
  pub window_translated : in_window r x.address ≡ true
      → translate t words r x ≡ Ok (in_tables x.kind (x.address % window_words r.extended))
  unfolding translate
  window_translated h = simp h

  pub window_marked : in_window r x.address ≡ true → marked t words r x ≡ t
  unfolding marked
  window_marked h = simp (h, and-false)

  module _ (h : in_window r x.address ≡ false) where
    pub paged_translated : r.paging ≡ true
        → translate t words r x
        ≡ judged (entry_at r.extended t (slot_of (table_of r x.alternate) x.address))
        (slot_of (table_of r x.alternate) x.address) words r.ring x.kind x.address
    unfolding translate
    paged_translated on = simp (h, on)

    pub paged_marked : r.paging ≡ true
        → marked t words r x
        ≡ cond (passes (translate t words r x))
        (with_mark r.extended t (slot_of (table_of r x.alternate) x.address) x.kind) t
    unfolding marked
    paged_marked on = simp (h, on)

    pub unpaged_translated : r.paging ≡ false → translate t words r x ≡ within_memory words x.kind x.address
    unfolding translate
    unpaged_translated off = simp (h, off)

    pub unpaged_marked : r.paging ≡ false → marked t words r x ≡ t
    unfolding marked
    unpaged_marked off = simp off

-- ---- a place lies within the memory, or the tables

-- .. if the access passed
abbrev Inside : ℕ → Result Place Fault → Type 0
Inside words x = IfOk x (Within words)

memory_within : (words : ℕ) (k : AccessKind) (p : ℕ) → p < words → Within words (in_memory k p)
memory_within words Fetch p h = h
memory_within words Read p h = h
memory_within words Write p h = h
memory_within words Indirect p h = h

pub tables_within : (words : ℕ) (k : AccessKind) (i : ℕ) → i < table_words → Within words (in_tables k i)
tables_within words Fetch i h = h
tables_within words Read i h = h
tables_within words Write i h = h
tables_within words Indirect i h = h

pub physical_within : (words : ℕ) (k : AccessKind) (p : ℕ) → IfOk (within_memory words k p) (Within words)
unfolding within_memory
physical_within words k p =
    decided (Inside words) (ltb p words) (λ h. memory_within words k p (ltb-true p words h)) (λ h. tt)

pub judged_inside : (e : Entry) (slot words ring : ℕ) (k : AccessKind) (a : ℕ)
    → IfOk (judged e slot words ring k a) (Within words)
unfolding judged
judged_inside e slot words ring k a =
    either (Inside words) (not (some_permit e)) tt
    (either (Inside words) (not (needed e k)) tt
    (either (Inside words) (not (ring_allows e ring)) tt (physical_within words k (physical e a))))

-- a place of the window, in either mode
pub window_inside : (form : Bool) (a : ℕ) → a % window_words form < table_words
window_inside true a = omega arith
window_inside false a = omega arith

pub translate_within : (t : List ℕ) (words : ℕ) (r : Rights) (x : Access)
    → IfOk (translate t words r x) (Within words)
unfolding translate
translate_within t words r x =
    either (Inside words) (in_window r x.address)
    (tables_within words x.kind (x.address % window_words r.extended) (window_inside r.extended x.address))
    (either (Inside words) r.paging
    (judged_inside (entry_at r.extended t (slot_of (table_of r x.alternate) x.address))
    (slot_of (table_of r x.alternate) x.address) words r.ring x.kind x.address)
    (physical_within words x.kind x.address))
