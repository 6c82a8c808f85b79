-- Accesses: the paging status of a fault, marks in the tables, words read and words stored.
-- Assumes nothing.
use Prim.Native.Nat.{ℕ, ◌*◌, ◌<◌}
use native.Mathlib.Omega.{arith}
use mathlib.Core.Bool.{Bool, not, ◌&&◌}
use mathlib.Core.List.{List, [], ◌∷◌}
use lib.ListN.{drop, get_or, set}
use lib.Dec.{eqb, ltb, leb}
use Rattle.isa.specs.Machine.{word_range, Words, flag, flag_ptm}
use Rattle.isa.specs.Pages.{Entry, entry_at, slot_of, some_permit, needed, ring_allows, physical, paging_status}
use Rattle.isa.specs.Pages.{within_memory, judged, table_of, in_window, translate, fault_number, pgs_after}
use Rattle.isa.specs.Pages.{first_status, held_after, mark_of, marked, Tested, tested_first, test_all, after_test, word_at, words_at, Lent, store_all}
use Rattle.isa.specs.Pages.{first_word, window_start, rights_of}
use Rattle.isa.specs.Physical.{physical_place, test_physical}
use Rattle.isa.specs.Step.{faulted}
use Rattle.isa.specs.declared.machine.Core.{Core}
use Rattle.isa.specs.declared.access.Access.{Access}
use Rattle.isa.specs.declared.access.AccessKind.{AccessKind}
use Rattle.isa.specs.declared.access.AccessKind.TheVariants.{Fetch, Read, Write, Indirect}
use Rattle.isa.specs.declared.access.Rights.{Rights}
use Rattle.std.specs.declared.option.Option.{Option}
use Rattle.std.specs.declared.option.Option.TheVariants.{None, Some}
use Rattle.std.specs.declared.result.Result.{Result}
use Rattle.std.specs.declared.result.Result.TheVariants.{Ok, Err}
use Rattle.isa.specs.declared.access.Place.{Place}
use Rattle.isa.specs.declared.access.Place.TheVariants.{Load, Store, LoadTable, StoreTable}
use Rattle.isa.specs.declared.access.Fault.{Fault}
use Rattle.isa.specs.declared.access.Fault.TheVariants.{Protection, PageFault, OutOfRange}
use Rattle.isa.proofs.Tables.{Lasting, marked_keeps, tested_keeps}
use Rattle.isa.proofs.Tests.{either}
use Rattle.ranges.proofs.Places.{Each, set_words, nil_words, cons_words, drop_each}
use Rattle.ranges.proofs.Control.{PgsFits, CoreFits, status_fit, control_fits, gives_fits}

-- ---- the paging status

-- the rights of a level name tables 0 to 3
pub record RightsFit (r : Rights) : Type 0 where
  pub normal : r.normal < 4
  pub alternate : r.alternate < 4

-- .. as they are two bits of a PCR
pub rights_fit : (c : Core) → RightsFit (rights_of c)
rights_fit c = record {
  normal = omega arith;
  alternate = either (λ (n : ℕ). n < 4) (eqb (flag flag_ptm c.file) 1) (omega arith) (omega arith);
}

-- so does each access
table_below : {r : Rights} → RightsFit r → (b : Bool) → table_of r b < 4
table_below h b = either (λ (n : ℕ). n < 4) b h.alternate h.normal

-- a fault's paging status is in its bits
abbrev pub FaultFits : Fault → Type 0
FaultFits (Protection g) = PgsFits g
FaultFits (PageFault g) = PgsFits g
FaultFits OutOfRange = Unit

-- .. of an access, and of the first in a list that failed, if one did
abbrev pub OutcomeFits : Result Place Fault → Type 0
OutcomeFits (Ok p) = Unit
OutcomeFits (Err f) = FaultFits f

abbrev pub FirstFits : Option Fault → Type 0
FirstFits None = Unit
FirstFits (Some f) = FaultFits f

-- what follows the tests of accesses, by the first fault
pub after_test_fits : {A : Type 0} (P : A → Type 0) (x : Option Fault) {y : A} {g : Fault → A} → FirstFits x → P y
    → ((f : Fault) → FaultFits f → P (g f)) → P (after_test x y g)
after_test_fits P None h p q = p
after_test_fits P (Some f) h p q = q f h

-- the permit bit is missing times 16,384
status_fits : (k : AccessKind) (missing slot : ℕ) → missing < 2 → slot < 256
    → PgsFits (paging_status k (missing * 16384) slot)
status_fits Fetch n slot h l = record { clear = omega arith; word = omega arith }
status_fits Read n slot h l = record { clear = omega arith; word = omega arith }
status_fits Write n slot h l = record { clear = omega arith; word = omega arith }
status_fits Indirect n slot h l = record { clear = omega arith; word = omega arith }

-- a page beyond the memory gives no status
within_fits : (words : ℕ) (k : AccessKind) (p : ℕ) → OutcomeFits (within_memory words k p)
unfolding within_memory
within_fits words k p = either OutcomeFits (ltb p words) tt tt

-- by an entry
judged_fits : (e : Entry) (slot words ring : ℕ) (k : AccessKind) (a : ℕ) → slot < 256
    → OutcomeFits (judged e slot words ring k a)
unfolding judged
judged_fits e slot words ring k a h =
    either OutcomeFits (not (some_permit e)) (status_fits k 1 slot (omega arith) h)
    (either OutcomeFits (not (needed e k)) (status_fits k 1 slot (omega arith) h)
    (either OutcomeFits (not (ring_allows e ring)) (status_fits k 0 slot (omega arith) h)
    (within_fits words k (physical e a))))

-- one access
pub translated_fits : (t : List ℕ) (words : ℕ) {r : Rights} → RightsFit r → (x : Access)
    → OutcomeFits (translate t words r x)
unfolding translate
translated_fits t words {r} h x =
    let i : ℕ = slot_of (table_of r x.alternate) x.address in
    let n : table_of r x.alternate < 4 = table_below h x.alternate in
    let l : i < 256 = omega arith in
    let e : Entry = entry_at r.extended t i in
    either OutcomeFits (in_window r x.address) tt
    (either OutcomeFits r.paging (judged_fits e i words r.ring x.kind x.address l)
    (within_fits words x.kind x.address))

-- .. and one by a physical address
pub physical_fits : (form : Bool) (words : ℕ) (k : AccessKind) (p : ℕ) → OutcomeFits (physical_place form words k p)
unfolding physical_place
physical_fits form words k p =
    either OutcomeFits (leb (window_start form) p && ltb p word_range) tt (within_fits words k p)

-- PGS after an access that failed
after_fits : {g : ℕ} → PgsFits g → (x : Fault) → FaultFits x → PgsFits (pgs_after g (Some x))
after_fits h (Protection g) f = f
after_fits h (PageFault g) f = f
after_fits h OutOfRange f = h

-- .. by whether it is held
first_fits : (held : ℕ) {old g : ℕ} → PgsFits old → PgsFits g → PgsFits (first_status held old g)
first_fits held a b = either PgsFits (eqb held 1) a b

-- whether PGS is held then
held_fits : {old : ℕ} → old < 2 → (x : Fault) → held_after old (Some x) < 2
held_fits h (Protection g) = omega arith
held_fits h (PageFault g) = omega arith
held_fits h OutOfRange = h

-- it gives one of the interrupts 1 to 10
fault_below : (x : Fault) → (0 < fault_number x) × (fault_number x < 11)
fault_below (Protection g) = (omega arith, omega arith)
fault_below (PageFault g) = (omega arith, omega arith)
fault_below OutOfRange = (omega arith, omega arith)

-- the core after it
pub faulted_fits : (x : Fault) {c : Core} → FaultFits x → CoreFits c → CoreFits (faulted (Some x) c)
unfolding faulted
faulted_fits x {c} f q =
    let k = q.control in
    let g = first_fits c.control.held k.pgs (after_fits k.pgs x f) in
    let n = fault_below x in
    gives_fits (fault_number x) n.0 n.1 (control_fits q (status_fit k g (held_fits k.held x)))

-- ---- marks and tests

-- the first fault is that of an access
first_tested : (t : List ℕ) (x : Result Place Fault) (q : Tested) → OutcomeFits x → FirstFits q.fault
    → FirstFits (tested_first t x q).fault
first_tested t (Ok p) q h k = k
first_tested t (Err f) q h k = h

pub physical_fault : (t : List ℕ) (form : Bool) (words : ℕ) (k : AccessKind) (ps : List ℕ)
    → FirstFits (test_physical t form words k ps).fault
physical_fault t form words k [] = tt
physical_fault t form words k (p ∷ ps) =
    first_tested t (physical_place form words k p) _ (physical_fits form words k p) (physical_fault t form words k ps)

pub tested_fault : (xs : List Access) (t : List ℕ) (words : ℕ) {r : Rights} → RightsFit r
    → FirstFits (test_all t words r xs).fault
tested_fault [] t words h = tt
tested_fault (x ∷ xs) t words {r} h =
    first_tested t (translate t words r x) _ (translated_fits t words h x)
    (tested_fault xs (marked t words r x) words h)

-- a marked entry is a word
mark_word : (k : AccessKind) (e : ℕ) → e < 65536 → mark_of k e < 65536
mark_word Fetch e h = omega arith
mark_word Read e h = omega arith
mark_word Write e h = omega arith
mark_word Indirect e h = omega arith

-- .. so marked tables are words
mark_words : (form : Bool) → Lasting form Words
mark_words form t i k h =
    let j : ℕ = first_word form i in
    set_words t j (mark_of k (get_or t j 0)) h (mark_word k (get_or t j 0) (h j))

-- ---- stores

-- memory and tables of some kind
pub record Kept (M T : List ℕ → Type 0) (r : Lent) : Type 0 where
  pub memory : M r.memory
  pub tables : T r.tables

-- what a store of a word of some kind keeps of memory and tables, a row of stores keeps
module _ (W : ℕ → Type 0) (M T : List ℕ → Type 0) (store : (l : List ℕ) (i v : ℕ) → M l → W v → M (set l i v))
    (storeTable : (l : List ℕ) (i v : ℕ) → T l → W v → T (set l i v)) where
  pub stored_keeps : (xs : List Place) (m t ws : List ℕ) → M m → T t → Each (λ i. W) ws
      → Kept M T (store_all m t xs ws)
  stored_keeps [] m t ws p q h = record { memory = p; tables = q }
  stored_keeps (Load a ∷ xs) m t ws p q h = stored_keeps xs m t ws p q h
  stored_keeps (Store a ∷ xs) m t ws p q h =
      stored_keeps xs (set m a (get_or ws 0 0)) t (drop 1 ws) (store m a (get_or ws 0 0) p (h 0)) q
      (drop_each (λ i. W) 1 ws h)
  stored_keeps (LoadTable a ∷ xs) m t ws p q h = stored_keeps xs m t ws p q h
  stored_keeps (StoreTable a ∷ xs) m t ws p q h =
      stored_keeps xs m (set t a (get_or ws 0 0)) (drop 1 ws) p (storeTable t a (get_or ws 0 0) q (h 0))
      (drop_each (λ i. W) 1 ws h)

-- ---- memory and tables in range

pub record LentFits (m t : List ℕ) : Type 0 where
  pub memory : Words m
  pub tables : Words t

-- .. after a mark
pub marked_fits : (m t : List ℕ) (words : ℕ) (r : Rights) (x : Access) → LentFits m t → LentFits m (marked t words r x)
marked_fits m t words r x h =
    record { memory = h.memory; tables = marked_keeps Words r (mark_words r.extended) t words x h.tables }

-- .. after the tests of an instruction's accesses
pub tested_fits : (xs : List Access) (m t : List ℕ) (words : ℕ) (r : Rights) → LentFits m t
    → LentFits m (test_all t words r xs).tables
tested_fits xs m t words r h =
    record { memory = h.memory; tables = tested_keeps Words r (mark_words r.extended) xs t words h.tables }

-- .. after its stores
pub stored_fits : (xs : List Place) (m t ws : List ℕ) → LentFits m t → Words ws
    → LentFits (store_all m t xs ws).memory (store_all m t xs ws).tables
stored_fits xs m t ws h w =
    let r = stored_keeps (λ v. v < 65536) Words Words set_words set_words xs m t ws h.memory h.tables w in
    record { memory = r.memory; tables = r.tables }

-- the word read at a place is a word
pub word_at_word : {m t : List ℕ} → LentFits m t → (x : Place) → word_at m t x < 65536
word_at_word h (Load p) = h.memory p
word_at_word h (Store p) = omega arith
word_at_word h (LoadTable i) = h.tables i
word_at_word h (StoreTable i) = omega arith

-- .. and so are those read at places
pub read_words : {m t : List ℕ} → LentFits m t → (xs : List Place) → Words (words_at m t xs)
read_words h [] = nil_words
read_words {m} {t} h (x ∷ xs) = cons_words (word_at m t x) (words_at m t xs) (word_at_word h x) (read_words h xs)
