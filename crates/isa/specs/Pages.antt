-- Document 01, "Pages", and document 02, card 4: the two forms of an entry.
use Rattle.std.specs.Prelude.{ℕ, suc, ◌+◌, ◌*◌, ◌/◌, ◌%◌, Bool, true, false, cond, not, ◌&&◌, ◌||◌, List, [], ◌∷◌, drop, ◌==◌, nat_le, nat_lt, slice_index, slice_set}
use Rattle.std.specs.declared.option.Option.{Option}
use Rattle.std.specs.declared.option.Option.TheVariants.{None, Some}
use Rattle.std.specs.declared.result.Result.{Result}
use Rattle.std.specs.declared.result.Result.TheVariants.{Ok, Err}
use Rattle.isa.specs.Machine.{page_words, table_words, entries_in_table, slot_count, interrupt_protection}
use Rattle.isa.specs.Machine.{interrupt_page_fault, interrupt_out_of_range, bit, reg, flag_ptm, ring_of, normal_table_of}
use Rattle.isa.specs.Machine.{alternate_table_of, with_pcr}
use Rattle.isa.specs.declared.machine.Core.{Core}
use Rattle.isa.specs.declared.machine.Register.TheVariants.{Sts}
use Rattle.isa.specs.declared.access.Access.{Access}
use Rattle.isa.specs.declared.access.AccessKind.{AccessKind}
use Rattle.isa.specs.declared.access.AccessKind.TheVariants.{Fetch, Read, Write, Indirect}
use Rattle.isa.specs.declared.access.Rights.{Rights}
use Rattle.isa.specs.declared.access.Triple.{Triple}
use Rattle.isa.specs.declared.access.Place.{Place}
use Rattle.isa.specs.declared.access.Place.TheVariants.{Load, Store, LoadTable, StoreTable}
use Rattle.isa.specs.declared.access.Fault.{Fault}
use Rattle.isa.specs.declared.access.Fault.TheVariants.{Protection, PageFault, OutOfRange}

-- "Entry: bit 15 write, 14 read, 13 fetch permitted, 12 WIP, 11 PGU, 10-9 ring, 8-0 physical page."
pub record Entry : Type 0 where
  pub write : Bool
  pub read : Bool
  pub fetch : Bool
  pub wip : Bool
  pub pgu : Bool
  pub ring : ℕ
  pub page : ℕ

-- the entry of the word with its permits, marks and ring, and of its page
abbrev pub entry_of : ℕ → ℕ → Entry
entry_of e page = record {
  write = (bit 15 e == 1);
  read = (bit 14 e == 1);
  fetch = (bit 13 e == 1);
  wip = (bit 12 e == 1);
  pgu = (bit 11 e == 1);
  ring = e / 512 % 4;
  page = page;
}

-- "four tables of 64 entries": the slot of a virtual address by the table, that is, its entry's number among all. The
-- page of an address of 16 bits is below 64 and a table's number below 4, so each slot is one of the 256; `% 64` only
-- keeps that for any number.
abbrev pub slot_of : ℕ → ℕ → ℕ
slot_of table a = table * entries_in_table + a / page_words % entries_in_table

-- An entry's form (document 02, card 4): in 19-bit mode, `false`, it is one word, as above; in extended mode, `true`,
-- two words, "permits, marks and ring in the first, at their old bits; a 14-bit physical page in the second". By the
-- slot: where its first and its last word stand; how many pages it can name.
abbrev pub first_word : Bool → ℕ → ℕ
first_word form i = cond form (i * 2) i

abbrev pub last_word : Bool → ℕ → ℕ
last_word form i = cond form (i * 2 + 1) i

abbrev pub page_numbers : Bool → ℕ
page_numbers form = cond form 16384 512

-- the entry at a slot; ruling R8: its other bits mean nothing
abbrev pub entry_at : Bool → List ℕ → ℕ → Entry
entry_at form t i = entry_of (slice_index t (first_word form i)) (slice_index t (last_word form i) % page_numbers form)

abbrev pub some_permit : Entry → Bool
some_permit e = e.write || e.read || e.fetch

-- "the needed permit missing (an indirect word needs read or fetch)"
abbrev pub needed : Entry → AccessKind → Bool
needed e Fetch = e.fetch
needed e Read = e.read
needed e Write = e.write
needed e Indirect = e.read || e.fetch

-- "entry's ring above the user's"
abbrev pub ring_allows : Entry → ℕ → Bool
ring_allows e ring = nat_le e.ring ring

-- the physical address by an entry
abbrev pub physical : Entry → ℕ → ℕ
physical e a = e.page * page_words + a % page_words

-- "Interrupts 2 and 3 set PGS: bit 15 instruction fetch, 14 permit missing (so with every 3), 7-6 table, 5-0 virtual
-- page." The last two together are the entry's slot. Ruling 7: an indirect word is no instruction fetch, and the table
-- is the one that was used.
abbrev pub fetch_bit : AccessKind → ℕ
fetch_bit Fetch = 0o100000
fetch_bit Read = 0
fetch_bit Write = 0
fetch_bit Indirect = 0

-- "14 permit missing"
abbrev pub missing_bit : ℕ
missing_bit = 0o040000

abbrev pub paging_status : AccessKind → ℕ → ℕ → ℕ
paging_status k missing slot = fetch_bit k + missing + slot

-- where a passed access goes: to load or to store a word of memory, or of the page tables
abbrev pub in_memory : AccessKind → ℕ → Place
in_memory Fetch p = Load p
in_memory Read p = Load p
in_memory Write p = Store p
in_memory Indirect p = Load p

abbrev pub in_tables : AccessKind → ℕ → Place
in_tables Fetch i = LoadTable i
in_tables Read i = LoadTable i
in_tables Write i = StoreTable i
in_tables Indirect i = LoadTable i

-- "page beyond the memory, interrupt 9"; words is the size of the memory
unfoldable pub within_memory : ℕ → AccessKind → ℕ → Result Place Fault
within_memory words k p = cond (nat_lt p words) (Ok (in_memory k p)) (Err OutOfRange)

-- "Tests in order: all three permits 0, interrupt 3; the needed permit missing .. interrupt 2; entry's ring above the
-- user's, interrupt 2; page beyond the memory, interrupt 9."
unfoldable pub judged : Entry → ℕ → ℕ → ℕ → AccessKind → ℕ → Result Place Fault
judged e slot words ring k a =
    cond (not (some_permit e)) (Err (PageFault (paging_status k missing_bit slot)))
    (cond (not (needed e k)) (Err (Protection (paging_status k missing_bit slot)))
    (cond (not (ring_allows e ring)) (Err (Protection (paging_status k 0 slot)))
    (within_memory words k (physical e a))))

-- the table that an access goes by
abbrev pub table_of : Rights → Bool → ℕ
table_of r alternate = cond alternate r.alternate r.normal

-- Document 02, card 4: "page tables of 512 words standing at 177000 to 177777"; "In 19-bit mode the first 256 words are
-- used as before, at 177400 to 177777." The first address, and how many words stand there.
abbrev pub window_start : Bool → ℕ
window_start form = cond form 0o177000 0o177400

abbrev pub window_words : Bool → ℕ
window_words form = cond form table_words slot_count

-- "Addresses 177400 to 177777 are the page tables when paging is off or the ring is 3, for fetches too"; ruling 5: the
-- ring is the one at the moment of the access; ruling R7: who sees them is the same in extended mode
unfoldable pub in_window : Rights → ℕ → Bool
in_window r a = nat_le (window_start r.extended) a && (not r.paging || r.ring == 3)

-- One access, of a machine with so many words of memory. "With paging off all is permitted and addresses are physical."
-- From the window's first address on, `a % window_words` is the place in the tables.
unfoldable pub translate : List ℕ → ℕ → Rights → Access → Result Place Fault
translate t words r x =
    let a = x.address in
    let i = slot_of (table_of r x.alternate) a in
    cond (in_window r a) (Ok (in_tables x.kind (a % window_words r.extended)))
    (cond r.paging (judged (entry_at r.extended t i) i words r.ring x.kind a)
    (within_memory words x.kind a))

-- the number of the interrupt that a failed access gives
abbrev pub fault_number : Fault → ℕ
fault_number (Protection g) = interrupt_protection
fault_number (PageFault g) = interrupt_page_fault
fault_number OutOfRange = interrupt_out_of_range

-- .. that an access gives, by its fault: 0 where it passed; and PGS after it (ruling 2: 9 leaves it)
abbrev pub fault_of : Option Fault → ℕ
fault_of None = 0
fault_of (Some f) = fault_number f

abbrev pub pgs_after : ℕ → Option Fault → ℕ
pgs_after old None = old
pgs_after old (Some (Protection g)) = g
pgs_after old (Some (PageFault g)) = g
pgs_after old (Some OutOfRange) = old

-- "PGS shall keep the first fault" (document 02, card 3): PGS after a fault of status g, by whether the old one is held
abbrev pub first_status : ℕ → ℕ → ℕ → ℕ
first_status held old g = cond (held == 1) old g

-- "Whether it is held is control word 26": from the first 2 or 3 on; ruling 41: 9 touches neither
abbrev pub held_after : ℕ → Option Fault → ℕ
held_after held None = held
held_after held (Some (Protection g)) = 1
held_after held (Some (PageFault g)) = 1
held_after held (Some OutOfRange) = held

abbrev pub passes : Result Place Fault → Bool
passes (Ok p) = true
passes (Err f) = false

-- "A passed access sets PGU, a passed write also WIP; a failed one neither."
abbrev pub mark_of : AccessKind → ℕ → ℕ
mark_of Fetch e = e / 4096 * 4096 + 2048 + e % 2048
mark_of Read e = e / 4096 * 4096 + 2048 + e % 2048
mark_of Write e = e / 8192 * 8192 + 6144 + e % 2048
mark_of Indirect e = e / 4096 * 4096 + 2048 + e % 2048

-- the tables with the entry at a slot marked: ruling R8, in its first word only
abbrev pub with_mark : Bool → List ℕ → ℕ → AccessKind → List ℕ
with_mark form t i k = slice_set t (first_word form i) (mark_of k (slice_index t (first_word form i)))

-- the tables after an access; in the window "with no mark or lowering"
unfoldable pub marked : List ℕ → ℕ → Rights → Access → List ℕ
marked t words r x =
    let i = slot_of (table_of r x.alternate) x.address in
    cond (r.paging && not (in_window r x.address) && passes (translate t words r x))
    (with_mark r.extended t i x.kind) t

-- What a list of accesses leaves: the tables with their marks, where each goes, the first fault, if one failed, and
-- how many were made. Document 02, card 7: "tested accesses of a faulting instruction count up to and with the failing
-- one."
pub record Tested : Type 0 where
  pub tables : List ℕ
  pub places : List Place
  pub fault : Option Fault
  pub made : ℕ

-- .. of no access
abbrev pub none_tested : List ℕ → Tested
none_tested t = record { tables = t; places = []; fault = None; made = 0 }

-- .. of one and of those after it: r is what they leave where it passed, and t the tables where it failed
abbrev pub tested_first : List ℕ → Result Place Fault → Tested → Tested
tested_first t (Ok p) r = record { tables = r.tables; places = p ∷ r.places; fault = r.fault; made = suc r.made }
tested_first t (Err f) r = record { tables = t; places = []; fault = Some f; made = 1 }

-- "then accesses in order, all of them tested before the first store": one by one, up to the first that fails. Ruling
-- 1: the marks of those that passed stay. Ruling 5: later ones see the marks of earlier ones.
abbrev pub test_all : List ℕ → ℕ → Rights → List Access → Tested
test_all t words r [] = none_tested t
test_all t words r (x ∷ xs) = tested_first t (translate t words r x) (test_all (marked t words r x) words r xs)

-- what follows: y where all passed; what g makes of the fault where one failed
abbrev pub after_test : {A : Type 0} → Option Fault → A → (Fault → A) → A
after_test None y g = y
after_test (Some f) y g = g f

-- the words at the places; 0 where a place is not one to load from, which no completion looks at
abbrev pub word_at : List ℕ → List ℕ → Place → ℕ
word_at m t (Load p) = slice_index m p
word_at m t (Store p) = 0
word_at m t (LoadTable i) = slice_index t i
word_at m t (StoreTable i) = 0

abbrev pub words_at : List ℕ → List ℕ → List Place → List ℕ
words_at m t [] = []
words_at m t (x ∷ xs) = word_at m t x ∷ words_at m t xs

-- Memory and tables after words were stored, in order, at the places to store to. A completion has as many words as its
-- request has writes, so none is missing; a missing one would be 0.
pub record Lent : Type 0 where
  pub memory : List ℕ
  pub tables : List ℕ

abbrev pub lent : List ℕ → List ℕ → Lent
lent m t = record { memory = m; tables = t }

-- up to three words as a list
abbrev pub words_of : Triple → List ℕ
words_of w = w.a ∷ w.b ∷ w.c ∷ []

abbrev pub store_all : List ℕ → List ℕ → List Place → List ℕ → Lent
store_all m t [] ws = lent m t
store_all m t (Load p ∷ xs) ws = store_all m t xs ws
store_all m t (Store p ∷ xs) ws = store_all (slice_set m p (slice_index ws 0)) t xs (drop 1 ws)
store_all m t (LoadTable i ∷ xs) ws = store_all m t xs ws
store_all m t (StoreTable i ∷ xs) ws = store_all m (slice_set t i (slice_index ws 0)) xs (drop 1 ws)

-- What the running level's accesses are judged by. "With PTM 0 all use the normal table." The extended flag tells the
-- form of the entries.
abbrev pub rights_by : ℕ → ℕ → ℕ → ℕ → Rights
rights_by sts p paging extended = record {
  paging = (paging == 1);
  extended = (extended == 1);
  ring = ring_of p;
  normal = normal_table_of p;
  alternate = cond (bit flag_ptm sts == 1) (alternate_table_of p) (normal_table_of p);
}

abbrev pub rights_of : Core → Rights
rights_of c = rights_by (reg c.file Sts) c.pcr c.control.paging c.control.extended

-- "A passed fetch from a lower ring lowers the user's ring in PCR before the word is decoded"; a ring is below 4
abbrev pub lowered_pcr : ℕ → ℕ → ℕ
lowered_pcr p ring = p / 4 * 4 + ring

unfoldable pub lowered : Core → ℕ → Core
lowered c ring = cond (nat_lt ring (ring_of c.pcr)) (with_pcr c (lowered_pcr c.pcr ring)) c
