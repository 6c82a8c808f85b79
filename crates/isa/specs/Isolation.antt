-- Document 01, "Pages" (which pages an entry permits) and "Two machines side by side".
use Rattle.std.specs.Prelude.{◌≡◌, ℕ, zero, suc, ◌+◌, ◌*◌, ◌/◌, Bool, true, false, not, ◌&&◌, ◌||◌, List, length, ◌==◌, slice_index}
use Rattle.isa.specs.Machine.{page_words, entries_in_table, flag_of, ring_of, normal_table_of, alternate_table_of}
use Rattle.isa.specs.Pages.{Entry, entry_at, some_permit, ring_allows}
use Rattle.isa.specs.declared.machine.State.{State}

-- "An entry permits its page to a ring if some permit is set and the entry's ring is not above that ring; for writing,
-- if bit 15 is set as well."
abbrev pub permits : Entry → ℕ → ℕ → Bool
permits e ring page = some_permit e && ring_allows e ring && e.page == page

abbrev pub permits_writing : Entry → ℕ → ℕ → Bool
permits_writing e ring page = permits e ring page && e.write

-- some number below n passes the test
abbrev pub some_below : ℕ → (ℕ → Bool) → Bool
some_below zero f = false
some_below (suc n) f = f n || some_below n f

-- some entry of the tables a and b, all entries being of one form, passes the test
abbrev pub some_entry : (Entry → Bool) → Bool → List ℕ → ℕ → Bool
some_entry f form t table = some_below entries_in_table (λ v. f (entry_at form t (table * entries_in_table + v)))

unfoldable pub in_either : (Entry → Bool) → Bool → List ℕ → ℕ → ℕ → Bool
in_either f form t a b = some_entry f form t a || some_entry f form t b

-- "pages that no entry of the two tables permits to the ring": some entry does
abbrev pub permitted : Bool → List ℕ → ℕ → ℕ → ℕ → ℕ → Bool
permitted form t a b ring page = in_either (λ e. permits e ring page) form t a b

abbrev pub permitted_writing : Bool → List ℕ → ℕ → ℕ → ℕ → ℕ → Bool
permitted_writing form t a b ring page = in_either (λ e. permits_writing e ring page) form t a b

-- "A start's level is control word 0, its ring bits 1-0 of that level's PCR, its two tables the normal and the
-- alternate one named there (they may be one)." A page that is permitted from the start s with the tables t, and one
-- permitted for writing. A level in range has its PCR.
abbrev pub start_pcr : State → ℕ
start_pcr s = slice_index s.pcr s.level

-- ruling R12: the start's extended flag decides the form in which the two tables are read
abbrev pub start_form : State → Bool
start_form s = s.added.extended == 1

abbrev pub reachable : State → List ℕ → ℕ → Bool
reachable s t page =
    let p = start_pcr s in permitted (start_form s) t (normal_table_of p) (alternate_table_of p) (ring_of p) page

abbrev pub writable : State → List ℕ → ℕ → Bool
writable s t page =
    let p = start_pcr s in
    permitted_writing (start_form s) t (normal_table_of p) (alternate_table_of p) (ring_of p) page

-- "Both starts have equally much memory and are equal in .. each memory word outside the pages that no entry of the two
-- tables permits to the ring", the state and the tables being one. Past both memories' end k names no word, and
-- `slice_index` gives 0 for both.
pub record AlikeStarts (s : State) (t m n : List ℕ) : Type 0 where
  pub size : length m ≡ length n
  pub same : (k : ℕ) → reachable s t (k / page_words) ≡ true → slice_index m k ≡ slice_index n k

-- "A word differs if the two memories hold different values at one physical address; the count is of such addresses."
abbrev pub differs : List ℕ → List ℕ → ℕ → Bool
differs m n k = not (slice_index m k == slice_index n k)

abbrev pub differing_below : ℕ → List ℕ → List ℕ → ℕ
differing_below zero m n = 0
differing_below (suc k) m n = flag_of (differs m n k) + differing_below k m n

abbrev pub differing_words : List ℕ → List ℕ → ℕ
differing_words m n = differing_below (length m) m n

-- An entry that differs from another in its marks alone.
pub record MarksAlone (e f : Entry) : Type 0 where
  pub write : e.write ≡ f.write
  pub read : e.read ≡ f.read
  pub fetch : e.fetch ≡ f.fetch
  pub ring : e.ring ≡ f.ring
  pub page : e.page ≡ f.page
