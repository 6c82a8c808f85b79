-- A write that passed goes to a place to store to.
-- Assumes nothing.
use Rattle.std.proofs.Common.{◌≡◌, ℕ, zero, suc, Bool, true, not, ltb, List, refl}
use Rattle.std.specs.declared.result.Result.{Result}
use Rattle.std.specs.declared.result.Result.TheVariants.{Ok, Err}
use Rattle.isa.specs.Address.{access, sum}
use Rattle.isa.specs.Pages.{Entry, entry_at, slot_of, table_of, some_permit, needed, ring_allows, physical, within_memory}
use Rattle.isa.specs.Pages.{judged, in_window, translate, marked, Tested, tested_first, test_all}
use Rattle.isa.specs.declared.access.AccessKind.TheVariants.{Write}
use Rattle.isa.specs.declared.access.Rights.{Rights}
use Rattle.isa.specs.declared.access.Place.{Place}
use Rattle.isa.specs.declared.access.Fault.{Fault}
use Rattle.isa.proofs.Tests.{either}
use Rattle.paging.specs.Within.{is_store}
use Rattle.memory_words.specs.Accesses.{words_from, AllStoring}

abbrev pub Stored : Result Place Fault → Type 0
Stored (Ok p) = is_store p ≡ true
Stored (Err f) = Unit {0}

within_stored : (words p : ℕ) → Stored (within_memory words Write p)
unfolding within_memory
within_stored words p = either Stored (ltb p words) refl tt

judged_stored : (e : Entry) (slot words ring a : ℕ) → Stored (judged e slot words ring Write a)
unfolding judged
judged_stored e slot words ring a =
    either Stored (not (some_permit e)) tt
    (either Stored (not (needed e Write)) tt
    (either Stored (not (ring_allows e ring)) tt (within_stored words (physical e a))))

pub write_stored : (t : List ℕ) (words : ℕ) (r : Rights) (b : Bool) (a : ℕ)
    → Stored (translate t words r (access Write b a))
unfolding translate
write_stored t words r b a =
    either Stored (in_window r a) refl
    (either Stored r.paging
    (judged_stored (entry_at r.extended t (slot_of (table_of r b) a)) (slot_of (table_of r b) a) words r.ring a)
    (within_stored words a))

-- .. so do all of several
pub all_stored : (t : List ℕ) (words : ℕ) (r : Rights) (b : Bool) (a n : ℕ)
    → AllStoring (test_all t words r (words_from Write b a n)).places
all_stored t words r b a zero = tt
all_stored t words r b a (suc n) =
    go (translate t words r (access Write b a)) _ (write_stored t words r b a)
    (all_stored (marked t words r (access Write b a)) words r b (sum a 1) n)
  where
    go : (y : Result Place Fault) (q : Tested) → Stored y → AllStoring q.places
        → AllStoring (tested_first t y q).places
    go (Ok p) q h k = (h, k)
    go (Err f) q h k = tt
