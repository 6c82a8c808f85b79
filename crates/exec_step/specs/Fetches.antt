-- The fetch of a level, and the page that is kept of it for the next one.
use Rattle.std.specs.Prelude.{ℕ, ◌+◌, ◌-◌, ◌*◌, ◌/◌, ◌<◌, ◌≤◌, ◌≡◌, true, false, cond, ◌&&◌, List, length, leb, ltb, eqb}
use Rattle.std.specs.declared.result.Result.{Result}
use Rattle.std.specs.declared.result.Result.TheVariants.{Ok, Err}
use Rattle.isa.specs.Machine.{page_words, entries_in_table}
use Rattle.isa.specs.Address.{access}
use Rattle.isa.specs.Pages.{Entry, entry_at, slot_of, translate, marked, word_at}
use Rattle.isa.specs.declared.access.AccessKind.TheVariants.{Fetch as ToFetch}
use Rattle.isa.specs.declared.access.Rights.{Rights}
use Rattle.isa.specs.declared.access.Place.{Place}
use Rattle.isa.specs.declared.access.Place.TheVariants.{Load, Store, LoadTable, StoreTable}
use Rattle.isa.specs.declared.access.Fault.{Fault}
use Rattle.exec_memory.specs.Stages.{ring_after}
use Rattle.exec_step.specs.declared.fetch.FetchResult.{FetchResult}
use Rattle.exec_step.specs.declared.fetch.Page.{Page}

-- ---- the fetch

-- By the rights r, from the address a: where the word was found, the word, the ring after it, and the tables v with its
-- mark.
pub record FetchPassed (m t : List ℕ) (r : Rights) (a : ℕ) (g : FetchResult) (v : List ℕ) : Type 0 where
  pub place : Ok g.place ≡ translate t (length m) r (access ToFetch false a)
  pub marks : v ≡ marked t (length m) r (access ToFetch false a)
  pub word : g.word ≡ word_at m v g.place
  pub ring : g.ring ≡ ring_after r (entry_at r.extended t (slot_of r.normal a)).ring g.place

-- .. or why it failed
pub record FetchFailed (m t : List ℕ) (r : Rights) (a : ℕ) (x : Fault) (v : List ℕ) : Type 0 where
  pub fault : Err x ≡ translate t (length m) r (access ToFetch false a)
  pub marks : v ≡ marked t (length m) r (access ToFetch false a)

abbrev pub FetchOf : List ℕ → List ℕ → Rights → ℕ → Result FetchResult Fault → List ℕ → Type 0
FetchOf m t r a (Ok g) v = FetchPassed m t r a g v
FetchOf m t r a (Err x) v = FetchFailed m t r a x v

-- ---- the kept page

-- the entry of the page k by the normal table
abbrev pub page_entry : Rights → Page → List ℕ → Entry
page_entry r k t = entry_at r.extended t (r.normal * entries_in_table + k.number)

-- What a kept page k rests on, with so many words of memory, the rights r and the tables t: paging is on and the ring
-- sees no page table; the page's entry permits a fetch, is marked, is of the ring itself, so that a fetch lowers
-- nothing, and names the page of memory at the base, all of which is there.
pub record Rests (words : ℕ) (r : Rights) (k : Page) (t : List ℕ) : Type 0 where
  pub paging_on : r.paging ≡ true
  pub low : r.ring < 3
  pub permitted : (page_entry r k t).fetch ≡ true
  pub marked : (page_entry r k t).pgu ≡ true
  pub own : (page_entry r k t).ring ≡ r.ring
  pub base : k.base ≡ (page_entry r k t).page * page_words
  pub within : k.base + page_words ≤ words

-- a page is kept, or none: a virtual page's number is below 64
abbrev pub Kept : ℕ → Rights → Page → List ℕ → Type 0
Kept words r k t = k.number < entries_in_table → Rests words r k t

abbrev pub no_page : Page
no_page = record { number = entries_in_table; base = 0 }

-- the page of the word p, which the address a names, if all of it is in memory
abbrev pub page_at : ℕ → ℕ → ℕ → Page
page_at words a p =
    let base = p / page_words * page_words in
    cond (leb page_words (words - base)) (record { number = a / page_words; base = base }) no_page

-- the page of the word at the place x, if that is in memory
abbrev pub page_of : ℕ → ℕ → Place → Page
page_of words a (Load p) = page_at words a p
page_of words a (Store p) = no_page
page_of words a (LoadTable i) = no_page
page_of words a (StoreTable i) = no_page

-- the page that is to be kept after a fetch from the address a to the place x, which left the rights r
abbrev pub page_after : ℕ → Rights → ℕ → Place → Page
page_after words r a x = cond (r.paging && ltb r.ring 3) (page_of words a x) no_page

-- .. where k was kept before it
abbrev pub page_next : ℕ → Rights → Page → ℕ → Place → Page
page_next words r k a x = cond (eqb (a / page_words) k.number) k (page_after words r a x)

-- .. and after a whole step: none, where the fetch failed
abbrev pub page_left : ℕ → Rights → Page → ℕ → Result Place Fault → Page
page_left words r k a (Ok p) = page_next words r k a p
page_left words r k a (Err x) = no_page
