-- Which pages an entry of the two tables permits, and where an access that passed goes.
-- Assumes nothing.
use Rattle.std.proofs.Common.{◌≡◌, ℕ, zero, suc, ◌+◌, ◌*◌, ◌/◌, ◌<◌, ◌≤◌, Bool, true, false, cond, not, ◌&&◌, ◌||◌, eqb, ltb, ◌⊎◌, List, sym, refl, ◌∙◌, inl, inr, le_trans, arith, lt-ltb, eq-eqb, le-leb, leb-true}
use native.Mathlib.Decide.{ℕ_discrete}
use Rattle.isa.specs.Pages.{Entry, entry_at, some_permit, needed, ring_allows, physical, paging_status, in_memory}
use Rattle.isa.specs.Pages.{within_memory, judged}
use Rattle.isa.specs.Isolation.{MarksAlone, permits, permits_writing, some_below, some_entry, in_either, permitted}
use Rattle.isa.specs.Isolation.{permitted_writing}
use Rattle.isa.specs.declared.access.AccessKind.{AccessKind}
use Rattle.isa.specs.declared.access.AccessKind.TheVariants.{Fetch, Read, Write, Indirect}
use Rattle.std.specs.declared.result.Result.{Result}
use Rattle.std.specs.declared.result.Result.TheVariants.{Ok, Err}
use Rattle.isa.specs.declared.access.Place.{Place}
use Rattle.isa.specs.declared.access.Place.TheVariants.{Load, Store, LoadTable, StoreTable}
use Rattle.isa.specs.declared.access.Fault.{Fault}
use Rattle.isa.specs.declared.access.Fault.TheVariants.{Protection, PageFault, OutOfRange}
use Rattle.isa.proofs.Tests.{no_both, or_left, or_right, and_both, and_left, and_right}

-- some number below n passes where one does
some_below_law : (n v : ℕ) (f : ℕ → Bool) → v < n → f v ≡ true → some_below n f ≡ true
some_below_law zero v f l h = absurd (omega arith)
some_below_law (suc n) v f l h = go (ℕ_discrete v n) (λ q. some_below_law n v f q h)
  where
    go : Dec (v ≡ n) → (v < n → some_below n f ≡ true) → (f n || some_below n f) ≡ true
    go (yes q) r = or_left (f n) (some_below n f) (rw q at h)
    go (no q) r = or_right (f n) (some_below n f) (r (omega arith))

-- an entry that differs in its marks alone permits the same pages, also to a ring that is not below
and_parts : (x y z : Bool) → (x && y && z) ≡ true → (x ≡ true) × (y ≡ true) × (z ≡ true)
and_parts true true z h = (refl, refl, h)
and_parts true false z h = absurd (no_both h)
and_parts false y z h = absurd (no_both h)

module _ (e f : Entry) (ring ring₀ page : ℕ) (h : MarksAlone e f) (l : ring ≤ ring₀) where
  pub permits_later : permits e ring page ≡ true → permits f ring₀ page ≡ true
  permits_later q =
      let p = and_parts (some_permit e) (ring_allows e ring) (eqb e.page page) q in
      let some : some_permit f ≡ true = rw (← h.write, ← h.read, ← h.fetch) p.0 in
      let low : f.ring ≤ ring₀ = rw (← h.ring) (le_trans (leb-true e.ring ring p.1) l) in
      let own : eqb f.page page ≡ true = rw (← h.page) p.2 in
      and_both (and_both some (le-leb f.ring ring₀ low)) own

  pub writing_later : permits_writing e ring page ≡ true → permits_writing f ring₀ page ≡ true
  writing_later q =
      and_both (permits_later (and_left (permits e ring page) e.write q))
      (sym h.write ∙ and_right (permits e ring page) e.write q)

-- an entry of either table that passes a test
module _ (f : Entry → Bool) (form : Bool) (t : List ℕ) (a b : ℕ) where
  pub either_table : (table v : ℕ) → (table ≡ a) ⊎ (table ≡ b) → v < 64 → f (entry_at form t (table * 64 + v)) ≡ true
      → in_either f form t a b ≡ true
  unfolding in_either
  either_table table v (inl q) l h =
      or_left (some_entry f form t a) (some_entry f form t b)
      (some_below_law 64 v (λ (x : ℕ). f (entry_at form t (a * 64 + x))) l (rw q at h))
  either_table table v (inr q) l h =
      or_right (some_entry f form t a) (some_entry f form t b)
      (some_below_law 64 v (λ (x : ℕ). f (entry_at form t (b * 64 + x))) l (rw q at h))

-- a test that implies another, at one of two, at some number, at some entry
or_both : (x y u v : Bool) → (x ≡ true → u ≡ true) → (y ≡ true → v ≡ true) → (x || y) ≡ true → (u || v) ≡ true
or_both true y u v f g h = or_left u v (f refl)
or_both false y u v f g h = or_right u v (g h)

some_both : (n : ℕ) (f g : ℕ → Bool) → ((v : ℕ) → f v ≡ true → g v ≡ true) → some_below n f ≡ true
    → some_below n g ≡ true
some_both zero f g h q = q
some_both (suc n) f g h q = or_both (f n) (some_below n f) (g n) (some_below n g) (h n) (some_both n f g h) q

either_both : (f g : Entry → Bool) (form : Bool) (t : List ℕ) (a b : ℕ) → ((e : Entry) → f e ≡ true → g e ≡ true)
    → in_either f form t a b ≡ true → in_either g form t a b ≡ true
unfolding in_either
either_both f g form t a b h =
    let at : ℕ → ℕ → Entry = λ table v. entry_at form t (table * 64 + v) in
    or_both (some_entry f form t a) (some_entry f form t b) (some_entry g form t a) (some_entry g form t b)
    (some_both 64 (λ (v : ℕ). f (at a v)) (λ (v : ℕ). g (at a v)) (λ v. h (at a v)))
    (some_both 64 (λ (v : ℕ). f (at b v)) (λ (v : ℕ). g (at b v)) (λ v. h (at b v)))

-- a page that is permitted for writing is permitted
pub writing_permitted : (form : Bool) (t : List ℕ) (a b ring page : ℕ) → permitted_writing form t a b ring page ≡ true
    → permitted form t a b ring page ≡ true
writing_permitted form t a b ring page =
    either_both (λ (e : Entry). permits_writing e ring page) (λ (e : Entry). permits e ring page) form t a b
    (λ e. and_left (permits e ring page) e.write)

-- ---- the tests of an access

-- where an access that passed by the entry e goes: to load from a page that e permits, to store to one that it permits
-- for writing
abbrev pub PlaceBy : Entry → ℕ → Place → Type 0
PlaceBy e ring (Load p) = permits e ring (p / 1024) ≡ true
PlaceBy e ring (Store p) = permits_writing e ring (p / 1024) ≡ true
PlaceBy e ring (LoadTable i) = ⊥
PlaceBy e ring (StoreTable i) = ⊥

abbrev pub By : Entry → ℕ → Result Place Fault → Type 0
By e ring (Ok p) = PlaceBy e ring p
By e ring (Err f) = Unit {0}

page_of_law : (e : Entry) (va : ℕ) → physical e va / 1024 ≡ e.page
page_of_law e va = omega arith

module _ (e : Entry) (ring va : ℕ) (some : some_permit e ≡ true) (allows : ring_allows e ring ≡ true) where
  own_page : permits e ring (physical e va / 1024) ≡ true
  own_page =
      and_both (and_both some allows)
      (eq-eqb e.page (physical e va / 1024) (sym (page_of_law e va)))

  kind_by : (k : AccessKind) → needed e k ≡ true → PlaceBy e ring (in_memory k (physical e va))
  kind_by Fetch n = own_page
  kind_by Read n = own_page
  kind_by Write n = and_both own_page n
  kind_by Indirect n = own_page

pub judged_by : (e : Entry) (slot words ring : ℕ) (k : AccessKind) (va : ℕ) → By e ring (judged e slot words ring k va)
unfolding judged within_memory
judged_by e slot words ring k va =
    go (some_permit e) refl (needed e k) refl (ring_allows e ring) refl (ltb (physical e va) words)
  where
    go : (x : Bool) → some_permit e ≡ x → (y : Bool) → needed e k ≡ y → (z : Bool) → ring_allows e ring ≡ z → (w : Bool)
        → By e ring (cond (not x) (Err (PageFault (paging_status k 16384 slot)))
        (cond (not y) (Err (Protection (paging_status k 16384 slot)))
        (cond (not z) (Err (Protection (paging_status k 0 slot)))
        (cond w (Ok (in_memory k (physical e va))) (Err OutOfRange)))))
    go false p y q z r w = tt
    go true p false q z r w = tt
    go true p true q false r w = tt
    go true p true q true r false = tt
    go true p true q true r true = kind_by e ring va p r k q

-- a fetch passes by an entry that permits it to the ring and names a page of memory
pub judged_passes : (e : Entry) (slot words ring va : ℕ) → e.fetch ≡ true → e.ring ≤ ring → physical e va < words
    → judged e slot words ring Fetch va ≡ Ok (Load (physical e va))
unfolding judged within_memory
judged_passes e slot words ring va h l w =
    rw (or_right (e.write || e.read) e.fetch h, h, le-leb e.ring ring l, lt-ltb (physical e va) words w) refl
