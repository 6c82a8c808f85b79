-- Accesses of a program on ring 0 or 1 with paging on: where those go that pass, and what all of them leave in the
-- tables.
-- Assumes nothing.
use Prim.Native.Nat.{ℕ, ◌+◌, ◌*◌, ◌/◌, ◌%◌, ◌<◌, ◌≤◌}
use mathlib.Core.Path.{◌≡◌}
use mathlib.Core.Bool.{Bool, true, false, cond}
use mathlib.Core.Logic.{◌⊎◌, inl, inr}
use mathlib.Core.List.{List, [], ◌∷◌}
use native.Mathlib.Omega.{arith}
use lib.Dec.{eqb}
use borrow.Author.Tests.{eq-eqb}
use Rattle.isa.specs.Machine.{flag, flag_ptm, ring_of, normal_table_of, alternate_table_of}
use Rattle.isa.specs.Pages.{Entry, entry_at, judged, slot_of, table_of, in_window, translate, marked}
use Rattle.isa.specs.Pages.{Tested, tested_first, test_all, rights_of}
use Rattle.isa.specs.Isolation.{MarksAlone, permits, permits_writing, permitted, permitted_writing}
use Rattle.isa.specs.declared.machine.Core.{Core}
use Rattle.isa.specs.declared.access.Access.{Access}
use Rattle.isa.specs.declared.access.Rights.{Rights}
use Rattle.std.specs.declared.result.Result.{Result}
use Rattle.std.specs.declared.result.Result.TheVariants.{Ok, Err}
use Rattle.isa.specs.declared.access.Place.{Place}
use Rattle.isa.specs.declared.access.Place.TheVariants.{Load, Store, LoadTable, StoreTable}
use Rattle.isa.specs.declared.access.Fault.{Fault}
use Rattle.isa.proofs.Window.{no_window}
use Rattle.isa.proofs.Marks.{Marked, mark_keeps}
use Rattle.isa.proofs.Tables.{Lasting, marked_keeps}
use Rattle.isa.proofs.Permits.{By, judged_by, either_table, permits_later, writing_later}

-- the start: the form of its entries, its tables t₀, the normal one a, the alternate one b, and the ring ρ
module _ (form : Bool) (t₀ : List ℕ) (a b ρ : ℕ) where
  -- the running level is confined as at the start, but that its ring may have been lowered
  pub record Held (c : Core) : Type 0 where
    pub paging_on : c.control.paging ≡ 1
    pub entries : eqb c.control.extended 1 ≡ form
    pub ring_low : ring_of c.pcr ≤ ρ
    pub normal : normal_table_of c.pcr ≡ a
    pub alternate : alternate_table_of c.pcr ≡ b

  -- so are the rights of its accesses: whatever PTM is, an access goes by one of the two tables
  record HeldRights (r : Rights) : Type 0 where
    paging_on : r.paging ≡ true
    entries : r.extended ≡ form
    ring_low : r.ring ≤ ρ
    table : (x : Bool) → (table_of r x ≡ a) ⊎ (table_of r x ≡ b)

  held_rights : (c : Core) → Held c → HeldRights (rights_of c)
  held_rights c h =
      record {
        paging_on = eq-eqb c.control.paging 1 h.paging_on;
        entries = h.entries;
        ring_low = h.ring_low;
        table = by_rule;
      }
    where
      by-ptm : (x : Bool) → (cond x (alternate_table_of c.pcr) (normal_table_of c.pcr) ≡ a)
          ⊎ (cond x (alternate_table_of c.pcr) (normal_table_of c.pcr) ≡ b)
      by-ptm true = inr h.alternate
      by-ptm false = inl h.normal

      by_rule : (x : Bool) → (table_of (rights_of c) x ≡ a) ⊎ (table_of (rights_of c) x ≡ b)
      by_rule true = by-ptm (eqb (flag flag_ptm c.file) 1)
      by_rule false = inl h.normal

  -- An access that passed loads from a page that is permitted, or stores to one that is permitted for writing.
  abbrev pub Allowed : Place → Type 0
  Allowed (Load p) = permitted form t₀ a b ρ (p / 1024) ≡ true
  Allowed (Store p) = permitted_writing form t₀ a b ρ (p / 1024) ≡ true
  Allowed (LoadTable i) = ⊥
  Allowed (StoreTable i) = ⊥

  abbrev pub OutcomeAllowed : Result Place Fault → Type 0
  OutcomeAllowed (Ok p) = Allowed p
  OutcomeAllowed (Err f) = Unit {0}

  -- what an entry permits to a ring not above, its entry at the start permits to the ring of the start
  module _ (table v : ℕ) (e : Entry) (ring : ℕ) (on : (table ≡ a) ⊎ (table ≡ b)) (low : v < 64)
      (h : MarksAlone e (entry_at form t₀ (table * 64 + v))) (l : ring ≤ ρ)
    where
      by-allowed : (x : Result Place Fault) → By e ring x → OutcomeAllowed x
      by-allowed (Ok (Load p)) q =
          either_table (λ (x : Entry). permits x ρ (p / 1024)) form t₀ a b table v on low
          (permits_later e (entry_at form t₀ (table * 64 + v)) ring ρ (p / 1024) h l q)
      by-allowed (Ok (Store p)) q =
          either_table (λ (x : Entry). permits_writing x ρ (p / 1024)) form t₀ a b table v on low
          (writing_later e (entry_at form t₀ (table * 64 + v)) ring ρ (p / 1024) h l q)
      by-allowed (Ok (LoadTable i)) q = q
      by-allowed (Ok (StoreTable i)) q = q
      by-allowed (Err f) q = tt

  -- one access
  module _ (t : List ℕ) (words : ℕ) (r : Rights) (ρ≤1 : ρ ≤ 1) (hm : Marked form t t₀) (hr : HeldRights r) where
    closed : (va : ℕ) → in_window r va ≡ false
    closed va = no_window r va hr.paging_on (omega (arith, hr.ring_low))

    translate_allowed : (x : Access) → OutcomeAllowed (translate t words r x)
    unfolding translate
    translate_allowed x =
        let i = slot_of (table_of r x.alternate) x.address in
        let e = entry_at form t i in
        rw (closed x.address, hr.paging_on, hr.entries)
        (by-allowed (table_of r x.alternate) (x.address / 1024 % 64) e r.ring
        (hr.table x.alternate) (omega arith) (hm i) hr.ring_low
        (judged e i words r.ring x.kind x.address) (judged_by e i words r.ring x.kind x.address))

  -- marks change marks alone
  marks_last : (r : Rights) → r.extended ≡ form → Lasting r.extended (λ (y : List ℕ). Marked form y t₀)
  marks_last r e = rw e (mark_keeps form t₀)

  -- a list of accesses: each place allowed, and the tables changed in marks alone
  pub data AllAllowed : List Place → Type 0 where
    none : AllAllowed []
    also : {x : Place} {xs : List Place} → Allowed x → AllAllowed xs → AllAllowed (x ∷ xs)

  pub record HeldTests (r : Tested) : Type 0 where
    pub places : AllAllowed r.places
    pub marks : Marked form r.tables t₀

  tests_held : (words : ℕ) (r : Rights) → ρ ≤ 1 → HeldRights r → (xs : List Access) (t : List ℕ) → Marked form t t₀
      → HeldTests (test_all t words r xs)
  tests_held words r low hr [] t hm = record { places = none; marks = hm }
  tests_held words r low hr (x ∷ xs) t hm =
      go (translate t words r x) (translate_allowed t words r low hm hr x) _
      (tests_held words r low hr xs (marked t words r x)
      (marked_keeps (λ (y : List ℕ). Marked form y t₀) r (marks_last r hr.entries) t words x hm))
    where
      go : (y : Result Place Fault) → OutcomeAllowed y → (q : Tested) → HeldTests q → HeldTests (tested_first t y q)
      go (Ok p) k q h = record { places = also k h.places; marks = h.marks }
      go (Err f) k q h = record { places = none; marks = hm }

  -- the same of a core's accesses
  module _ (ρ≤1 : ρ ≤ 1) (c : Core) (h : Held c) (t : List ℕ) (hm : Marked form t t₀) (words : ℕ) where
    pub core_allowed : (x : Access) → OutcomeAllowed (translate t words (rights_of c) x)
    core_allowed x = translate_allowed t words (rights_of c) ρ≤1 hm (held_rights c h) x

    pub core_marked : (x : Access) → Marked form (marked t words (rights_of c) x) t₀
    core_marked x =
        let r = rights_of c in
        marked_keeps (λ (y : List ℕ). Marked form y t₀) r (marks_last r h.entries) t words x hm

    pub core_tests : (xs : List Access) → HeldTests (test_all t words (rights_of c) xs)
    core_tests xs = tests_held words (rights_of c) ρ≤1 (held_rights c h) xs t hm
