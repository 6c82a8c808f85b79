-- The stages of a step from two memories. Decoding, request and completion are not looked into.
-- Assumes nothing.
use Prim.Native.Nat.{ℕ, ◌+◌, ◌*◌, ◌/◌, ◌%◌, ◌<◌, ◌≤◌}
use mathlib.Core.Path.{◌≡◌, refl, sym, ap, ◌∙◌}
use mathlib.Core.Bool.{Bool, true, false, cond}
use mathlib.Core.List.{List}
use native.Mathlib.Omega.{arith}
use lib.ListN.{get_or, length}
use lib.Dec.{ltb, eqb}
use borrow.Author.Tests.{ltb-true, lt-leb, eq-eqb}
use Rattle.isa.specs.Machine.{bit, reg, next_core, with_file, with_control, with_pcr, ring_of}
use Rattle.isa.specs.Flags.{bits_of}
use Rattle.isa.specs.Instructions.{Completed, complete, request, indirect_request}
use Rattle.isa.specs.Pages.{entry_at, slot_of, Tested, test_all, translate, marked, fault_number, word_at, words_at}
use Rattle.isa.specs.Pages.{rights_of, lowered, lowered_pcr}
use Rattle.isa.specs.Step.{Part, part, counted, interrupted, gives, with_pgs, faulted, failed, trapped, finished_core}
use Rattle.isa.specs.Step.{finished, operands_tested, operands, indirect_tested, user_stage, privileged}
use Rattle.isa.specs.Step.{instruction_stage, instruction_of, after_fetch, fetched, fetch_of, step_in}
use Rattle.isa.specs.declared.machine.Control.{Control}
use Rattle.isa.specs.declared.machine.Core.{Core}
use Rattle.isa.specs.declared.machine.File.{File}
use Rattle.isa.specs.declared.machine.Register.TheVariants.{P}
use Rattle.isa.specs.declared.instruction.User.{User}
use Rattle.isa.specs.declared.instruction.Instruction.{Instruction}
use Rattle.isa.specs.declared.instruction.Instruction.TheVariants.{Unprivileged, Privileged, Execute, Monitor, Illegal}
use Rattle.std.specs.declared.option.Option.{Option}
use Rattle.std.specs.declared.option.Option.TheVariants.{None, Some}
use Rattle.std.specs.declared.result.Result.{Result}
use Rattle.std.specs.declared.result.Result.TheVariants.{Ok, Err}
use Rattle.isa.specs.declared.access.Place.{Place}
use Rattle.isa.specs.declared.access.Place.TheVariants.{Load, Store, LoadTable, StoreTable}
use Rattle.isa.specs.declared.access.Fault.{Fault}
use Rattle.isa.specs.declared.answer.Far.{Far}
use Rattle.isa.specs.declared.answer.Far.TheVariants.{Call, ReadRegister, WriteRegister, ReadPcr, WritePcr}
use Rattle.isa.specs.declared.answer.Far.TheVariants.{StoreBlock, LoadBlock}
use Rattle.isa.proofs.Marks.{Marked}
use Rattle.isa.proofs.Tests.{either, alike_by_fault}
use Rattle.isolation.proofs.Accesses.{Held, OutcomeAllowed, AllAllowed, HeldTests, core_allowed, core_marked}
use Rattle.isolation.proofs.Accesses.{core_tests}
use Rattle.isolation.proofs.Memories.{Agree, EvenMemories, even_refl, word_same, words_same, store_all_law}

-- what an unprivileged program leaves to be done outside its level: nothing, or a monitor call
abbrev pub Local : Option Far → Type 0
Local None = Unit {0}
Local (Some (Call w)) = Unit {0}
Local (Some (ReadRegister l r)) = ⊥
Local (Some (WriteRegister l r)) = ⊥
Local (Some ReadPcr) = ⊥
Local (Some WritePcr) = ⊥
Local (Some (StoreBlock l)) = ⊥
Local (Some (LoadBlock l)) = ⊥

-- an interrupt leaves the switches for paging and extended mode
switches_stay : (n : ℕ) (k : Control)
    → ((interrupted n k).paging ≡ k.paging) × ((interrupted n k).extended ≡ k.extended)
unfolding interrupted
switches_stay n k =
    either (λ (j : Control). (j.paging ≡ k.paging) × (j.extended ≡ k.extended)) (eqb (bit n k.iie) 1)
    (refl, refl) (refl, refl)

-- the PCR p with a lower ring: the tables' numbers stay
lower_ring : (p r : ℕ) → r < p % 4 → (p / 4 * 4 + r) % 4 ≡ r
lower_ring p r h = omega arith

lower_normal : (p r : ℕ) → r < p % 4 → (p / 4 * 4 + r) / 512 % 4 ≡ p / 512 % 4
lower_normal p r h = omega arith

lower_alternate : (p r : ℕ) → r < p % 4 → (p / 4 * 4 + r) / 128 % 4 ≡ p / 128 % 4
lower_alternate p r h = omega arith

module _ (form : Bool) (t₀ : List ℕ) (a b ρ : ℕ) where
  -- what a stage leaves from the memories m and n
  pub record Even (m n : List ℕ) (r q : Part) : Type 0 where
    pub near : r.near ≡ q.near
    pub tables : r.tables ≡ q.tables
    pub memories : EvenMemories form t₀ a b ρ m n r.memory q.memory
    pub marks : Marked form r.tables t₀
    pub held : Held form t₀ a b ρ r.near.core
    pub local : Local r.near.far

  -- a file, or an interrupt, changes nothing of what confines the level
  file_held : (c : Core) (f : File) → Held form t₀ a b ρ c → Held form t₀ a b ρ (with_file c f)
  file_held c f h =
      record {
        paging_on = h.paging_on;
        entries = h.entries;
        ring_low = h.ring_low;
        normal = h.normal;
        alternate = h.alternate;
      }

  gives_held : (n : ℕ) (c : Core) → Held form t₀ a b ρ c → Held form t₀ a b ρ (gives n c)
  gives_held n c h = record {
    paging_on = (switches_stay n c.control).0 ∙ h.paging_on;
    entries = ap (λ (x : ℕ). eqb x 1) (switches_stay n c.control).1 ∙ h.entries;
    ring_low = h.ring_low;
    normal = h.normal;
    alternate = h.alternate;
  }

  faulted_held : (x : Fault) (c : Core) → Held form t₀ a b ρ c → Held form t₀ a b ρ (faulted (Some x) c)
  unfolding faulted
  faulted_held x c h =
      gives_held (fault_number x) (with_control c (with_pgs c.control (Some x)))
      (record {
        paging_on = h.paging_on;
        entries = h.entries;
        ring_low = h.ring_low;
        normal = h.normal;
        alternate = h.alternate;
      })

  next_held : (c : Core) → Held form t₀ a b ρ c → Held form t₀ a b ρ (next_core c)
  next_held c h = file_held c _ h

  lowered_held : (c : Core) (ring : ℕ) → Held form t₀ a b ρ c → Held form t₀ a b ρ (lowered c ring)
  unfolding lowered
  lowered_held c ring h = go (ltb ring (ring_of c.pcr)) refl
    where
      p : ℕ
      p = c.pcr

      go : (x : Bool) → ltb ring (ring_of c.pcr) ≡ x
          → Held form t₀ a b ρ (cond x (with_pcr c (lowered_pcr c.pcr ring)) c)
      go false q = h
      go true q =
          let l : ring < c.pcr % 4 = ltb-true ring (ring_of c.pcr) q in
          record {
            paging_on = h.paging_on;
            entries = h.entries;
            ring_low = rw (lower_ring c.pcr ring l) (omega (arith, h.ring_low, l));
            normal = lower_normal c.pcr ring l ∙ h.normal;
            alternate = lower_alternate c.pcr ring l ∙ h.alternate;
          }

  fetch_held : (c : Core) (ring : ℕ) (x : Place) → Held form t₀ a b ρ c
      → Held form t₀ a b ρ (after_fetch c ring x)
  fetch_held c ring (Load p) h = go (eqb c.control.paging 1)
    where
      go : (x : Bool) → Held form t₀ a b ρ (cond x (lowered c ring) c)
      go true = lowered_held c ring h
      go false = h
  fetch_held c ring (Store p) h = h
  fetch_held c ring (LoadTable i) h = h
  fetch_held c ring (StoreTable i) h = h

  completed_held : (c : Core) (d : Completed) → Held form t₀ a b ρ c → Held form t₀ a b ρ (finished_core c d)
  completed_held c d h = go d.error
    where
      go : (x : Bool) → Held form t₀ a b ρ (cond x (gives 5 (with_file c d.file)) (with_file c d.file))
      go true = gives_held 5 (with_file c d.file) (file_held c d.file h)
      go false = file_held c d.file h

  -- as many references more in both
  counted_even : {m n : List ℕ} {r q : Part} (k : ℕ) → Even m n r q → Even m n (counted k r) (counted k q)
  counted_even k e = record {
    near = rw e.near;
    tables = e.tables;
    memories = e.memories;
    marks = e.marks;
    held = e.held;
    local = e.local;
  }

  -- from two memories that agree
  module _ (m n : List ℕ) (h : Agree form t₀ a b ρ m n) where
    -- a stage that stores nothing
    quiet : (t : List ℕ) (c : Core) (g : ℕ) (far : Option Far) → Marked form t t₀ → Held form t₀ a b ρ c → Local far
        → Even m n (part c g far m t) (part c g far n t)
    quiet t c g far hm hc hf = record {
      near = refl;
      tables = refl;
      memories = even_refl form t₀ a b ρ m n h;
      marks = hm;
      held = hc;
      local = hf;
    }

    failed_even : (t : List ℕ) (c : Core) (x : Fault) → Marked form t t₀ → Held form t₀ a b ρ c
        → Even m n (failed c (Some x) m t) (failed c (Some x) n t)
    failed_even t c x hm hc = quiet t (faulted (Some x) c) (fault_number x) None hm (faulted_held x c hc) tt

    trapped_even : (t : List ℕ) (k : ℕ) (c : Core) → Marked form t t₀ → Held form t₀ a b ρ c
        → Even m n (trapped k c m t) (trapped k c n t)
    trapped_even t k c hm hc = quiet t (gives k c) k None hm (gives_held k c hc) tt

    module _ (c : Core) (hc : Held form t₀ a b ρ c) where
      finished_even : (t : List ℕ) (xs : List Place) (d : Completed) → Marked form t t₀
          → AllAllowed form t₀ a b ρ xs
          → Even m n (finished c m t xs d) (finished c n t xs d)
      unfolding finished
      finished_even t xs d hm hx =
          let s = store_all_law form t₀ a b ρ m n t xs d.stores hx h in
          record {
            near = refl;
            tables = s.left_tables ∙ sym s.right_tables;
            memories = s.memories;
            marks = rw s.left_tables hm;
            held = completed_held c d hc;
            local = tt;
          }

      tested_even : (u : User) (i : ℕ) (r : Tested) → HeldTests form t₀ a b ρ r
          → Even m n (operands_tested c m u i r) (operands_tested c n u i r)
      unfolding operands_tested
      tested_even u i r hr =
          rw (← words_same form t₀ a b ρ m n r.tables r.places hr.places h)
          (counted_even r.made
          (alike_by_fault (Even m n) r.fault
          (finished_even r.tables r.places (complete u c.file i (words_at m r.tables r.places)) hr.marks hr.places)
          (λ x. failed_even r.tables (next_core c) x hr.marks (next_held c hc))))

      module _ (ρ≤1 : ρ ≤ 1) where
        operands_even : (t : List ℕ) (u : User) (i : ℕ) → Marked form t t₀
            → Even m n (operands c m t u i) (operands c n t u i)
        unfolding operands
        operands_even t u i hm =
            rw (← h.size) (tested_even u i (test_all t (length m) (rights_of c) (request u c.file i))
            (core_tests form t₀ a b ρ ρ≤1 c hc t hm (length m) (request u c.file i)))

        indirect_even : (u : User) (r : Tested) → HeldTests form t₀ a b ρ r
            → Even m n (indirect_tested c m u r) (indirect_tested c n u r)
        unfolding indirect_tested
        indirect_even u r hr =
            rw (← words_same form t₀ a b ρ m n r.tables r.places hr.places h)
            (counted_even r.made
            (alike_by_fault (Even m n) r.fault
            (operands_even r.tables u (get_or (words_at m r.tables r.places) 0 0) hr.marks)
            (λ x. failed_even r.tables (next_core c) x hr.marks (next_held c hc))))

        user_even : (t : List ℕ) (u : User) → Marked form t t₀ → Even m n (user_stage c m t u) (user_stage c n t u)
        unfolding user_stage
        user_even t u hm =
            rw (← h.size) (indirect_even u (test_all t (length m) (rights_of c) (indirect_request u c.file))
            (core_tests form t₀ a b ρ ρ≤1 c hc t hm (length m) (indirect_request u c.file)))

        -- with paging on, no privileged instruction is executed on ring 0 or 1
        not_privileged : privileged c ≡ false
        not_privileged =
            rw (eq-eqb c.control.paging 1 hc.paging_on, lt-leb 2 (ring_of c.pcr) (omega (arith, hc.ring_low)))

        instruction_even : (l : ℕ) (t : List ℕ) (i : Instruction) → Marked form t t₀
            → Even m n (instruction_stage l c m t i) (instruction_stage l c n t i)
        unfolding instruction_stage
        instruction_even l t (Unprivileged u) hm = user_even t u hm
        instruction_even l t (Privileged q) hm = rw not_privileged (trapped_even t 6 (next_core c) hm (next_held c hc))
        instruction_even l t (Execute s) hm = trapped_even t 4 (next_core c) hm (next_held c hc)
        instruction_even l t (Monitor k) hm =
            quiet t (gives 1 (next_core c)) 1 (Some (Call (bits_of 16 k))) hm
            (gives_held 1 (next_core c) (next_held c hc)) tt
        instruction_even l t Illegal hm = trapped_even t 4 (next_core c) hm (next_held c hc)

    -- fetch, and the whole step of the level
    module _ (ρ≤1 : ρ ≤ 1) (l : ℕ) (c : Core) (hc : Held form t₀ a b ρ c) where
      fetched_even : (t : List ℕ) (ring : ℕ) (x : Result Place Fault) → Marked form t t₀
          → OutcomeAllowed form t₀ a b ρ x
          → Even m n (fetched l c m t ring x) (fetched l c n t ring x)
      unfolding fetched
      fetched_even t ring (Ok p) hm hx =
          rw (← word_same form t₀ a b ρ m n t p hx h)
          (counted_even 1
          (instruction_even (after_fetch c ring p) (fetch_held c ring p hc) ρ≤1 l t
          (instruction_of c (word_at m t p)) hm))
      fetched_even t ring (Err f) hm hx = counted_even 1 (failed_even t c f hm hc)

      pub level_even : (t : List ℕ) → Marked form t t₀ → Even m n (step_in l c m t) (step_in l c n t)
      unfolding step_in
      level_even t hm =
          rw (← h.size)
          (fetched_even (marked t (length m) (rights_of c) (fetch_of c))
          (entry_at (rights_of c).extended t (slot_of (rights_of c).normal (reg c.file P))).ring
          (translate t (length m) (rights_of c) (fetch_of c))
          (core_marked form t₀ a b ρ ρ≤1 c hc t hm (length m) (fetch_of c))
          (core_allowed form t₀ a b ρ ρ≤1 c hc t hm (length m) (fetch_of c)))
