-- A step of the machine, and a run, from two memories.
-- Assumes nothing.
use Prim.Native.Nat.{ℕ, zero, suc, ◌<◌, ◌≤◌}
use mathlib.Core.Path.{◌≡◌, refl}
use mathlib.Core.Bool.{Bool, true, false, cond, not}
use mathlib.Core.List.{List}
use native.Mathlib.Omega.{arith}
use native.Mathlib.Decide.{dec_lt}
use lib.ListN.{length}
use lib.Seq.{get_or-set_same, set_out}
use lib.Dec.{eqb}
use Rattle.isa.specs.Machine.{core_of, with_core}
use Rattle.isa.specs.Step.{Part, Turn, turn, counted_turn, far_stage, settled, step, step_in, change_due, is_stopped}
use Rattle.isa.specs.Run.{Run, ended, counted_run, after_step, run_from}
use Rattle.isa.specs.declared.machine.State.{State}
use Rattle.isa.specs.declared.machine.Core.{Core}
use Rattle.std.specs.declared.option.Option.{Option}
use Rattle.std.specs.declared.option.Option.TheVariants.{None, Some}
use Rattle.isa.specs.declared.answer.Far.{Far}
use Rattle.isa.specs.declared.answer.Far.TheVariants.{Call, ReadRegister, WriteRegister, ReadPcr, WritePcr}
use Rattle.isa.specs.declared.answer.Far.TheVariants.{StoreBlock, LoadBlock}
use Rattle.isa.specs.declared.answer.Reason.{Reason}
use Rattle.isa.specs.declared.answer.Reason.TheVariants.{Stopped, Level, Spent, Interrupt}
use Rattle.isa.proofs.Marks.{Marked}
use Rattle.isolation.proofs.Accesses.{Held}
use Rattle.isolation.proofs.Memories.{Agree, EvenMemories, even_refl, even_trans}
use Rattle.isolation.proofs.Stages.{Local, Even, level_even}

module _ (form : Bool) (t₀ : List ℕ) (a b ρ : ℕ) where
  -- the running level's words are put back: where the level has no PCR, that stays as it was
  put_held : (s : State) (c : Core) → Held form t₀ a b ρ (core_of s) → Held form t₀ a b ρ c
      → Held form t₀ a b ρ (core_of (with_core s c))
  put_held s c hs hc = go (dec_lt s.level (length s.pcr))
    where
      go : Dec (s.level < length s.pcr) → Held form t₀ a b ρ (core_of (with_core s c))
      go (yes q) =
          let w = get_or-set_same s.pcr s.level c.pcr 0 q in
          record {
            paging_on = hc.paging_on;
            entries = hc.entries;
            ring_low = rw w hc.ring_low;
            normal = rw w hc.normal;
            alternate = rw w hc.alternate;
          }
      go (no q) =
          let w = set_out s.pcr s.level c.pcr (omega arith) in
          record {
            paging_on = hc.paging_on;
            entries = hc.entries;
            ring_low = rw w hs.ring_low;
            normal = rw w hs.normal;
            alternate = rw w hs.alternate;
          }

  -- what a step leaves from the memories m and n
  record EvenTurn (m n : List ℕ) (r q : Turn) : Type 0 where
    state : r.state ≡ q.state
    gave : r.gave ≡ q.gave
    references : r.references ≡ q.references
    tables : r.tables ≡ q.tables
    memories : EvenMemories form t₀ a b ρ m n r.memory q.memory
    marks : Marked form r.tables t₀
    held : Held form t₀ a b ρ (core_of r.state)

  -- what is left to be done outside the level touches no memory and nothing that confines the level
  far_even : (s : State) (g : ℕ) (m n m' n' t : List ℕ) (far : Option Far) → Local far
      → EvenMemories form t₀ a b ρ m n m' n'
      → Marked form t t₀
      → Held form t₀ a b ρ (core_of s) → EvenTurn m n (far_stage s g m' t far) (far_stage s g n' t far)
  unfolding far_stage
  far_even s g m n m' n' t None hf h hm hs =
      record { state = refl; gave = refl; references = refl; tables = refl; memories = h; marks = hm; held = hs }
  far_even s g m n m' n' t (Some (Call w)) hf h hm hs = record {
    state = refl;
    gave = refl;
    references = refl;
    tables = refl;
    memories = h;
    marks = hm;
    held = record {
      paging_on = hs.paging_on;
      entries = hs.entries;
      ring_low = hs.ring_low;
      normal = hs.normal;
      alternate = hs.alternate;
    };
  }
  far_even s g m n m' n' t (Some (ReadRegister x r)) hf h hm hs = absurd hf
  far_even s g m n m' n' t (Some (WriteRegister x r)) hf h hm hs = absurd hf
  far_even s g m n m' n' t (Some ReadPcr) hf h hm hs = absurd hf
  far_even s g m n m' n' t (Some WritePcr) hf h hm hs = absurd hf
  far_even s g m n m' n' t (Some (StoreBlock x)) hf h hm hs = absurd hf
  far_even s g m n m' n' t (Some (LoadBlock x)) hf h hm hs = absurd hf

  -- as many references more in both
  counted_turn_law : {m n : List ℕ} {r q : Turn} (k : ℕ) → EvenTurn m n r q
      → EvenTurn m n (counted_turn k r) (counted_turn k q)
  counted_turn_law k e = record {
    state = e.state;
    gave = e.gave;
    references = rw e.references;
    tables = e.tables;
    memories = e.memories;
    marks = e.marks;
    held = e.held;
  }

  settled_even : (s : State) (m n : List ℕ) (r q : Part) → Held form t₀ a b ρ (core_of s) → Even form t₀ a b ρ m n r q
      → EvenTurn m n (settled s r) (settled s q)
  unfolding settled
  settled_even s m n r q hs e =
      rw (← e.near, ← e.tables)
      (counted_turn_law r.near.references
      (far_even (with_core s r.near.core) r.near.gave m n r.memory q.memory r.tables r.near.far
      e.local e.memories e.marks (put_held s r.near.core hs e.held)))

  -- a run stops where a change of level is due, so a step that it makes is one of the level, or of a stopped machine
  step_even : ρ ≤ 1 → (s : State) (m n t : List ℕ) → change_due s ≡ false → Held form t₀ a b ρ (core_of s)
      → Agree form t₀ a b ρ m n → Marked form t t₀
      → EvenTurn m n (step s m t) (step s n t)
  unfolding step
  step_even low s m n t due hs h hm =
      rw due
      (go (is_stopped s) (settled_even s m n (step_in s.level (core_of s) m t) (step_in s.level (core_of s) n t) hs
      (level_even form t₀ a b ρ m n h low s.level (core_of s) hs t hm)))
    where
      go : (x : Bool) → EvenTurn m n (settled s (step_in s.level (core_of s) m t))
          (settled s (step_in s.level (core_of s) n t))
          → EvenTurn m n (cond x (turn s 0 m t) (settled s (step_in s.level (core_of s) m t)))
          (cond x (turn s 0 n t) (settled s (step_in s.level (core_of s) n t)))
      go true e =
          record {
            state = refl;
            gave = refl;
            references = refl;
            tables = refl;
            memories = even_refl form t₀ a b ρ m n h;
            marks = hm;
            held = hs;
          }
      go false e = e

  -- what a run leaves
  pub record EvenRun (m n : List ℕ) (r q : Run) : Type 0 where
    pub state : r.state ≡ q.state
    pub steps : r.steps ≡ q.steps
    pub reason : r.reason ≡ q.reason
    pub references : r.references ≡ q.references
    pub tables : r.tables ≡ q.tables
    pub memories : EvenMemories form t₀ a b ρ m n r.memory q.memory
    pub marks : Marked form r.tables t₀
    pub held : Held form t₀ a b ρ (core_of r.state)

  -- the rest of a run, from any two memories that agree; Left is what is said of what two runs leave
  abbrev pub EvenRest : {A : Type 0} → (List ℕ → List ℕ → A → A → Type 0) → (ℕ → State → List ℕ → List ℕ → A)
      → Type 0
  EvenRest Left f =
      (k : ℕ) (s : State) (m n t : List ℕ) → Held form t₀ a b ρ (core_of s) → Agree form t₀ a b ρ m n → Marked form t t₀
      → Left m n (f k s m t) (f k s n t)

  ended_even : (w : Reason) (k : ℕ) (s : State) (m n m' n' t : List ℕ) → EvenMemories form t₀ a b ρ m n m' n'
      → Marked form t t₀
      → Held form t₀ a b ρ (core_of s) → EvenRun m n (ended w k s m' t) (ended w k s n' t)
  ended_even w k s m n m' n' t h hm hs =
      record {
        state = refl;
        steps = refl;
        reason = refl;
        references = refl;
        tables = refl;
        memories = h;
        marks = hm;
        held = hs;
      }

  pub later : (m n m' n' : List ℕ) (r q : Run) → EvenMemories form t₀ a b ρ m n m' n' → EvenRun m' n' r q
      → EvenRun m n r q
  later m n m' n' r q h e = record {
    state = e.state;
    steps = e.steps;
    reason = e.reason;
    references = e.references;
    tables = e.tables;
    memories = even_trans form t₀ a b ρ m n m' n' r.memory q.memory h e.memories;
    marks = e.marks;
    held = e.held;
  }

  -- references before both, as many before one as before the other
  pub counted_run_law : {m n : List ℕ} {r q : Run} {g h : ℕ} → g ≡ h → EvenRun m n r q
      → EvenRun m n (counted_run g r) (counted_run h q)
  counted_run_law p e = record {
    state = e.state;
    steps = e.steps;
    reason = e.reason;
    references = rw (p, e.references);
    tables = e.tables;
    memories = e.memories;
    marks = e.marks;
    held = e.held;
  }

  after_even : (f : ℕ → State → List ℕ → List ℕ → Run) → EvenRest EvenRun f → (k : ℕ) (m n : List ℕ) (r q : Turn)
      → EvenTurn m n r q
      → EvenRun m n (after_step true f k r) (after_step true f k q)
  after_even f hf k m n r q e =
      rw (← e.state, ← e.gave, ← e.tables) (counted_run_law e.references (go (not (eqb r.gave 0))))
    where
      go : (x : Bool)
          → EvenRun m n (cond x (ended Interrupt (suc k) r.state r.memory r.tables)
          (f (suc k) r.state r.memory r.tables))
          (cond x (ended Interrupt (suc k) r.state q.memory r.tables)
          (f (suc k) r.state q.memory r.tables))
      go true =
          ended_even Interrupt (suc k) r.state m n r.memory q.memory r.tables e.memories e.marks
          e.held
      go false =
          later m n r.memory q.memory (f (suc k) r.state r.memory r.tables)
          (f (suc k) r.state q.memory r.tables)
          e.memories (hf (suc k) r.state r.memory q.memory r.tables e.held e.memories.agree
          e.marks)

  -- before a step: stopped, a change of level due, or on; `rest` is what follows in each run
  before_even : (k : ℕ) (s : State) (m n t : List ℕ) (r q : Run) → Agree form t₀ a b ρ m n → Marked form t t₀
      → Held form t₀ a b ρ (core_of s)
      → (change_due s ≡ false → EvenRun m n r q)
      → EvenRun m n (cond (is_stopped s) (ended Stopped k s m t) (cond (change_due s) (ended Level k s m t) r))
      (cond (is_stopped s) (ended Stopped k s n t) (cond (change_due s) (ended Level k s n t) q))
  before_even k s m n t r q h hm hs e = go (is_stopped s) (change_due s) refl
    where
      go : (x y : Bool) → change_due s ≡ y
          → EvenRun m n (cond x (ended Stopped k s m t) (cond y (ended Level k s m t) r))
          (cond x (ended Stopped k s n t) (cond y (ended Level k s n t) q))
      go true y d = ended_even Stopped k s m n m n t (even_refl form t₀ a b ρ m n h) hm hs
      go false true d = ended_even Level k s m n m n t (even_refl form t₀ a b ρ m n h) hm hs
      go false false d = e d

  pub run_even : ρ ≤ 1 → (c : ℕ) → EvenRest EvenRun (run_from true c)
  run_even low zero k s m n t hs h hm =
      before_even k s m n t (ended Spent k s m t) (ended Spent k s n t) h hm hs
      (λ d. ended_even Spent k s m n m n t (even_refl form t₀ a b ρ m n h) hm hs)
  run_even low (suc c) k s m n t hs h hm =
      before_even k s m n t (after_step true (run_from true c) k (step s m t))
      (after_step true (run_from true c) k (step s n t)) h hm hs
      (λ d. after_even (run_from true c) (run_even low c) k m n (step s m t) (step s n t)
      (step_even low s m n t d hs h hm))
