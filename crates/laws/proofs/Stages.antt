-- What a step keeps, stage by stage: of the running level, and of the state that it is put back into.
-- Assumes nothing.
use Prim.Native.Nat.{ℕ}
use mathlib.Core.Path.{◌≡◌, refl, sym}
use mathlib.Core.Bool.{true}
use mathlib.Core.List.{List}
use lib.ListN.{length}
use Rattle.isa.specs.Machine.{core_of, with_core, with_file, next, next_core}
use Rattle.isa.specs.Instructions.{indirect_request, request, Completed}
use Rattle.isa.specs.Pages.{test_all, fault_number, word_at, rights_of}
use Rattle.isa.specs.Step.{Part, Turn, part, counted, counted_turn, gives, faulted, failed, trapped, finished}
use Rattle.isa.specs.Step.{operands_tested, operands}
use Rattle.isa.specs.Step.{indirect_tested, user_stage, system_stage, privileged, instruction_stage, instruction_of}
use Rattle.isa.specs.Step.{after_fetch, fetched, step_in, with_regs, far_stage, settled, is_stopped, change_due, level_changed}
use Rattle.isa.specs.Step.{step}
use Rattle.isa.specs.declared.machine.Core.{Core}
use Rattle.isa.specs.declared.machine.File.{File}
use Rattle.isa.specs.declared.machine.State.{State}
use Rattle.isa.specs.declared.instruction.User.{User}
use Rattle.isa.specs.declared.instruction.System.{System}
use Rattle.isa.specs.declared.instruction.Instruction.{Instruction}
use Rattle.isa.specs.declared.instruction.Instruction.TheVariants.{Unprivileged, Privileged, Execute, Monitor, Illegal}
use Rattle.std.specs.declared.option.Option.TheVariants.{None, Some}
use Rattle.std.specs.declared.result.Result.{Result}
use Rattle.std.specs.declared.result.Result.TheVariants.{Ok, Err}
use Rattle.isa.specs.declared.access.Place.{Place}
use Rattle.isa.specs.declared.access.Fault.{Fault}
use Rattle.isa.proofs.Tests.{either, decided, by_fault}
use Rattle.isa.proofs.Counts.{counted_turn_twice}
use Rattle.laws.specs.Statement.{fetch_outcome, fetch_ring, after_outcome, fetched_core, fetched_tables, Executes}

-- In, of the running level, and K, of the state that it is put back into, are kept by new registers, by an interrupt,
-- and by an access that fails where F holds of its interrupt
pub record Keeping (In : Core → Type 0) (K : State → Type 0) (F : ℕ → Type 0) : Type 0 where
  pub file : (c : Core) (f : File) → In c → In (with_file c f)
  pub trap : (n : ℕ) (c : Core) → In c → In (gives n c)
  pub fail : (x : Fault) (c : Core) → In c → F (fault_number x) → In (faulted (Some x) c)
  pub back : (s : State) (c : Core) → In c → K (with_core s c)
  pub regs : (s : State) (b : List ℕ) → K s → K (with_regs s b)

module _ (In : Core → Type 0) (K : State → Type 0) (F : ℕ → Type 0) (keep : Keeping In K F) where
  -- what a stage leaves, put back and with what is left to be done
  abbrev pub Claim : Part → Type 0
  Claim r = (s : State) → F (settled s r).gave → K (settled s r).state

  -- references before it change nothing of that
  pub counted_keeps : (n : ℕ) (r : Part) → Claim r → Claim (counted n r)
  unfolding settled
  counted_keeps n r h = h

  -- nothing is left to be done
  pub done_keeps : (c : Core) (n : ℕ) (m t : List ℕ) → In c → Claim (part c n None m t)
  unfolding settled far_stage
  done_keeps c n m t h s f = keep.back s c h

  pub trapped_keeps : (n : ℕ) (c : Core) (m t : List ℕ) → In c → Claim (trapped n c m t)
  trapped_keeps n c m t h = done_keeps (gives n c) n m t (keep.trap n c h)

  pub failed_keeps : (c : Core) (x : Fault) (m t : List ℕ) → In c → Claim (failed c (Some x) m t)
  unfolding settled far_stage
  failed_keeps c x m t h s f = keep.back s (faulted (Some x) c) (keep.fail x c h f)

  -- ---- an unprivileged instruction

  next_keeps : (c : Core) → In c → In (next_core c)
  next_keeps c h = keep.file c (next c.file) h

  finished_keeps : (c : Core) (m t : List ℕ) (xs : List Place) (d : Completed) → In c
      → Claim (finished c m t xs d)
  unfolding finished
  finished_keeps c m t xs d h =
      let e = with_file c d.file in
      let i = keep.file c d.file h in
      done_keeps _ _ _ _ (either In d.error (keep.trap 5 e i) i)

  operands_keeps : (c : Core) (m t : List ℕ) (u : User) (i : ℕ) → In c → Claim (operands c m t u i)
  unfolding operands operands_tested
  operands_keeps c m t u i h =
      let r = test_all t (length m) (rights_of c) (request u c.file i) in
      counted_keeps r.made _
      (by_fault Claim r.fault (finished_keeps c m r.tables r.places _ h)
      (λ x. failed_keeps (next_core c) x m r.tables (next_keeps c h)))

  user_keeps : (c : Core) (m t : List ℕ) (u : User) → In c → Claim (user_stage c m t u)
  unfolding user_stage indirect_tested
  user_keeps c m t u h =
      let r = test_all t (length m) (rights_of c) (indirect_request u c.file) in
      counted_keeps r.made _
      (by_fault Claim r.fault (operands_keeps c m r.tables u _ h)
      (λ x. failed_keeps (next_core c) x m r.tables (next_keeps c h)))

  -- ---- fetch and execute; of a privileged instruction, the claim is supposed

  instruction_keeps : (l : ℕ) (c : Core) (m t : List ℕ) (i : Instruction) → In c
      → ((o : System) → i ≡ Privileged o → privileged c ≡ true → Claim (system_stage l (next_core c) m t o))
      → Claim (instruction_stage l c m t i)
  unfolding instruction_stage settled far_stage
  instruction_keeps l c m t (Unprivileged u) h other = user_keeps c m t u h
  instruction_keeps l c m t (Privileged o) h other =
      decided Claim (privileged c) (other o refl) (λ e. trapped_keeps 6 (next_core c) m t (next_keeps c h))
  instruction_keeps l c m t (Execute s) h other = trapped_keeps 4 (next_core c) m t (next_keeps c h)
  instruction_keeps l c m t (Monitor n) h other =
      λ s f. keep.regs _ _ (keep.back s (gives 1 (next_core c)) (keep.trap 1 (next_core c) (next_keeps c h)))
  instruction_keeps l c m t Illegal h other = trapped_keeps 4 (next_core c) m t (next_keeps c h)

  fetched_keeps : (l : ℕ) (c : Core) (m t : List ℕ) (ring : ℕ) (x : Result Place Fault) → In c
      → In (after_outcome c ring x)
      → ((p : Place) → x ≡ Ok p → (o : System) → instruction_of c (word_at m t p) ≡ Privileged o
      → privileged (after_outcome c ring x) ≡ true → Claim (system_stage l (next_core (after_outcome c ring x)) m t o))
      → Claim (fetched l c m t ring x)
  unfolding fetched
  fetched_keeps l c m t ring (Ok p) h after other =
      counted_keeps 1 _ (instruction_keeps l (after_fetch c ring p) m t _ after (other p refl))
  fetched_keeps l c m t ring (Err f) h after other = counted_keeps 1 _ (failed_keeps c f m t h)

  -- ---- one step

  module _ (s : State) (m t : List ℕ) where
    -- the privileged instruction o that the step executes
    abbrev pub Executed : System → Type 0
    Executed o = Claim (system_stage s.level (next_core (fetched_core s m t)) m (fetched_tables s m t) o)

    abbrev Kept : Turn → Type 0
    Kept r = F r.gave → K r.state

    pub step_keeps : In (core_of s) → In (fetched_core s m t) → K s → (change_due s ≡ true → K (level_changed s))
        → ((o : System) → Executes o s m t → Executed o) → Kept (step s m t)
    unfolding step step_in
    step_keeps h after k change other =
        let x = fetch_outcome s m t in
        decided Kept (is_stopped s) (λ e f. k)
        (λ runs. decided Kept (change_due s) (λ e f. change e)
        (λ stays. fetched_keeps s.level (core_of s) m (fetched_tables s m t) (fetch_ring s t) x h after
        (λ p x o e q. other o
        (record { place = p; runs = runs; level_stays = stays; passed = x; code = e; permitted = q })) s))

-- references before a stage, put back with it
settled_counted : (n : ℕ) (s : State) (r : Part) → settled s (counted n r) ≡ counted_turn n (settled s r)
unfolding settled
settled_counted n s r = sym (counted_turn_twice n r.near.references _)

-- a step that executes a privileged instruction is its stage, put back, with the reference of the fetch
pub executed_step : {o : System} {s : State} {m t : List ℕ} → Executes o s m t
    → step s m t
    ≡ counted_turn 1 (settled s (system_stage s.level (next_core (fetched_core s m t)) m (fetched_tables s m t) o))
unfolding step step_in fetched instruction_stage
executed_step {s} h =
    let permitted = rw h.passed at h.permitted in
    rw (h.runs, h.level_stays, h.passed, h.code, permitted) (settled_counted 1 s _)
