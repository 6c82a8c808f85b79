-- Memory and tables keep their sizes in every step, whatever the state.
-- Assumes nothing.
use Prim.Native.Nat.{ℕ}
use mathlib.Core.Path.{◌≡◌, ◌∙◌}
use mathlib.Core.Bool.{Bool}
use Rattle.std.specs.Prelude.{Option, Some}
use mathlib.Core.List.{List}
use lib.ListN.{get_or, set, length, length-set}
use lib.Dec.{ltb, eqb}
use Rattle.isa.specs.Machine.{next_core, reg, core_of, with_core}
use Rattle.isa.specs.Instructions.{indirect_request, request, complete, Completed}
use Rattle.isa.specs.Pages.{translate, marked, test_all, Tested, word_at, words_at, words_of, store_all, rights_of}
use Rattle.isa.specs.Pages.{first_word, mark_of}
use Rattle.isa.specs.Physical.{transfer_address, transfer_stores, transfer_kind, word_addresses, test_physical}
use Rattle.isa.specs.Step.{Part, Turn, finished, operands_tested, operands, indirect_tested, user_stage, physical_address}
use Rattle.isa.specs.Step.{examined, deposited, transfer_stage, system_stage, privileged, instruction_stage}
use Rattle.isa.specs.Step.{instruction_of, after_fetch, fetched, fetch_of, step_in, block_order, block_request, block_words}
use Rattle.isa.specs.Step.{device_stage, ident_stage}
use Rattle.isa.specs.InputOutput.{register_of, line_of, flip_flop}
use Rattle.isa.specs.Step.{block_stored, block_loaded, block_tested, far_stage, settled, is_stopped, change_due, step}
use Rattle.isa.specs.declared.device.DeviceRegister.{DeviceRegister}
use Rattle.isa.specs.declared.machine.Core.{Core}
use Rattle.isa.specs.declared.machine.State.{State}
use Rattle.isa.specs.declared.machine.Register.TheVariants.{T}
use Rattle.isa.specs.declared.instruction.User.{User}
use Rattle.isa.specs.declared.instruction.System.{System}
use Rattle.isa.specs.declared.instruction.System.TheVariants.{Control as ControlOf, TraPgc, TrrPcr, Irr, Irw, Srb}
use Rattle.isa.specs.declared.instruction.System.TheVariants.{Lrb, Exam, Depo, Physical, Iox, Ioxt, Ident}
use Rattle.isa.specs.declared.instruction.Transfer.{Transfer}
use Rattle.isa.specs.declared.instruction.Instruction.{Instruction}
use Rattle.isa.specs.declared.instruction.Instruction.TheVariants.{Unprivileged, Privileged, Execute, Monitor, Illegal}
use Rattle.isa.specs.declared.access.Access.{Access}
use Rattle.isa.specs.declared.access.AccessKind.{AccessKind}
use Rattle.isa.specs.declared.access.AccessKind.TheVariants.{Read, Write}
use Rattle.isa.specs.declared.access.Rights.{Rights}
use Rattle.std.specs.declared.option.Option.{Option}
use Rattle.std.specs.declared.option.Option.TheVariants.{None, Some}
use Rattle.std.specs.declared.result.Result.{Result}
use Rattle.std.specs.declared.result.Result.TheVariants.{Ok, Err}
use Rattle.isa.specs.declared.access.Place.{Place}
use Rattle.isa.specs.declared.access.Fault.{Fault}
use Rattle.isa.specs.declared.answer.Far.{Far}
use Rattle.isa.specs.declared.answer.Far.TheVariants.{Call, ReadRegister, WriteRegister, ReadPcr, WritePcr}
use Rattle.isa.specs.declared.answer.Far.TheVariants.{StoreBlock, LoadBlock}
use Rattle.ranges.specs.Sound.{Sized}
use Rattle.isa.proofs.Tests.{either, by_fault}
use Rattle.isa.proofs.Tables.{Lasting, marked_keeps, tested_keeps}
use Rattle.ranges.proofs.Pages.{stored_keeps}

-- a list of n words
abbrev Long : ℕ → List ℕ → Type 0
Long n l = length l ≡ n

-- .. is one after a store of anything
set_long : (n : ℕ) (l : List ℕ) (i v : ℕ) → Long n l → Unit {0} → Long n (set l i v)
set_long n l i v h u = length-set l i v ∙ h

-- .. and after a mark
mark_long : (form : Bool) (n : ℕ) → Lasting form (Long n)
mark_long form n l i x h = let j : ℕ = first_word form i in set_long n l j (mark_of x (get_or l j 0)) h tt

-- memory of j words and tables of k
module _ (j k : ℕ) where
  -- what a stage leaves, and what a step leaves
  abbrev PartSized : Part → Type 0
  PartSized r = Sized j k r.memory r.tables

  abbrev TurnSized : Turn → Type 0
  TurnSized r = Sized j k r.memory r.tables

  -- ---- marks and stores

  -- a mark
  marked_size : (m t : List ℕ) (words : ℕ) (r : Rights) (x : Access) → Sized j k m t → Sized j k m (marked t words r x)
  marked_size m t words r x h =
      record { memory = h.memory; tables = marked_keeps (Long k) r (mark_long r.extended k) t words x h.tables }

  -- the tests of an instruction's accesses
  tested_size : (xs : List Access) (m t : List ℕ) (words : ℕ) (r : Rights) → Sized j k m t
      → Sized j k m (test_all t words r xs).tables
  tested_size xs m t words r h =
      record { memory = h.memory; tables = tested_keeps (Long k) r (mark_long r.extended k) xs t words h.tables }

  -- its stores
  stored_size : (xs : List Place) (m t ws : List ℕ) → Sized j k m t
      → Sized j k (store_all m t xs ws).memory (store_all m t xs ws).tables
  stored_size xs m t ws h =
      let r = stored_keeps (λ v. Unit) (Long j) (Long k) (set_long j) (set_long k) xs m t ws h.memory h.tables
      (λ i. tt) in
      record { memory = r.memory; tables = r.tables }

  -- ---- the running level

  -- its words stored
  finished_size : (c : Core) (m t : List ℕ) (xs : List Place) (d : Completed) → Sized j k m t
      → PartSized (finished c m t xs d)
  unfolding finished
  finished_size c m t xs d h = stored_size xs m t d.stores h

  -- its accesses tested
  operands_tested_size : (c : Core) (m : List ℕ) (u : User) (i : ℕ) (r : Tested) → Sized j k m r.tables
      → PartSized (operands_tested c m u i r)
  unfolding operands_tested
  operands_tested_size c m u i r h =
      let d : Completed = complete u c.file i (words_at m r.tables r.places) in
      by_fault PartSized r.fault (finished_size c m r.tables r.places d h) (λ x. h)

  -- its accesses asked for
  operands_size : (c : Core) (m t : List ℕ) (u : User) (i : ℕ) → Sized j k m t → PartSized (operands c m t u i)
  unfolding operands
  operands_size c m t u i h =
      let xs = request u c.file i in
      operands_tested_size c m u i (test_all t (length m) (rights_of c) xs)
      (tested_size xs m t (length m) (rights_of c) h)

  -- the access for its indirect word tested
  indirect_tested_size : (c : Core) (m : List ℕ) (u : User) (r : Tested) → Sized j k m r.tables
      → PartSized (indirect_tested c m u r)
  unfolding indirect_tested
  indirect_tested_size c m u r h =
      by_fault PartSized r.fault
      (operands_size c m r.tables u (get_or (words_at m r.tables r.places) 0 0) h) (λ x. h)

  -- an unprivileged instruction
  user_size : (c : Core) (m t : List ℕ) (u : User) → Sized j k m t → PartSized (user_stage c m t u)
  unfolding user_stage
  user_size c m t u h =
      let xs = indirect_request u c.file in
      indirect_tested_size c m u (test_all t (length m) (rights_of c) xs)
      (tested_size xs m t (length m) (rights_of c) h)

  -- LDATX to STDTX
  transfer_size : (c : Core) (m t : List ℕ) (o : Transfer) (d : ℕ) → Sized j k m t
      → PartSized (transfer_stage c m t o d)
  unfolding transfer_stage
  transfer_size c m t o d h =
      let form : Bool = eqb c.control.extended 1 in
      let p : ℕ = transfer_address c.file d in
      let r : Tested = test_physical t form (length m) (transfer_kind o) (word_addresses o p) in
      by_fault PartSized r.fault (stored_size r.places m t (words_of (transfer_stores o c.file)) h) (λ x. h)

  device_size : (c : Core) (m t : List ℕ) (r : Option DeviceRegister) → Sized j k m t → PartSized (device_stage c m t r)
  unfolding device_stage
  device_size c m t (Some r) h = h
  device_size c m t _ h = h

  -- a privileged instruction
  system_size : (l : ℕ) (c : Core) (m t : List ℕ) (o : System) → Sized j k m t → PartSized (system_stage l c m t o)
  unfolding examined deposited ident_stage
  system_size l c m t (ControlOf o) h = h
  system_size l c m t TraPgc h = h
  system_size l c m t TrrPcr h = h
  system_size l c m t (Irr n r) h = h
  system_size l c m t (Irw n r) h = h
  system_size l c m t (Srb n) h = h
  system_size l c m t (Lrb n) h = h
  system_size l c m t Exam h = either PartSized (ltb (physical_address c.file) (length m)) h h
  system_size l c m t Depo h =
      either PartSized (ltb (physical_address c.file) (length m))
      (record {
        memory = set_long j m (physical_address c.file) (reg c.file T) h.memory tt;
        tables = h.tables;
      }) h
  system_size l c m t (Physical o d) h = transfer_size c m t o d h
  system_size l c m t (Iox n) h = device_size c m t (register_of n) h
  system_size l c m t Ioxt h = device_size c m t (register_of (reg c.file T)) h
  system_size l c m t (Ident n) h = either PartSized (eqb (flip_flop c.control.devices (line_of n)) 1) h h

  -- an instruction
  instruction_size : (l : ℕ) (c : Core) (m t : List ℕ) (i : Instruction) → Sized j k m t
      → PartSized (instruction_stage l c m t i)
  unfolding instruction_stage
  instruction_size l c m t (Unprivileged u) h = user_size c m t u h
  instruction_size l c m t (Privileged o) h = either PartSized (privileged c) (system_size l (next_core c) m t o h) h
  instruction_size l c m t (Execute s) h = h
  instruction_size l c m t (Monitor n) h = h
  instruction_size l c m t Illegal h = h

  -- the word fetched, or the fetch failed
  fetched_size : (l : ℕ) (c : Core) (m t : List ℕ) (ring : ℕ) (x : Result Place Fault) → Sized j k m t
      → PartSized (fetched l c m t ring x)
  unfolding fetched
  fetched_size l c m t ring (Ok p) h =
      instruction_size l (after_fetch c ring p) m t (instruction_of c (word_at m t p)) h
  fetched_size l c m t ring (Err f) h = h

  -- the running level
  step_in_size : (l : ℕ) (c : Core) (m t : List ℕ) → Sized j k m t → PartSized (step_in l c m t)
  unfolding step_in
  step_in_size l c m t h =
      fetched_size l c m (marked t (length m) (rights_of c) (fetch_of c))
      _ (translate t (length m) (rights_of c) (fetch_of c))
      (marked_size m t (length m) (rights_of c) (fetch_of c) h)

  -- ---- what leaves the level

  -- a block's tests
  block_size : (x : AccessKind) (s : State) (m t : List ℕ) → Sized j k m t → Sized j k m (block_tested x s m t).tables
  block_size x s m t h = tested_size (block_request x s) m t (length m) (rights_of (core_of s)) h

  -- SRB
  block_stored_size : (s : State) (l : ℕ) (m : List ℕ) (r : Tested) → Sized j k m r.tables
      → TurnSized (block_stored s l m r)
  unfolding block_stored
  block_stored_size s l m r h =
      by_fault TurnSized r.fault (stored_size r.places m r.tables (block_words s l block_order) h) (λ x. h)

  -- LRB
  block_loaded_size : (s : State) (l : ℕ) (m : List ℕ) (r : Tested) → Sized j k m r.tables
      → TurnSized (block_loaded s l m r)
  unfolding block_loaded
  block_loaded_size s l m r h = by_fault TurnSized r.fault h (λ x. h)

  -- what the running level left to be done
  far_size : (s : State) (n : ℕ) (m t : List ℕ) (x : Option Far) → Sized j k m t → TurnSized (far_stage s n m t x)
  unfolding far_stage
  far_size s n m t None h = h
  far_size s n m t (Some (Call w)) h = h
  far_size s n m t (Some (ReadRegister l r)) h = h
  far_size s n m t (Some (WriteRegister l r)) h = h
  far_size s n m t (Some ReadPcr) h = h
  far_size s n m t (Some WritePcr) h = h
  far_size s n m t (Some (StoreBlock l)) h =
      block_stored_size s l m (block_tested Write s m t) (block_size Write s m t h)
  far_size s n m t (Some (LoadBlock l)) h =
      block_loaded_size s l m (block_tested Read s m t) (block_size Read s m t h)

  -- ---- one step

  -- the running level's words put back, and what is left done
  settled_size : (s : State) (r : Part) → PartSized r → TurnSized (settled s r)
  unfolding settled
  settled_size s r h = far_size (with_core s r.near.core) r.near.gave r.memory r.tables r.near.far h

  -- one step
  pub step_sized : (s : State) (m t : List ℕ) → Sized j k m t → Sized j k (step s m t).memory (step s m t).tables
  unfolding step
  step_sized s m t h =
      either TurnSized (is_stopped s) h
      (either TurnSized (change_due s) h
      (settled_size s (step_in s.level (core_of s) m t) (step_in_size s.level (core_of s) m t h)))
