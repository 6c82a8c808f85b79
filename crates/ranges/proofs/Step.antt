-- The stages of a step, and a step, leave all in range.
-- Assumes nothing.
use Prim.Native.Nat.{ℕ, ◌*◌, ◌%◌, ◌<◌}
use native.Mathlib.Omega.{arith}
use mathlib.Core.Path.{refl}
use mathlib.Core.Bool.{Bool}
use Rattle.std.specs.Prelude.{Option, Some, None}
use mathlib.Core.List.{List, [], ◌∷◌}
use lib.ListN.{get_or, set, length}
use lib.Dec.{ltb, eqb}
use lib.Bits.{bit_and, or_lt}
use Rattle.isa.specs.Machine.{word_range, level_count, Words, reg, core_of}
use Rattle.isa.specs.Instructions.{indirect_request, request, complete, Completed}
use Rattle.isa.specs.Pages.{translate, marked, test_all, Tested, word_at, words_at, words_of, rights_of}
use Rattle.isa.specs.Physical.{transfer_address, transfer_kind, triple, transfer_stores, transferred}
use Rattle.isa.specs.Physical.{word_addresses, test_physical}
use Rattle.isa.specs.Step.{Part, part, counted, failed, trapped, finished_core, finished, operands_tested, operands}
use Rattle.isa.specs.Step.{indirect_tested, user_stage, physical_address, examined, deposited, transfer_stage, system_stage}
use Rattle.isa.specs.Step.{privileged, instruction_stage, instruction_of, after_fetch, fetched, fetch_of, step_in, settled}
use Rattle.isa.specs.Step.{is_stopped, change_due, level_changed, step, device_stage, ident_stage}
use Rattle.isa.specs.InputOutput.{register_of, line_of, flip_flop}
use Rattle.isa.specs.declared.device.DeviceRegister.{DeviceRegister}
use Rattle.isa.specs.declared.device.Line.{Line}
use Rattle.isa.specs.declared.machine.Core.{Core}
use Rattle.isa.specs.declared.machine.File.{File}
use Rattle.isa.specs.declared.machine.State.{State}
use Rattle.isa.specs.declared.machine.Register.TheVariants.{D, B, A, T, X}
use Rattle.isa.specs.declared.instruction.User.{User}
use Rattle.isa.specs.declared.instruction.System.{System}
use Rattle.isa.specs.declared.instruction.System.TheVariants.{Control as ControlOf, TraPgc, TrrPcr, Irr, Irw, Srb}
use Rattle.isa.specs.declared.instruction.System.TheVariants.{Lrb, Exam, Depo, Physical, Iox, Ioxt, Ident}
use Rattle.isa.specs.declared.instruction.Transfer.{Transfer}
use Rattle.isa.specs.declared.instruction.Transfer.TheVariants.{Ldatx, Ldxtx, Lddtx, Ldbtx, Statx, Stztx, Stdtx}
use Rattle.isa.specs.declared.instruction.Instruction.{Instruction}
use Rattle.isa.specs.declared.instruction.Instruction.TheVariants.{Unprivileged, Privileged, Execute, Monitor, Illegal}
use Rattle.std.specs.declared.option.Option.{Option}
use Rattle.std.specs.declared.option.Option.TheVariants.{Some}
use Rattle.std.specs.declared.result.Result.{Result}
use Rattle.std.specs.declared.result.Result.TheVariants.{Ok, Err}
use Rattle.isa.specs.declared.access.Place.{Place}
use Rattle.isa.specs.declared.access.Fault.{Fault}
use Rattle.isa.specs.declared.access.Place.TheVariants.{Load, Store, LoadTable, StoreTable}
use Rattle.isa.specs.declared.access.Fault.TheVariants.{OutOfRange}
use Rattle.isa.specs.declared.answer.Far.{Far}
use Rattle.isa.specs.declared.answer.Far.TheVariants.{ReadRegister, WriteRegister, ReadPcr, WritePcr, StoreBlock}
use Rattle.isa.specs.declared.answer.Far.TheVariants.{LoadBlock}
use Rattle.isa.proofs.Tests.{either}
use Rattle.isa.proofs.Signed.{bits_below}
use Rattle.ranges.proofs.Files.{FileFits, reg_word, with_word}
use Rattle.ranges.proofs.Instructions.{Completes, completes}
use Rattle.ranges.proofs.Control.{CoreFits, file_fits, next_core_fits, gives_fits, lowered_fits, levels_fit}
use Rattle.ranges.proofs.Control.{highest_below, controlled_fits}
use Rattle.ranges.proofs.InputOutput.{exchanged_fits, identified_fits}
use Rattle.ranges.proofs.Pages.{FaultFits, OutcomeFits, FirstFits, after_test_fits, LentFits, rights_fit, translated_fits}
use Rattle.ranges.proofs.Pages.{physical_fault, faulted_fits}
use Rattle.ranges.proofs.Pages.{marked_fits, tested_fits, tested_fault, stored_fits, read_words}
use Rattle.ranges.proofs.Places.{set_words, nil_words, cons_words}
use Rattle.ranges.proofs.States.{StateFits}
use Rattle.ranges.proofs.Packing.{FarFits, TurnFits, counted_turn_fits, core_fits, with_core_fits}
use Rattle.ranges.proofs.Packing.{far_fits}

-- what a stage leaves
pub record PartFits (r : Part) : Type 0 where
  pub core : CoreFits r.near.core
  pub far : FarFits r.near.far
  pub lent : LentFits r.memory r.tables

-- .. with references before it
counted_fits : (n : ℕ) {r : Part} → PartFits r → PartFits (counted n r)
counted_fits n h = record { core = h.core; far = h.far; lent = h.lent }

-- ---- faults and traps

-- an access that failed
failed_fits : {c : Core} → CoreFits c → (x : Fault) (m t : List ℕ) → FaultFits x → LentFits m t
    → PartFits (failed c (Some x) m t)
failed_fits h x m t f k = record { core = faulted_fits x f h; far = tt; lent = k }

-- an interrupt that is not by an access
trapped_fits : (n : ℕ) {c : Core} → 0 < n → n < 11 → CoreFits c → (m t : List ℕ) → LentFits m t
    → PartFits (trapped n c m t)
trapped_fits n a b h m t k = record { core = gives_fits n a b h; far = tt; lent = k }

-- ---- an unprivileged instruction

-- the core with the registers that it completed with, and RDIV's error
finished_core_fits : {c : Core} → CoreFits c → (d : Completed) → Completes d → CoreFits (finished_core c d)
finished_core_fits h d q =
    either CoreFits d.error (gives_fits 5 (omega arith) (omega arith) (file_fits h q.file))
    (file_fits h q.file)

-- .. and its words stored
finished_fits : {c : Core} → CoreFits c → (m t : List ℕ) (xs : List Place) (d : Completed)
    → LentFits m t → Completes d → PartFits (finished c m t xs d)
unfolding finished
finished_fits h m t xs d k q =
    record { core = finished_core_fits h d q; far = tt; lent = stored_fits xs m t d.stores k q.stores }

-- its accesses tested
operands_tested_fit : {c : Core} → CoreFits c → (m : List ℕ) (u : User) (i : ℕ) (r : Tested)
    → i < 65536 → LentFits m r.tables → FirstFits r.fault → PartFits (operands_tested c m u i r)
unfolding operands_tested
operands_tested_fit {c} h m u i r n k f =
    let ws : List ℕ = words_at m r.tables r.places in
    counted_fits r.made
    (after_test_fits PartFits r.fault f
    (finished_fits h m r.tables r.places (complete u c.file i ws) k
    (completes u i ws h.file n (read_words k r.places)))
    (λ x g. failed_fits (next_core_fits h) x m r.tables g k))

-- its accesses asked for
operands_fit : {c : Core} → CoreFits c → (m t : List ℕ) (u : User) (i : ℕ)
    → i < 65536 → LentFits m t → PartFits (operands c m t u i)
unfolding operands
operands_fit {c} h m t u i n k =
    let xs = request u c.file i in
    operands_tested_fit h m u i (test_all t (length m) (rights_of c) xs) n
    (tested_fits xs m t (length m) (rights_of c) k)
    (tested_fault xs t (length m) (rights_fit c))

-- the access for its indirect word tested
indirect_tested_fit : {c : Core} → CoreFits c → (m : List ℕ) (u : User) (r : Tested)
    → LentFits m r.tables → FirstFits r.fault → PartFits (indirect_tested c m u r)
unfolding indirect_tested
indirect_tested_fit h m u r k f =
    counted_fits r.made
    (after_test_fits PartFits r.fault f
    (operands_fit h m r.tables u (get_or (words_at m r.tables r.places) 0 0) (read_words k r.places 0) k)
    (λ x g. failed_fits (next_core_fits h) x m r.tables g k))

-- the whole of it
user_fits : {c : Core} → CoreFits c → (m t : List ℕ) (u : User) → LentFits m t → PartFits (user_stage c m t u)
unfolding user_stage
user_fits {c} h m t u k =
    let xs = indirect_request u c.file in
    indirect_tested_fit h m u (test_all t (length m) (rights_of c) xs) (tested_fits xs m t (length m) (rights_of c) k)
    (tested_fault xs t (length m) (rights_fit c))

-- ---- a privileged instruction

-- EXAM
examined_fits : {c : Core} → CoreFits c → (m t : List ℕ) → LentFits m t → PartFits (examined c m t)
unfolding examined
examined_fits {c} h m t k =
    let a : ℕ = physical_address c.file in
    counted_fits 1
    (either PartFits (ltb a (length m))
    (record { core = file_fits h (with_word h.file T refl (k.memory a)); far = tt; lent = k })
    (failed_fits h OutOfRange m t tt k))

-- DEPO
deposited_fits : {c : Core} → CoreFits c → (m t : List ℕ) → LentFits m t → PartFits (deposited c m t)
unfolding deposited
deposited_fits {c} h m t k =
    let a : ℕ = physical_address c.file in
    let w : Words (set m a (reg c.file T)) = set_words m a (reg c.file T) k.memory (reg_word h.file T) in
    counted_fits 1
    (either PartFits (ltb a (length m))
    (record { core = h; far = tt; lent = record { memory = w; tables = k.tables } })
    (failed_fits h OutOfRange m t tt k))

-- LDATX to STDTX: the registers afterwards, with the words w and v loaded ..
transferred_fits : {f : File} → FileFits f → (o : Transfer) {w v : ℕ} → w < 65536 → v < 65536
    → FileFits (transferred o f w v)
transferred_fits h Ldatx a b = with_word h A refl a
transferred_fits h Ldxtx a b = with_word h X refl a
transferred_fits h Lddtx a b = with_word (with_word h A refl a) D refl b
transferred_fits h Ldbtx {w} a b =
    with_word h B refl (or_lt 16 0o177000 (w * 2 % word_range) (omega arith) (omega arith))
transferred_fits h Statx a b = h
transferred_fits h Stztx a b = h
transferred_fits h Stdtx a b = h

-- .. the words stored ..
triple_words : (w v : ℕ) → w < 65536 → v < 65536 → Words (words_of (triple w v))
triple_words w v a b =
    let last : Words (0 ∷ []) = cons_words 0 [] (omega arith) nil_words in
    cons_words w (v ∷ 0 ∷ []) a (cons_words v (0 ∷ []) b last)

transfer_words : {f : File} → FileFits f → (o : Transfer) → Words (words_of (transfer_stores o f))
transfer_words h Ldatx = triple_words 0 0 (omega arith) (omega arith)
transfer_words h Ldxtx = triple_words 0 0 (omega arith) (omega arith)
transfer_words h Lddtx = triple_words 0 0 (omega arith) (omega arith)
transfer_words h Ldbtx = triple_words 0 0 (omega arith) (omega arith)
transfer_words h Statx = triple_words _ 0 (reg_word h A) (omega arith)
transfer_words h Stztx = triple_words 0 0 (omega arith) (omega arith)
transfer_words h Stdtx = triple_words _ _ (reg_word h A) (reg_word h D)

-- .. and the whole
transfer_fits : {c : Core} → CoreFits c → (m t : List ℕ) (o : Transfer) (d : ℕ) → LentFits m t
    → PartFits (transfer_stage c m t o d)
unfolding transfer_stage
transfer_fits {c} h m t o d k =
    let form : Bool = eqb c.control.extended 1 in
    let p : ℕ = transfer_address c.file d in
    let r : Tested = test_physical t form (length m) (transfer_kind o) (word_addresses o p) in
    let w : Words (words_at m t r.places) = read_words k r.places in
    counted_fits r.made
    (after_test_fits PartFits r.fault (physical_fault t form (length m) (transfer_kind o) (word_addresses o p))
    (record {
      core = file_fits h (transferred_fits h.file o (w 0) (w 1));
      far = tt;
      lent = stored_fits r.places m t (words_of (transfer_stores o c.file)) k (transfer_words h.file o);
    })
    (λ x g. failed_fits h x m t g k))

-- IOX and IOXT
device_fits : {c : Core} → CoreFits c → (m t : List ℕ) (r : Option DeviceRegister) → LentFits m t
    → PartFits (device_stage c m t r)
unfolding device_stage
device_fits h m t (Some r) k = record { core = exchanged_fits h r; far = tt; lent = k }
device_fits h m t None k = trapped_fits 7 (omega arith) (omega arith) h m t k

-- IDENT
ident_fits : {c : Core} → CoreFits c → (m t : List ℕ) (i : Option Line) → LentFits m t → PartFits (ident_stage c m t i)
unfolding ident_stage
ident_fits {c} h m t i k =
    either PartFits (eqb (flip_flop c.control.devices i) 1)
    (record { core = identified_fits h i; far = tt; lent = k })
    (trapped_fits 7 (omega arith) (omega arith) h m t k)

-- what is done outside the level
left_fits : {c : Core} → CoreFits c → (x : Option Far) (m t : List ℕ) → FarFits x → LentFits m t
    → PartFits (part c 0 x m t)
left_fits h x m t f k = record { core = h; far = f; lent = k }

-- each of them
system_fits : (l : ℕ) {c : Core} → l < level_count → CoreFits c → (m t : List ℕ) (o : System) → LentFits m t
    → PartFits (system_stage l c m t o)
system_fits l a h m t (ControlOf o) k = record { core = controlled_fits l a h o; far = tt; lent = k }
system_fits l a h m t TraPgc k = left_fits h (Some ReadPcr) m t tt k
system_fits l a h m t TrrPcr k = left_fits h (Some WritePcr) m t tt k
system_fits l a h m t (Irr n r) k = left_fits h (Some (ReadRegister n r)) m t tt k
system_fits l a h m t (Irw n r) k = left_fits h (Some (WriteRegister n r)) m t tt k
system_fits l a h m t (Srb n) k = left_fits h (Some (StoreBlock n)) m t tt k
system_fits l a h m t (Lrb n) k = left_fits h (Some (LoadBlock n)) m t tt k
system_fits l a h m t Exam k = examined_fits h m t k
system_fits l a h m t Depo k = deposited_fits h m t k
system_fits l a h m t (Physical o d) k = transfer_fits h m t o d k
system_fits l a h m t (Iox n) k = device_fits h m t (register_of n) k
system_fits l {c} a h m t Ioxt k = device_fits h m t (register_of (reg c.file T)) k
system_fits l a h m t (Ident n) k = ident_fits h m t (line_of n) k

-- ---- fetch and execute

-- a decoded instruction
instruction_fits : (l : ℕ) {c : Core} → l < level_count → CoreFits c → (m t : List ℕ) (i : Instruction)
    → LentFits m t → PartFits (instruction_stage l c m t i)
unfolding instruction_stage
instruction_fits l a h m t (Unprivileged u) k = user_fits h m t u k
instruction_fits l {c} a h m t (Privileged o) k =
    either PartFits (privileged c) (system_fits l a (next_core_fits h) m t o k)
    (trapped_fits 6 (omega arith) (omega arith) (next_core_fits h) m t k)
instruction_fits l a h m t (Execute s) k = trapped_fits 4 (omega arith) (omega arith) (next_core_fits h) m t k
instruction_fits l a h m t (Monitor n) k =
    record { core = gives_fits 1 (omega arith) (omega arith) (next_core_fits h); far = bits_below 16 n; lent = k }
instruction_fits l a h m t Illegal k = trapped_fits 4 (omega arith) (omega arith) (next_core_fits h) m t k

-- a fetch may lower the ring
after_fetch_fits : {c : Core} → CoreFits c → (ring : ℕ) (x : Place) → CoreFits (after_fetch c ring x)
after_fetch_fits {c} h ring (Load p) = either CoreFits (eqb c.control.paging 1) (lowered_fits c ring h) h
after_fetch_fits h ring (Store p) = h
after_fetch_fits h ring (LoadTable i) = h
after_fetch_fits h ring (StoreTable i) = h

-- the word fetched, or the fetch failed
fetched_fits : (l : ℕ) {c : Core} → l < level_count → CoreFits c → (m t : List ℕ) (ring : ℕ)
    (x : Result Place Fault) → OutcomeFits x → LentFits m t → PartFits (fetched l c m t ring x)
unfolding fetched
fetched_fits l {c} a h m t ring (Ok p) g k =
    counted_fits 1 (instruction_fits l a (after_fetch_fits h ring p) m t (instruction_of c (word_at m t p)) k)
fetched_fits l a h m t ring (Err f) g k = counted_fits 1 (failed_fits h f m t g k)

-- the running level
pub step_in_fits : (l : ℕ) {c : Core} → l < level_count → CoreFits c → (m t : List ℕ) → LentFits m t
    → PartFits (step_in l c m t)
unfolding step_in
step_in_fits l {c} a h m t k =
    fetched_fits l a h m (marked t (length m) (rights_of c) (fetch_of c))
    _ (translate t (length m) (rights_of c) (fetch_of c))
    (translated_fits t (length m) (rights_fit c) (fetch_of c)) (marked_fits m t (length m) (rights_of c) (fetch_of c) k)

-- ---- one step

-- the running level's words put back, and what is left done
settled_fits : {s : State} → StateFits s → (r : Part) → PartFits r → TurnFits (settled s r)
unfolding settled
settled_fits h r k =
    counted_turn_fits r.near.references
    (far_fits (with_core_fits h k.core) r.near.gave r.memory r.tables r.near.far k.far k.lent)

-- a change of level
level_changed_fits : {s : State} → StateFits s → StateFits (level_changed s)
unfolding level_changed
level_changed_fits {s} h = record {
  level = highest_below 15 (bit_and s.control.pid s.control.pie);
  regs_length = h.regs_length;
  regs = h.regs;
  control =
      levels_fit h.control s.control.pid s.control.pie s.level h.control.pid h.control.pie
      h.level;
  pcr_length = h.pcr_length;
  pcr = h.pcr;
}

-- one step
pub step_fits : {s : State} → StateFits s → (m t : List ℕ) → LentFits m t → TurnFits (step s m t)
unfolding step
step_fits {s} h m t k =
    either TurnFits (is_stopped s) (record { state = h; lent = k })
    (either TurnFits (change_due s) (record { state = level_changed_fits h; lent = k })
    (settled_fits h (step_in s.level (core_of s) m t) (step_in_fits s.level h.level (core_fits h) m t k)))
