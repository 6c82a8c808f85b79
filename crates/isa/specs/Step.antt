-- Document 01, "One step": stages over the running level, each taking what the one before found, and their packing into
-- a state.
use Rattle.std.specs.Prelude.{ℕ, ◌+◌, ◌*◌, ◌%◌, Bool, true, false, cond, not, ◌&&◌, ◌||◌, List, [], ◌∷◌, length, ◌==◌, bit_and, nat_eq, nat_le, nat_lt, slice_index, slice_set}
use Rattle.std.specs.declared.option.Option.{Option}
use Rattle.std.specs.declared.option.Option.TheVariants.{None, Some}
use Rattle.std.specs.declared.result.Result.{Result}
use Rattle.std.specs.declared.result.Result.TheVariants.{Ok, Err}
use Rattle.isa.specs.Machine.{word_range, level_count, file_size, status_range, internal_level, interrupt_mon}
use Rattle.isa.specs.Machine.{interrupt_illegal, interrupt_error, interrupt_privileged, interrupt_iox, bit, with_bit}
use Rattle.isa.specs.Machine.{number, reg, with_reg, next, next_core, core_of, with_core, with_file, with_control}
use Rattle.isa.specs.Machine.{control_of, state_with, ring_of, pcr_mask}
use Rattle.isa.specs.Flags.{bits_of}
use Rattle.isa.specs.Decode.{decode, four_of}
use Rattle.isa.specs.Address.{sum, access}
use Rattle.isa.specs.Instructions.{indirect_request, request, complete, operand, Completed}
use Rattle.isa.specs.System.{highest_in, with_levels, with_pid, with_internal, with_paging_status, controlled}
use Rattle.isa.specs.Pages.{slot_of, entry_at, translate, marked, test_all, Tested, after_test, fault_of}
use Rattle.isa.specs.Pages.{pgs_after, first_status, held_after, word_at, words_at, words_of, store_all, rights_of}
use Rattle.isa.specs.Pages.{lowered}
use Rattle.isa.specs.Physical.{transfer_address, transfer_kind, word_addresses, test_physical, transfer_stores}
use Rattle.isa.specs.Physical.{transferred}
use Rattle.isa.specs.InputOutput.{register_of, exchanged, line_of, flip_flop, identified}
use Rattle.isa.specs.declared.machine.Control.{Control}
use Rattle.isa.specs.declared.machine.Core.{Core}
use Rattle.isa.specs.declared.machine.File.{File}
use Rattle.isa.specs.declared.machine.State.{State}
use Rattle.isa.specs.declared.machine.Register.{Register}
use Rattle.isa.specs.declared.machine.Register.TheVariants.{Sts, D, P, B, L, A, T, X}
use Rattle.isa.specs.declared.instruction.User.{User}
use Rattle.isa.specs.declared.instruction.System.{System}
use Rattle.isa.specs.declared.instruction.System.TheVariants.{Control as ControlOf, TraPgc, TrrPcr, Irr, Irw}
use Rattle.isa.specs.declared.instruction.System.TheVariants.{Srb, Lrb, Exam, Depo, Physical, Iox, Ioxt, Ident}
use Rattle.isa.specs.declared.instruction.Transfer.{Transfer}
use Rattle.isa.specs.declared.instruction.Instruction.{Instruction}
use Rattle.isa.specs.declared.instruction.Instruction.TheVariants.{Unprivileged, Privileged, Execute, Monitor}
use Rattle.isa.specs.declared.instruction.Instruction.TheVariants.{Illegal}
use Rattle.isa.specs.declared.device.DeviceRegister.{DeviceRegister}
use Rattle.isa.specs.declared.device.Line.{Line}
use Rattle.isa.specs.declared.access.Access.{Access}
use Rattle.isa.specs.declared.access.AccessKind.{AccessKind}
use Rattle.isa.specs.declared.access.AccessKind.TheVariants.{Fetch, Read, Write}
use Rattle.isa.specs.declared.access.Place.{Place}
use Rattle.isa.specs.declared.access.Place.TheVariants.{Load, Store, LoadTable, StoreTable}
use Rattle.isa.specs.declared.access.Fault.{Fault}
use Rattle.isa.specs.declared.access.Fault.TheVariants.{OutOfRange}
use Rattle.isa.specs.declared.answer.Far.{Far}
use Rattle.isa.specs.declared.answer.Far.TheVariants.{Call, ReadRegister, WriteRegister, ReadPcr}
use Rattle.isa.specs.declared.answer.Far.TheVariants.{WritePcr, StoreBlock, LoadBlock}
use Rattle.isa.specs.declared.answer.Near.{Near}

-- ---- what a step leaves

-- of the running level: its core, the interrupt given, what is left to be done, if anything, and the references made;
-- memory and tables
pub record Part : Type 0 where
  pub near : Near
  pub memory : List ℕ
  pub tables : List ℕ

abbrev pub part : Core → ℕ → Option Far → List ℕ → List ℕ → Part
part c n far m t =
    record { near = record { core = c; gave = n; far = far; references = 0 }; memory = m; tables = t }

-- Document 02, card 7: "every caller passes the number up": the same with k references more
abbrev pub counted : ℕ → Part → Part
counted k r = record {
  near =
      record { core = r.near.core; gave = r.near.gave; far = r.near.far; references = k + r.near.references };
  memory = r.memory;
  tables = r.tables;
}

-- of the machine: the state, the number of the interrupt given, or 0, and the references made
pub record Turn : Type 0 where
  pub state : State
  pub gave : ℕ
  pub memory : List ℕ
  pub tables : List ℕ
  pub references : ℕ

abbrev pub turn : State → ℕ → List ℕ → List ℕ → Turn
turn s n m t = record { state = s; gave = n; memory = m; tables = t; references = 0 }

abbrev pub counted_turn : ℕ → Turn → Turn
counted_turn k r = record {
  state = r.state;
  gave = r.gave;
  memory = r.memory;
  tables = r.tables;
  references = k + r.references;
}

-- ---- interrupts

-- "An interrupt sets its IID bit; if IIE has it, PID bit 14 too." Ruling 8: IIE as it is at that moment.
abbrev pub detected : ℕ → Control → Control
detected n k = with_internal k (with_bit n 1 k.iid) k.iie

unfoldable pub interrupted : ℕ → Control → Control
interrupted n k =
    cond (bit n k.iie == 1) (with_pid (detected n k) (with_bit internal_level 1 k.pid)) (detected n k)

abbrev pub gives : ℕ → Core → Core
gives n c = with_control c (interrupted n c.control)

-- An access that failed. "Interrupts 2 and 3 set PGS" reads since document 02, card 3: "PGS shall keep the first fault
-- until TRA PGS is executed, and only then take another"; ruling 41: the first 2 or 3 sets PGS and holds it, and while
-- it is held they change neither. Without a fault, of an access that passed, neither changes.
abbrev pub with_pgs : Control → Option Fault → Control
with_pgs k x =
    with_paging_status k (first_status k.held k.pgs (pgs_after k.pgs x)) (held_after k.held x)

unfoldable pub faulted : Option Fault → Core → Core
faulted x c = gives (fault_of x) (with_control c (with_pgs c.control x))

-- "An instruction that faults .. stores nothing and changes no register but P. Fetch faults leave P; all others leave
-- it one further." c is the core with P where it is left.
abbrev pub failed : Core → Option Fault → List ℕ → List ℕ → Part
failed c x m t = part (faulted x c) (fault_of x) None m t

-- an interrupt of an instruction that is not by an access; c is the core with P one further
abbrev pub trapped : ℕ → Core → List ℕ → List ℕ → Part
trapped n c m t = part (gives n c) n None m t

-- ---- an unprivileged instruction

-- the words are stored; RDIV's error "gives interrupt 5"; ruling 3: P is one further then too
abbrev pub error_of : Completed → ℕ
error_of d = cond d.error interrupt_error 0

abbrev pub finished_core : Core → Completed → Core
finished_core c d = cond d.error (gives interrupt_error (with_file c d.file)) (with_file c d.file)

unfoldable pub finished : Core → List ℕ → List ℕ → List Place → Completed → Part
finished c m t places d =
    let r = store_all m t places d.stores in
    part (finished_core c d) (error_of d) None r.memory r.tables

-- all accesses were tested: read, complete, store; i is the indirect word
unfoldable pub operands_tested : Core → List ℕ → User → ℕ → Tested → Part
operands_tested c m u i r =
    counted r.made
    (after_test r.fault (finished c m r.tables r.places (complete u c.file i (words_at m r.tables r.places)))
    (λ x. failed (next_core c) (Some x) m r.tables))

unfoldable pub operands : Core → List ℕ → List ℕ → User → ℕ → Part
operands c m t u i = operands_tested c m u i (test_all t (length m) (rights_of c) (request u c.file i))

-- The access for the indirect word was tested; without one the indirect word is 0, and nothing looks at it. Document
-- 02, card 7: "Finding an effective address shall also tell how many words it read (0 or 1)".
unfoldable pub indirect_tested : Core → List ℕ → User → Tested → Part
indirect_tested c m u r =
    counted r.made
    (after_test r.fault (operands c m r.tables u (slice_index (words_at m r.tables r.places) 0))
    (λ x. failed (next_core c) (Some x) m r.tables))

unfoldable pub user_stage : Core → List ℕ → List ℕ → User → Part
user_stage c m t u = indirect_tested c m u (test_all t (length m) (rights_of c) (indirect_request u c.file))

-- ---- a privileged instruction, on the core c with P one further

-- EXAM loads T from, and DEPO stores T in, a physical address (ruling 23: A x 65,536 + D): "EXAM and DEPO reach memory
-- only. For them, and with paging off, an address past the memory gives 9."
abbrev pub physical_address : File → ℕ
physical_address f = reg f A * word_range + reg f D

-- the word is there, since p is below the memory's size; ruling 7.2: one reference, also past the memory
unfoldable pub examined : Core → List ℕ → List ℕ → Part
examined c m t =
    let p = physical_address c.file in
    counted 1
    (cond (nat_lt p (length m)) (part (with_file c (with_reg c.file T (slice_index m p))) 0 None m t)
    (failed c (Some OutOfRange) m t))

unfoldable pub deposited : Core → List ℕ → List ℕ → Part
deposited c m t =
    let p = physical_address c.file in
    counted 1
    (cond (nat_lt p (length m)) (part c 0 None (slice_set m p (reg c.file T)) t) (failed c (Some OutOfRange) m t))

-- LDATX to STDTX (document 02, card 4), of the displacement d. Ruling R4: both words are tested before a load or a
-- store takes effect. Without a second word v is 0, and nothing looks at it.
unfoldable pub transfer_stage : Core → List ℕ → List ℕ → Transfer → ℕ → Part
transfer_stage c m t o d =
    let f = c.file in
    let form = nat_eq c.control.extended 1 in
    let r = test_physical t form (length m) (transfer_kind o) (word_addresses o (transfer_address f d)) in
    let w = slice_index (words_at m t r.places) 0 in
    let v = slice_index (words_at m t r.places) 1 in
    let k = store_all m t r.places (words_of (transfer_stores o f)) in
    counted r.made
    (after_test r.fault (part (with_file c (transferred o f w v)) 0 None k.memory k.tables)
    (λ x. failed c (Some x) m t))

-- Document 02, card 1: "IOX, IOXT and IDENT reach them and interrupt 7 stays for all other addresses and for an IDENT
-- that no device answers." Ruling 31: with 7 nothing changes but P, IID and PID. Ruling 7.3: device registers are no
-- references.
unfoldable pub device_stage : Core → List ℕ → List ℕ → Option DeviceRegister → Part
device_stage c m t (Some r) = part (exchanged c r) 0 None m t
device_stage c m t None = trapped interrupt_iox c m t

unfoldable pub ident_stage : Core → List ℕ → List ℕ → Option Line → Part
ident_stage c m t i =
    cond (flip_flop c.control.devices i == 1) (part (identified c i) 0 None m t) (trapped interrupt_iox c m t)

-- what is left to be done outside the level l, or done here; ruling 31: IOX's address is eleven bits of the word,
-- IOXT's all of T
abbrev pub system_stage : ℕ → Core → List ℕ → List ℕ → System → Part
system_stage l c m t (ControlOf o) = part (controlled l c o) 0 None m t
system_stage l c m t TraPgc = part c 0 (Some ReadPcr) m t
system_stage l c m t TrrPcr = part c 0 (Some WritePcr) m t
system_stage l c m t (Irr n r) = part c 0 (Some (ReadRegister n r)) m t
system_stage l c m t (Irw n r) = part c 0 (Some (WriteRegister n r)) m t
system_stage l c m t (Srb n) = part c 0 (Some (StoreBlock n)) m t
system_stage l c m t (Lrb n) = part c 0 (Some (LoadBlock n)) m t
system_stage l c m t Exam = examined c m t
system_stage l c m t Depo = deposited c m t
system_stage l c m t (Physical o d) = transfer_stage c m t o d
system_stage l c m t (Iox n) = device_stage c m t (register_of n)
system_stage l c m t Ioxt = device_stage c m t (register_of (reg c.file T))
system_stage l c m t (Ident n) = ident_stage c m t (line_of n)

-- "Privileged codes need ring 2 or 3 after that, else interrupt 6. With paging off all is permitted"; ruling 24: so
-- with paging off on every ring
abbrev pub privileged : Core → Bool
privileged c = not (c.control.paging == 1) || nat_le 2 (ring_of c.pcr)

-- ---- fetch and execute

-- "Order of faults: the fetch; illegal; privileged; then accesses in order". "MON gives interrupt 1 and puts its
-- sign-extended number into T of level 14."
unfoldable pub instruction_stage : ℕ → Core → List ℕ → List ℕ → Instruction → Part
instruction_stage l c m t (Unprivileged u) = user_stage c m t u
instruction_stage l c m t (Privileged q) =
    cond (privileged c) (system_stage l (next_core c) m t q) (trapped interrupt_privileged (next_core c) m t)
instruction_stage l c m t (Execute s) = trapped interrupt_illegal (next_core c) m t
instruction_stage l c m t (Monitor n) =
    part (gives interrupt_mon (next_core c)) interrupt_mon (Some (Call (bits_of 16 n))) m t
instruction_stage l c m t Illegal = trapped interrupt_illegal (next_core c) m t

-- EXR executes the word in its register, under its own address (ruling 15: of register 0 the word 000000). "An EXR
-- whose register holds an EXR is illegal", as an instruction Execute is above.
abbrev pub executed : File → Instruction → Instruction
executed f (Unprivileged u) = Unprivileged u
executed f (Privileged q) = Privileged q
executed f (Execute s) = decode (operand (next f) s)
executed f (Monitor n) = Monitor n
executed f Illegal = Illegal

abbrev pub instruction_of : Core → ℕ → Instruction
instruction_of c w = executed c.file (decode w)

-- "A passed fetch from a lower ring lowers the user's ring in PCR before the word is decoded": a fetch from memory by
-- way of an entry of that ring. A passed fetch loads, from memory or from the window; the other cases are there for any
-- place.
abbrev pub after_fetch : Core → ℕ → Place → Core
after_fetch c ring (Load p) = cond (c.control.paging == 1) (lowered c ring) c
after_fetch c ring (Store p) = c
after_fetch c ring (LoadTable i) = c
after_fetch c ring (StoreTable i) = c

unfoldable pub fetched : ℕ → Core → List ℕ → List ℕ → ℕ → Result Place Fault → Part
fetched l c m t ring (Ok p) =
    counted 1 (instruction_stage l (after_fetch c ring p) m t (instruction_of c (word_at m t p)))
fetched l c m t ring (Err x) = counted 1 (failed c (Some x) m t)

-- ruling 24: every fetch goes by the normal table, and all accesses of a step by the PTM that it began with
abbrev pub fetch_of : Core → Access
fetch_of c = access Fetch false (reg c.file P)

unfoldable pub step_in : ℕ → Core → List ℕ → List ℕ → Part
step_in l c m t =
    let r = rights_of c in
    let ring = (entry_at r.extended t (slot_of r.normal (reg c.file P))).ring in
    fetched l c m (marked t (length m) r (fetch_of c)) ring (translate t (length m) r (fetch_of c))

-- ---- what leaves the level

abbrev pub with_regs : State → List ℕ → State
with_regs s b = state_with s.level (control_of s) b s.pcr

abbrev pub with_pcrs : State → List ℕ → State
with_pcrs s p = state_with s.level (control_of s) s.regs p

-- Where register r of a level stands. Levels are below 16: the running one by its range, others as four bits of the
-- instruction (Decode.four_of); `% 16` only makes the definition total.
abbrev pub place_of : ℕ → Register → ℕ
place_of l r = l % level_count * file_size + number r

abbrev pub register_at : State → ℕ → Register → ℕ
register_at s l r = slice_index s.regs (place_of l r)

-- "IRW, LRB and TRR of STS keep bits 7-0 only."
abbrev pub kept : Register → ℕ → ℕ
kept Sts w = w % status_range
kept D w = w
kept P w = w
kept B w = w
kept L w = w
kept A w = w
kept T w = w
kept X w = w

abbrev pub put_register : State → ℕ → Register → ℕ → State
put_register s l r w = with_regs s (slice_set s.regs (place_of l r) (kept r w))

-- ruling 22: P of the running level is not written by IRW and LRB; l is below 16, as in place_of
abbrev pub is_p : Register → Bool
is_p r = number r == number P

unfoldable pub put_other : State → ℕ → Register → ℕ → State
put_other s l r w = cond (l % level_count == s.level && is_p r) s (put_register s l r w)

-- ruling 12: a PCR's level is in A bits 6-3; so it is below 16 and has its PCR
abbrev pub pcr_level : State → ℕ
pcr_level s = four_of (register_at s s.level A)

-- SRB and LRB: the registers in document 002's order, from the address in X on; ruling 22: by the alternate rule;
-- ruling 6: each word an access of its own, each sum without its carry
abbrev pub block_order : List Register
block_order = P ∷ X ∷ T ∷ A ∷ D ∷ L ∷ Sts ∷ B ∷ []

abbrev pub block_from : AccessKind → ℕ → List Register → List Access
block_from k a [] = []
block_from k a (r ∷ rs) = access k true a ∷ block_from k (sum a 1) rs

abbrev pub block_request : AccessKind → State → List Access
block_request k s = block_from k (register_at s s.level X) block_order

abbrev pub block_words : State → ℕ → List Register → List ℕ
block_words s l [] = []
block_words s l (r ∷ rs) = register_at s l r ∷ block_words s l rs

-- as many words as registers; the second case is only there for any lists
abbrev pub put_block : State → ℕ → List Register → List ℕ → State
put_block s l [] ws = s
put_block s l (r ∷ rs) [] = s
put_block s l (r ∷ rs) (w ∷ ws) = put_block (put_other s l r w) l rs ws

-- a block's access failed: as any fault of the running level
abbrev pub block_failed : State → Option Fault → List ℕ → List ℕ → Turn
block_failed s x m t = turn (with_core s (faulted x (core_of s))) (fault_of x) m t

unfoldable pub block_stored : State → ℕ → List ℕ → Tested → Turn
block_stored s l m r =
    let k = store_all m r.tables r.places (block_words s l block_order) in
    counted_turn r.made
    (after_test r.fault (turn s 0 k.memory k.tables) (λ x. block_failed s (Some x) m r.tables))

unfoldable pub block_loaded : State → ℕ → List ℕ → Tested → Turn
block_loaded s l m r =
    counted_turn r.made
    (after_test r.fault (turn (put_block s l block_order (words_at m r.tables r.places)) 0 m r.tables)
    (λ x. block_failed s (Some x) m r.tables))

abbrev pub block_tested : AccessKind → State → List ℕ → List ℕ → Tested
block_tested k s m t = test_all t (length m) (rights_of (core_of s)) (block_request k s)

-- What the running level left to be done, on the state in which P is one further; so IRR of P and SRB of the running
-- level give P one further (ruling 22). Ruling 25: MON writes T of level 14 also when level 14 runs.
unfoldable pub far_stage : State → ℕ → List ℕ → List ℕ → Option Far → Turn
far_stage s n m t None = turn s n m t
far_stage s n m t (Some (Call w)) = turn (put_register s internal_level T w) n m t
far_stage s n m t (Some (ReadRegister l r)) = turn (put_register s s.level A (register_at s l r)) n m t
far_stage s n m t (Some (WriteRegister l r)) = turn (put_other s l r (register_at s s.level A)) n m t
far_stage s n m t (Some ReadPcr) =
    turn (put_register s s.level A (slice_index s.pcr (pcr_level s))) n m t
far_stage s n m t (Some WritePcr) =
    turn (with_pcrs s (slice_set s.pcr (pcr_level s) (pcr_mask (register_at s s.level A)))) n m t
far_stage s n m t (Some (StoreBlock l)) = block_stored s l m (block_tested Write s m t)
far_stage s n m t (Some (LoadBlock l)) = block_loaded s l m (block_tested Read s m t)

-- the running level's words are put back, then what is left is done
unfoldable pub settled : State → Part → Turn
settled s r =
    counted_turn r.near.references
    (far_stage (with_core s r.near.core) r.near.gave r.memory r.tables r.near.far)

-- ---- one step

-- "the highest level in PID and PIE (0 if none)"; bit 0 plays no part in it
abbrev pub highest_level : Control → ℕ
highest_level k = highest_in 15 (bit_and k.pid k.pie)

-- "Interrupts on, and the highest level in PID and PIE (0 if none) is not the running one": a change of level is due
unfoldable pub change_due : State → Bool
change_due s = s.control.interrupts == 1 && not (highest_level (control_of s) == s.level)

-- "PVL takes the old level, the new one runs."
unfoldable pub level_changed : State → State
level_changed s =
    let k = control_of s in
    state_with (highest_level k) (with_levels k k.pid k.pie s.level) s.regs s.pcr

abbrev pub is_stopped : State → Bool
is_stopped s = s.control.stopped == 1

-- "1. Stopped: nothing happens."; a change of level, and "That is the whole step."; "3. Otherwise fetch and execute."
-- Ruling 7.2: the first two make no reference.
unfoldable pub step : State → List ℕ → List ℕ → Turn
step s m t =
    cond (is_stopped s) (turn s 0 m t)
    (cond (change_due s) (turn (level_changed s) 0 m t) (settled s (step_in s.level (core_of s) m t)))
