-- What document 01, and document 02 after it, says of a step, a run and a view that follows from their definitions:
-- each law under its sentence.
use Rattle.isa.specs.Machine.{word_range, level_count, register_words, control_of}
use Rattle.std.specs.Prelude.{ℕ, zero, suc, ◌+◌, ◌<◌, ◌≤◌, ◌≡◌, Bool, true, false, cond, ◌||◌, List, [], get_or, set, length, eqb, Option, Some}
use Rattle.isa.specs.Machine.{bit, flag_of, reg, core_of, ring_of, normal_table_of, Typed, sizes_fit, in_range}
use Rattle.isa.specs.Address.{sum, access}
use Rattle.isa.specs.System.{with_paging_status, with_extended}
use Rattle.isa.specs.Pages.{slot_of, entry_at, translate, marked, passes, word_at, rights_of}
use Rattle.isa.specs.Physical.{physical_place}
use Rattle.isa.specs.Step.{Turn, turn, with_pgs, privileged, instruction_of, after_fetch, fetch_of, place_of, register_at}
use Rattle.isa.specs.Step.{is_stopped, change_due, step}
use Rattle.isa.specs.Run.{counted_run, run_from}
use Rattle.isa.specs.Answers.{refusal_number, reason_number, answer_numbers, step_numbers, run_numbers, step_told, run_told}
use Rattle.isa.specs.Answers.{raise_told, load_told, write_told, view_told, step_call, run_call, raise_call, load_call}
use Rattle.isa.specs.Answers.{write_answer, target_of, view_answer, viewed, sent_numbers, character_sent_of, tick_call}
use Rattle.isa.specs.Answers.{tick_told, type_call, type_told, read_out_call, read_out_told}
use Rattle.isa.specs.InputOutput.{ident_code, line_of, flip_flop}
use Rattle.isa.specs.DeviceInput.{Given, input_done, input_call, is_spent, input_run_call, input_run_told}
use Rattle.isa.specs.Isolation.{MarksAlone, start_pcr, start_form}
use Rattle.isa.specs.declared.machine.Control.{Control}
use Rattle.isa.specs.declared.machine.Core.{Core}
use Rattle.isa.specs.declared.machine.State.{State}
use Rattle.isa.specs.declared.machine.Register.TheVariants.{P, A}
use Rattle.isa.specs.declared.instruction.Readable.TheVariants.{Pgs}
use Rattle.isa.specs.declared.instruction.ControlOp.{ControlOp}
use Rattle.isa.specs.declared.instruction.ControlOp.TheVariants.{Sex, Rex, Tra}
use Rattle.isa.specs.declared.instruction.System.{System}
use Rattle.isa.specs.declared.instruction.System.TheVariants.{Control as ControlOf, Iox, Ioxt, Ident}
use Rattle.isa.specs.declared.instruction.Instruction.{Instruction}
use Rattle.isa.specs.declared.instruction.Instruction.TheVariants.{Privileged}
use Rattle.isa.specs.declared.access.AccessKind.{AccessKind}
use Rattle.isa.specs.declared.access.Rights.{Rights}
use Rattle.isa.specs.declared.access.Place.{Place}
use Rattle.isa.specs.declared.access.Place.TheVariants.{Load}
use Rattle.isa.specs.declared.access.Fault.{Fault}
use Rattle.isa.specs.declared.access.Fault.TheVariants.{Protection, PageFault}
use Rattle.isa.specs.declared.answer.Reason.{Reason}
use Rattle.isa.specs.declared.answer.Target.{Target}
use Rattle.isa.specs.declared.answer.Refusal.{Refusal}
use Rattle.isa.specs.declared.device.DeviceInput.TheVariants.{Raise, Tick, Typed as TypedCharacter, ReadOut}
use Rattle.ranges.specs.Sound.{Sound}
use Rattle.std.specs.declared.result.Result.{Result}
use Rattle.std.specs.declared.result.Result.TheVariants.{Ok, Err}
use Rattle.std.specs.declared.option.Option.TheVariants.{None}
use Rattle.isa.specs.Answers.{Answer, StepAnswer, RunAnswer, SentAnswer}

-- ---- "So, not stopped and with interrupts on, a raised, enabled level that is highest runs after the next step."

-- level l is raised (in PID), enabled (in PIE), and no level above it is both
pub record HighestRaised (k : Control) (l : ℕ) : Type 0 where
  pub level : l < level_count
  pub raised : bit l k.pid ≡ 1
  pub enabled : bit l k.pie ≡ 1
  pub highest : (j : ℕ) → l < j → j < level_count → bit j k.pid ≡ 1 → bit j k.pie ≡ 1 → ⊥

-- whether it is the running level already or not
abbrev pub RaisedLevelRuns : Type 0
RaisedLevelRuns =
    (s : State) (m t : List ℕ) (l : ℕ) → is_stopped s ≡ false → s.control.interrupts ≡ 1
    → HighestRaised (control_of s) l → (step s m t).state.level ≡ l

-- ---- "An instruction that faults (2, 3, 4, 6, 7 or 9) stores nothing and changes no register but P. Fetch faults
-- ---- leave P; all others leave it one further."

-- the interrupts that are faults
abbrev pub is_fault : ℕ → Bool
is_fault n = eqb n 2 || eqb n 3 || eqb n 4 || eqb n 6 || eqb n 7 || eqb n 9

-- what comes of the step's fetch
abbrev pub fetch_outcome : State → List ℕ → List ℕ → Result Place Fault
fetch_outcome s m t = translate t (length m) (rights_of (core_of s)) (fetch_of (core_of s))

-- P of the running level where the step faults
abbrev pub fault_p : State → List ℕ → List ℕ → ℕ
fault_p s m t =
    let p = register_at s s.level P in
    cond (passes (fetch_outcome s m t)) (sum p 1) p

-- what the step leaves: memory as it was, the entries of the page tables but for their marks, and, so that nothing is
-- stored in an entry's other bits, each of their words but for bits 12 and 11; and each register of each level as it
-- was, but for the running level's P
pub record LeavesAllButP (s : State) (m t : List ℕ) (r : Turn) : Type 0 where
  pub memory : r.memory ≡ m
  pub tables : (i : ℕ) → MarksAlone (entry_at (start_form s) r.tables i) (entry_at (start_form s) t i)
  pub words : (i : ℕ) → MarksAlone (entry_at false r.tables i) (entry_at false t i)
  pub registers : r.state.regs ≡ set s.regs (place_of s.level P) (fault_p s m t)

abbrev pub FaultLeavesAllButP : Type 0
FaultLeavesAllButP =
    (s : State) (m t : List ℕ) → s.level < level_count → length s.regs ≡ register_words
    → is_fault (step s m t).gave ≡ true
    → LeavesAllButP s m t (step s m t)

-- ---- "A passed fetch from a lower ring lowers the user's ring in PCR before the word is decoded .. Privileged codes
-- ---- need ring 2 or 3 after that, else interrupt 6."

-- the step executes with paging on, and fetches from memory at the physical address p, so by way of an entry
pub record Fetches (s : State) (m t : List ℕ) (p : ℕ) : Type 0 where
  pub runs : is_stopped s ≡ false
  pub level_stays : change_due s ≡ false
  pub paging_on : s.control.paging ≡ 1
  pub passed : fetch_outcome s m t ≡ Ok (Load p)

-- the ring of that entry, in the normal table
abbrev pub fetch_ring : State → List ℕ → ℕ
fetch_ring s t = (entry_at (start_form s) t (slot_of (normal_table_of (core_of s).pcr) (reg (core_of s).file P))).ring

-- on ring 0 or 1 a privileged code, by an EXR too, gives 6, whatever the user's ring was
abbrev pub PrivilegedTrapped : Type 0
PrivilegedTrapped =
    (s : State) (m t : List ℕ) (p : ℕ) (o : System) → Fetches s m t p → fetch_ring s t ≤ 1
    → instruction_of (core_of s) (get_or m p 0) ≡ Privileged o → (step s m t).gave ≡ 6

-- the running level after a fetch: one that passes may lower its ring
abbrev pub after_outcome : Core → ℕ → Result Place Fault → Core
after_outcome c ring (Ok p) = after_fetch c ring p
after_outcome c ring (Err f) = c

-- what the step's fetch leaves: the running level, of which it may lower the ring if it passes; the page tables, with
-- its mark
abbrev pub fetched_core : State → List ℕ → List ℕ → Core
fetched_core s m t = after_outcome (core_of s) (fetch_ring s t) (fetch_outcome s m t)

abbrev pub fetched_tables : State → List ℕ → List ℕ → List ℕ
fetched_tables s m t = marked t (length m) (rights_of (core_of s)) (fetch_of (core_of s))

-- the instruction that it fetches from a place, or that an EXR brings in
abbrev pub fetched_instruction : State → List ℕ → List ℕ → Place → Instruction
fetched_instruction s m t p = instruction_of (core_of s) (word_at m (fetched_tables s m t) p)

-- the step executes the privileged instruction o: the machine is not stopped and no change of level is due, the fetch
-- passes, o is fetched or brought in by an EXR, and the ring that the fetch leaves permits it
pub record Executes (o : System) (s : State) (m t : List ℕ) : Type 0 where
  pub place : Place
  pub runs : is_stopped s ≡ false
  pub level_stays : change_due s ≡ false
  pub passed : fetch_outcome s m t ≡ Ok place
  pub code : fetched_instruction s m t place ≡ Privileged o
  pub permitted : privileged (fetched_core s m t) ≡ true

-- ---- Document 02, card 3: "PGS shall keep the first fault until TRA PGS is executed, and only then take another."

-- the step executes TRA PGS
abbrev pub ReadsPgs : State → List ℕ → List ℕ → Type 0
ReadsPgs = Executes (ControlOf (Tra Pgs))

-- PGS and whether it is held are in q as they are in k
abbrev pub SameStatus : Control → Control → Type 0
SameStatus k q = (q.pgs ≡ k.pgs) × (q.held ≡ k.held)

-- ruling 41: where PGS is not held, a 2 or 3 of status g writes it whole and holds it ..
abbrev pub FirstFaultHeld : Type 0
FirstFaultHeld =
    (k : Control) (g : ℕ) → k.held ≡ 0
    → (with_pgs k (Some (Protection g)) ≡ with_paging_status k g 1)
    × (with_pgs k (Some (PageFault g)) ≡ with_paging_status k g 1)

-- .. and while it is held, an access changes neither, whether it fails or passes
abbrev pub HeldFaultStays : Type 0
HeldFaultStays = (k : Control) (x : Option Fault) → k.held ≡ 1 → with_pgs k x ≡ k

-- no step but one that executes TRA PGS changes a held PGS or word 26, whatever else it does
abbrev pub HeldStatusStays : Type 0
HeldStatusStays =
    (s : State) (m t : List ℕ) → s.added.held ≡ 1 → (ReadsPgs s m t → ⊥)
    → SameStatus (control_of s) (control_of (step s m t).state)

-- held or not, nothing but interrupts 2 and 3 and TRA PGS changes either
abbrev pub StatusStays : Type 0
StatusStays =
    (s : State) (m t : List ℕ) → ((step s m t).gave ≡ 2 → ⊥) → ((step s m t).gave ≡ 3 → ⊥) → (ReadsPgs s m t → ⊥)
    → SameStatus (control_of s) (control_of (step s m t).state)

-- ruling 42: TRA PGS gives A the word PGS, and releases PGS, which keeps its value; it changes no other of the control
-- words 1 to 9, 26 and 27
abbrev pub ReadingReleases : Type 0
ReadingReleases =
    (s : State) (m t : List ℕ) → ReadsPgs s m t
    → control_of (step s m t).state ≡ with_paging_status (control_of s) s.control.pgs 0

abbrev pub ReadingGives : Type 0
ReadingGives =
    (s : State) (m t : List ℕ) → s.level < level_count → length s.regs ≡ register_words → ReadsPgs s m t
    → register_at (step s m t).state s.level A ≡ s.control.pgs

-- the machine after j steps
abbrev pub stepped : ℕ → State → List ℕ → List ℕ → Turn
stepped zero s m t = turn s 0 m t
stepped (suc j) s m t = let r = step s m t in stepped j r.state r.memory r.tables

-- through a run of either form, none of whose steps executes TRA PGS, a held PGS stays held and keeps its value
abbrev pub HeldThroughRun : Type 0
HeldThroughRun =
    (first : Bool) (n : ℕ) (s : State) (m t : List ℕ) → s.added.held ≡ 1
    → ((j : ℕ) → j < (run_from first n 0 s m t).steps
    → let r = stepped j s m t in ReadsPgs r.state r.memory r.tables → ⊥)
    → SameStatus (control_of s) (control_of (run_from first n 0 s m t).state)

-- ---- Document 02, card 4: "Add SEX and REX, the extended flag (control word 27, ..)"

-- ruling R6: no step but one that executes SEX or REX changes the flag, whatever else it does
abbrev pub ExtendedStays : Type 0
ExtendedStays =
    (s : State) (m t : List ℕ) → (Executes (ControlOf Sex) s m t → ⊥) → (Executes (ControlOf Rex) s m t → ⊥)
    → (step s m t).state.added.extended ≡ s.added.extended

-- with paging on, a step on ring 0 or 1 cannot change it; ruling R12: nor can a run to the first interrupt
abbrev pub LowRingKeepsExtended : Type 0
LowRingKeepsExtended =
    (s : State) (m t : List ℕ) → s.control.paging ≡ 1 → ring_of (start_pcr s) ≤ 1
    → (step s m t).state.added.extended ≡ s.added.extended

abbrev pub LowRingRunKeepsExtended : Type 0
LowRingRunKeepsExtended =
    (n : ℕ) (s : State) (m t : List ℕ) → s.control.paging ≡ 1 → ring_of (start_pcr s) ≤ 1
    → (run_from true n 0 s m t).state.added.extended ≡ s.added.extended

-- what a step leaves that sets the flag to x and does nothing else: no interrupt is given; memory, the page tables but
-- for the fetch's mark, the registers but for the running level's P, the PCRs but for a ring that the fetch lowered,
-- and all other control words are as they were
pub record SetsFlagAlone (x : ℕ) (s : State) (m t : List ℕ) (r : Turn) : Type 0 where
  pub gave : r.gave ≡ 0
  pub memory : r.memory ≡ m
  pub tables : r.tables ≡ fetched_tables s m t
  pub registers : r.state.regs ≡ set s.regs (place_of s.level P) (sum (register_at s s.level P) 1)
  pub pcrs : r.state.pcr ≡ set s.pcr s.level (fetched_core s m t).pcr
  pub level : r.state.level ≡ s.level
  pub control : control_of r.state ≡ with_extended (control_of s) x

-- SEX sets it to 1, REX to 0
abbrev pub SwitchSets : ControlOp → ℕ → Type 0
SwitchSets o x =
    (s : State) (m t : List ℕ) → s.level < level_count → length s.regs ≡ register_words
    → Executes (ControlOf o) s m t → SetsFlagAlone x s m t (step s m t)

abbrev pub SexSetsRexClears : Type 0
SexSetsRexClears = SwitchSets Sex 1 × SwitchSets Rex 0

-- ---- Document 02, card 4: "The seven go by physical address, no carry dropped, paging on or off, page tables included
-- ---- where the mode has them; past the memory they give 9."

-- so with paging off, where addresses are physical, each access goes where the seven go by its address
abbrev pub PhysicalByAddress : Type 0
PhysicalByAddress =
    (t : List ℕ) (words : ℕ) (r : Rights) (k : AccessKind) (alternate : Bool) (a : ℕ) → r.paging ≡ false
    → a < word_range
    → translate t words r (access k alternate a) ≡ physical_place r.extended words k a

-- ---- Document 02, card 1: "Fit the two devices .. so that IOX, IOXT and IDENT reach them"

-- no step but one that executes IOX, IOXT or IDENT changes the devices, whatever else it does
abbrev pub DevicesStay : Type 0
DevicesStay =
    (s : State) (m t : List ℕ) → ((n : ℕ) → Executes (Iox n) s m t → ⊥) → (Executes Ioxt s m t → ⊥)
    → ((n : ℕ) → Executes (Ident n) s m t → ⊥)
    → (step s m t).state.devices ≡ s.devices

-- nor does one that gives an interrupt, so none that gives 7
abbrev pub InterruptKeepsDevices : Type 0
InterruptKeepsDevices =
    (s : State) (m t : List ℕ) → ((step s m t).gave ≡ 0 → ⊥) → (step s m t).state.devices ≡ s.devices

-- with paging on, a step on ring 0 or 1 cannot change them, nor can a run to the first interrupt
abbrev pub LowRingKeepsDevices : Type 0
LowRingKeepsDevices =
    (s : State) (m t : List ℕ) → s.control.paging ≡ 1 → ring_of (start_pcr s) ≤ 1
    → (step s m t).state.devices ≡ s.devices

abbrev pub LowRingRunKeepsDevices : Type 0
LowRingRunKeepsDevices =
    (s : State) (m t : List ℕ) (n : ℕ) → s.control.paging ≡ 1 → ring_of (start_pcr s) ≤ 1
    → (run_from true n 0 s m t).state.devices ≡ s.devices

-- ---- "output is ready exactly while none waits"

-- what IOX 306 gives A has bit 3, ready for transfer, exactly if no character waits
abbrev pub ReadyWhileNoneWaits : Type 0
ReadyWhileNoneWaits =
    (s : State) (m t : List ℕ) → s.level < level_count → length s.regs ≡ register_words
    → Executes (Iox 0o306) s m t
    → bit 3 (register_at (step s m t).state s.level A) ≡ flag_of (eqb s.devices.output.waits 0)

-- ---- "interrupt 7 stays .. for an IDENT that no device answers"

-- rulings 34 and 35: an IDENT that is answered gives A the code 1, clears the flip-flop and leaves PID
pub record Identified (n : ℕ) (s : State) (r : Turn) : Type 0 where
  pub code : register_at r.state s.level A ≡ ident_code
  pub flip_flop_law : flip_flop r.state.devices (line_of n) ≡ 0
  pub pid : r.state.control.pid ≡ s.control.pid

abbrev pub IdentAnswered : Type 0
IdentAnswered =
    (n : ℕ) (s : State) (m t : List ℕ) → s.level < level_count → length s.regs ≡ register_words
    → Executes (Ident n) s m t → (step s m t).gave ≡ 0
    → Identified n s (step s m t)

-- one whose device does not ask, or that names none, gives 7 and leaves A
abbrev pub IdentUnanswered : Type 0
IdentUnanswered =
    (n : ℕ) (s : State) (m t : List ℕ) → s.level < level_count → length s.regs ≡ register_words
    → Executes (Ident n) s m t → (flip_flop s.devices (line_of n) ≡ 1 → ⊥)
    → ((step s m t).gave ≡ 7) × (register_at (step s m t).state s.level A ≡ register_at s s.level A)

-- so a second one at once gives 7, whatever the first gave
abbrev pub SecondIdent : Type 0
SecondIdent =
    (n : ℕ) (s : State) (m t : List ℕ) → Executes (Ident n) s m t
    → let r = step s m t in Executes (Ident n) r.state r.memory r.tables
    → (step r.state r.memory r.tables).gave ≡ 7

-- ---- "the character sent last is read out between steps, once, and else the answer is none"

-- after a read out that is not refused, another answers none and changes nothing
abbrev pub ReadOutOnce : Type 0
ReadOutOnce =
    (s : State) (m t : List ℕ) → Typed s → sizes_fit m t ≡ true → in_range s ≡ true
    → let r = read_out_call s m t in read_out_call r.state m t ≡ record { answer = Ok None; state = r.state }

-- ---- "gives them the same raises, ticks and typed characters and has sent ones read out at the same steps in the same
-- ---- order (all this is the device input)"

-- An input handed in within a run is answered as the operation of its name, of a read out the character or 256.
pub record InputsAnswered (s : State) (m t : List ℕ) : Type 0 where
  pub raise : (l : ℕ) → input_call (Raise l) s ≡ input_done (raise_call s l m t)
  pub tick : input_call Tick s ≡ input_done (tick_call s m t)
  pub typed : (w : ℕ) → input_call (TypedCharacter w) s ≡ input_done (type_call s w m t)
  pub read_out : input_call ReadOut s
      ≡ (let r = read_out_call s m t in record { told = character_sent_of r.answer; state = r.state })

-- .. for sizes that fit and a state in range, as they are wherever a run from such a machine comes
abbrev pub InputAsOperation : Type 0
InputAsOperation = (s : State) (m t : List ℕ) → sizes_fit m t ≡ true → in_range s ≡ true → InputsAnswered s m t

abbrev pub InputWithinRun : Type 0
InputWithinRun =
    (n k : ℕ) (s : State) (m t : List ℕ) → Sound s m t → sizes_fit m t ≡ true
    → let r = run_from true n k s m t in InputsAnswered r.state r.memory r.tables

-- a run with no input is run to the first interrupt
abbrev pub NoInputRun : Type 0
NoInputRun =
    (n : ℕ) (s : State) (m t : List ℕ)
    → let r = run_call true n s m t in
    input_run_call n [] s m t
    ≡ record { answer = r.answer; told = []; state = r.state; memory = r.memory; tables = r.tables }

-- so that a run may stop at an input's step and go on from there: a run of a + b steps, of either form, is the run of
-- a and, if that is spent, of b from what it left; its references are then the sum of those of both, modulo 2^64
abbrev pub RunInTwo : Type 0
RunInTwo =
    (first : Bool) (a b k : ℕ) (s : State) (m t : List ℕ)
    → let r = run_from first a k s m t in
    let q = run_from first b r.steps r.state r.memory r.tables in
    run_from first (a + b) k s m t ≡ cond (is_spent r.reason) (counted_run r.references q) r

-- ---- Document 02, card 7: "run answers the sum (its low 64 bits)"

-- ruling 7.2: a step of a stopped machine makes no reference, nor does a change of level
abbrev pub NoneWithoutFetch : Type 0
NoneWithoutFetch = (s : State) (m t : List ℕ) → (is_stopped s || change_due s) ≡ true → (step s m t).references ≡ 0

-- ruling 7.4: a run of either form that takes no step answers 0
abbrev pub NoneWithoutStep : Type 0
NoneWithoutStep =
    (first : Bool) (n : ℕ) (s : State) (m t : List ℕ) → (run_from first n 0 s m t).steps ≡ 0
    → (run_from first n 0 s m t).references ≡ 0

-- ---- "View: .. It answers a part of the caller's memory or of the caller's page tables." "a refused view is empty"

-- v is the n words of l from `start` on
pub record PartAt (l : List ℕ) (start n : ℕ) (v : List ℕ) : Type 0 where
  pub within : start + n ≤ length l
  pub count : length v ≡ n
  pub words : (i : ℕ) → i < n → get_or v i 0 ≡ get_or l (start + i) 0

abbrev pub ViewIsPart : Type 0
ViewIsPart =
    (k : Target) (start n : ℕ) (m t : List ℕ) → view_answer k start n m t ≡ Ok tt
    → PartAt (target_of k m t) start n (viewed k start n m t)

abbrev pub RefusedViewEmpty : Type 0
RefusedViewEmpty =
    (k : Target) (start n : ℕ) (m t : List ℕ) (x : Refusal) → view_answer k start n m t ≡ Err x
    → viewed k start n m t ≡ []

-- ---- "Where the answer is an enum, there is a definition that gives this paper's number and values for each of its
-- ---- cases. The promises use it."

-- number and values determine the answer, so that a promise of them is one of the answer
pub record NumbersDecide : Type 0 where
  pub refusal : (x y : Refusal) → refusal_number x ≡ refusal_number y → x ≡ y
  pub reason : (v w : Reason) → reason_number v ≡ reason_number w → v ≡ w
  pub answer : (a b : Answer) → answer_numbers a ≡ answer_numbers b → a ≡ b
  pub step : (a b : StepAnswer) → step_numbers a ≡ step_numbers b → a ≡ b
  pub run : (a b : RunAnswer) → run_numbers a ≡ run_numbers b → a ≡ b
  pub sent : (a b : SentAnswer) → sent_numbers a ≡ sent_numbers b → a ≡ b

-- each operation answers with the number and values that its tests, in their order, give
pub record CallsTell : Type 0 where
  pub step : (s : State) (m t : List ℕ) → step_numbers (step_call s m t).answer ≡ step_told s m t
  pub run : (first : Bool) (n : ℕ) (s : State) (m t : List ℕ)
      → run_numbers (run_call first n s m t).answer ≡ run_told first n s m t
  pub raise : (s : State) (l : ℕ) (m t : List ℕ) → answer_numbers (raise_call s l m t).answer ≡ raise_told s l m t
  pub tick : (s : State) (m t : List ℕ) → answer_numbers (tick_call s m t).answer ≡ tick_told s m t
  pub typed : (s : State) (w : ℕ) (m t : List ℕ) → answer_numbers (type_call s w m t).answer ≡ type_told s m t
  pub read_out : (s : State) (m t : List ℕ) → sent_numbers (read_out_call s m t).answer ≡ read_out_told s m t
  pub input_run : (n : ℕ) (gs : List Given) (s : State) (m t : List ℕ)
      → run_numbers (input_run_call n gs s m t).answer ≡ input_run_told n gs s m t
  pub load : (s : State) (i m t : List ℕ) → answer_numbers (load_call s i m t).answer ≡ load_told i m t
  pub write : (s : State) (m t out : List ℕ) → answer_numbers (write_answer s m t out) ≡ write_told s m t out
  pub view : (k : Target) (start n : ℕ) (m t : List ℕ)
      → answer_numbers (view_answer k start n m t) ≡ view_told k start n m t
