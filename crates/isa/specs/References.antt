-- Document 02, card 7: the memory references of a step, in order, and of a run; what is proved of their number.
use Rattle.std.specs.Prelude.{◌≡◌, ℕ, zero, suc, ◌+◌, ◌-◌, ◌%◌, ◌≤◌, Bool, true, cond, not, ◌&&◌, ◌||◌, List, [], ◌∷◌, ◌++◌, length, ◌==◌, nat_lt, slice_index_or}
use Rattle.std.specs.declared.option.Option.{Option}
use Rattle.std.specs.declared.option.Option.TheVariants.{None, Some}
use Rattle.std.specs.declared.result.Result.{Result}
use Rattle.std.specs.declared.result.Result.TheVariants.{Ok, Err}
use Rattle.isa.specs.Machine.{reg, next_core, core_of, with_core}
use Rattle.isa.specs.Instructions.{indirect_request, request}
use Rattle.isa.specs.Pages.{slot_of, entry_at, translate, marked, test_all, after_test, passes, word_at, words_at}
use Rattle.isa.specs.Pages.{rights_of}
use Rattle.isa.specs.Physical.{transfer_address, transfer_kind, two_words, physical_place}
use Rattle.isa.specs.Step.{Part, physical_address, privileged, instruction_of, after_fetch, fetch_of, step_in}
use Rattle.isa.specs.Step.{block_request, change_due, is_stopped, step}
use Rattle.isa.specs.Run.{sum_range, run_from}
use Rattle.isa.specs.DeviceInput.{Given, input_call, is_spent, input_run_from}
use Rattle.isa.specs.declared.machine.Core.{Core}
use Rattle.isa.specs.declared.machine.File.{File}
use Rattle.isa.specs.declared.machine.State.{State}
use Rattle.isa.specs.declared.machine.Register.TheVariants.{P}
use Rattle.isa.specs.declared.instruction.User.{User}
use Rattle.isa.specs.declared.instruction.System.{System}
use Rattle.isa.specs.declared.instruction.System.TheVariants.{Control as ControlOf, TraPgc, TrrPcr, Irr, Irw}
use Rattle.isa.specs.declared.instruction.System.TheVariants.{Srb, Lrb, Exam, Depo, Physical, Iox, Ioxt, Ident}
use Rattle.isa.specs.declared.instruction.Transfer.{Transfer}
use Rattle.isa.specs.declared.instruction.Instruction.{Instruction}
use Rattle.isa.specs.declared.instruction.Instruction.TheVariants.{Unprivileged, Privileged, Execute, Monitor}
use Rattle.isa.specs.declared.instruction.Instruction.TheVariants.{Illegal}
use Rattle.isa.specs.declared.access.Access.{Access}
use Rattle.isa.specs.declared.access.AccessKind.{AccessKind}
use Rattle.isa.specs.declared.access.AccessKind.TheVariants.{Read, Write}
use Rattle.isa.specs.declared.access.Rights.{Rights}
use Rattle.isa.specs.declared.access.Place.{Place}
use Rattle.isa.specs.declared.access.Fault.{Fault}
use Rattle.isa.specs.declared.answer.Far.{Far}
use Rattle.isa.specs.declared.answer.Far.TheVariants.{Call, ReadRegister, WriteRegister, ReadPcr}
use Rattle.isa.specs.declared.answer.Far.TheVariants.{WritePcr, StoreBlock, LoadBlock}

-- ---- what a reference is

-- "A reference is a word fetched, an indirect word, an operand read or an operand written": these are the four kinds of
-- an access, by a virtual address or, of EXAM, DEPO and LDATX to STDTX, by a physical one.
pub data Reference : Type 0 where
  virtual_at : Access → Reference
  physical_at : AccessKind → ℕ → Reference

-- "tested accesses of a faulting instruction count up to and with the failing one": those of a list that are made, in
-- order. Ruling 7.1: each access once; lookups in the page tables and marks are none; a word in the window counts.
abbrev pub accesses_made : List ℕ → ℕ → Rights → List Access → List Reference
accesses_made t words r [] = []
accesses_made t words r (x ∷ xs) =
    virtual_at x ∷ cond (passes (translate t words r x)) (accesses_made (marked t words r x) words r xs) []

-- ---- of an instruction

-- the operands of an unprivileged one, with the indirect word i
unfoldable pub operand_references : Core → List ℕ → List ℕ → User → ℕ → List Reference
operand_references c m t u i = accesses_made t (length m) (rights_of c) (request u c.file i)

-- the indirect word, if there is one, and if its access passed the operands
unfoldable pub user_references : Core → List ℕ → List ℕ → User → List Reference
user_references c m t u =
    let xs = indirect_request u c.file in
    let r = test_all t (length m) (rights_of c) xs in
    let i = slice_index_or (words_at m r.tables r.places) 0 0 in
    accesses_made t (length m) (rights_of c) xs
    ++ after_test r.fault (operand_references c m r.tables u i) (λ x. [])

-- ruling 7.3: "Card 4's seven: 1, LDDTX and STDTX 2, beside the fetch; up to and with a failing one"
unfoldable pub transfer_references : Core → List ℕ → Transfer → ℕ → List Reference
transfer_references c m o d =
    let k = transfer_kind o in
    let p = transfer_address c.file d in
    let x = physical_place (c.control.extended == 1) (length m) k p in
    physical_at k p ∷ cond (passes x && two_words o) (physical_at k (p + 1) ∷ []) []

-- Ruling 7.2: EXAM and DEPO one, also past the memory; 7.3: "Device registers none". SRB and LRB leave theirs to be
-- made outside the level, below.
abbrev pub system_references : Core → List ℕ → System → List Reference
system_references c m (ControlOf o) = []
system_references c m TraPgc = []
system_references c m TrrPcr = []
system_references c m (Irr n r) = []
system_references c m (Irw n r) = []
system_references c m (Srb n) = []
system_references c m (Lrb n) = []
system_references c m Exam = physical_at Read (physical_address c.file) ∷ []
system_references c m Depo = physical_at Write (physical_address c.file) ∷ []
system_references c m (Physical o d) = transfer_references c m o d
system_references c m (Iox n) = []
system_references c m Ioxt = []
system_references c m (Ident n) = []

-- beside the fetch; ruling 7.2: illegal, refused (6) and MON none; EXR's word "comes from a register"
unfoldable pub instruction_references : Core → List ℕ → List ℕ → Instruction → List Reference
instruction_references c m t (Unprivileged u) = user_references c m t u
instruction_references c m t (Privileged q) = cond (privileged c) (system_references (next_core c) m q) []
instruction_references c m t (Execute s) = []
instruction_references c m t (Monitor n) = []
instruction_references c m t Illegal = []

-- ---- of a step

-- what the instruction adds, if the fetch passed
abbrev pub fetched_references : Core → List ℕ → List ℕ → ℕ → Result Place Fault → List Reference
fetched_references c m t ring (Ok p) =
    instruction_references (after_fetch c ring p) m t (instruction_of c (word_at m t p))
fetched_references c m t ring (Err x) = []

-- of the running level: the word fetched and, if that passed, what the instruction adds
unfoldable pub level_references : Core → List ℕ → List ℕ → List Reference
level_references c m t =
    let r = rights_of c in
    let ring = (entry_at r.extended t (slot_of r.normal (reg c.file P))).ring in
    let x = translate t (length m) r (fetch_of c) in
    virtual_at (fetch_of c) ∷ fetched_references c m (marked t (length m) r (fetch_of c)) ring x

-- of what the level left to be done: the words of a register block
abbrev pub far_references : State → List ℕ → List ℕ → Option Far → List Reference
far_references s m t None = []
far_references s m t (Some (Call w)) = []
far_references s m t (Some (ReadRegister l r)) = []
far_references s m t (Some (WriteRegister l r)) = []
far_references s m t (Some ReadPcr) = []
far_references s m t (Some WritePcr) = []
far_references s m t (Some (StoreBlock l)) =
    accesses_made t (length m) (rights_of (core_of s)) (block_request Write s)
far_references s m t (Some (LoadBlock l)) =
    accesses_made t (length m) (rights_of (core_of s)) (block_request Read s)

abbrev pub left_references : State → Part → List Reference
left_references s r = far_references (with_core s r.near.core) r.memory r.tables r.near.far

-- "the references that the definition of each step lists"; ruling 7.2: "A change of level and a step of a stopped
-- machine 0"
unfoldable pub references : State → List ℕ → List ℕ → List Reference
references s m t =
    cond (is_stopped s || change_due s) []
    (level_references (core_of s) m t ++ left_references s (step_in s.level (core_of s) m t))

-- ---- of a run: those of its steps, one after the other

abbrev pub run_references : Bool → ℕ → State → List ℕ → List ℕ → List Reference
run_references first zero s m t = []
run_references first (suc n) s m t =
    let r = step s m t in
    let on = run_references first n r.state r.memory r.tables in
    cond (is_stopped s || first && change_due s) []
    (references s m t ++ cond (first && not (r.gave == 0)) [] on)

-- .. with device input: up to the next input's step, and behind it if the input was handed in
abbrev pub input_run_references : ℕ → List Given → ℕ → State → List ℕ → List ℕ → List Reference
input_run_references n [] k s m t = run_references true (n - k) s m t
input_run_references n (g ∷ gs) k s m t =
    let r = run_from true (g.at - k) k s m t in
    let c = input_call g.input r.state in
    let on = input_run_references n gs r.steps c.state r.memory r.tables in
    cond (nat_lt n g.at) (run_references true (n - k) s m t)
    (run_references true (g.at - k) s m t ++ cond (is_spent r.reason) on [])

-- ---- what is proved (proofs/References.antt)

-- a step's number, which its parts pass up, is the length of its list
abbrev pub StepCounts : Type 0
StepCounts = (s : State) (m t : List ℕ) → (step s m t).references ≡ length (references s m t)

-- "run answers the sum (its low 64 bits)"
abbrev pub RunCounts : Type 0
RunCounts =
    (first : Bool) (n k : ℕ) (s : State) (m t : List ℕ)
    → (run_from first n k s m t).references ≡ length (run_references first n s m t) % sum_range

abbrev pub InputRunCounts : Type 0
InputRunCounts =
    (n : ℕ) (gs : List Given) (k : ℕ) (s : State) (m t : List ℕ)
    → (input_run_from n gs k s m t).run.references ≡ length (input_run_references n gs k s m t) % sum_range

-- "Finding an effective address shall also tell how many words it read (0 or 1)"
abbrev pub AddressReads : Type 0
AddressReads =
    (u : User) (f : File) (t : List ℕ) (words : ℕ) (r : Rights) → (test_all t words r (indirect_request u f)).made ≤ 1

-- "no step outside the block instructions has more than nine (a register block)". Block instructions are those of cards
-- 6 and 8 (ruling 7.5); none of them is built, so that this holds of every step.
abbrev pub most_references : ℕ
most_references = 9

abbrev pub NineAtMost : Type 0
NineAtMost = (s : State) (m t : List ℕ) → (step s m t).references ≤ most_references
