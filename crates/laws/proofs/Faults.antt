-- A step that faults stores nothing and changes no register but P.
-- Assumes nothing.
use Rattle.isa.specs.Machine.{level_count, register_words}
use Prim.Native.Nat.{ℕ, ◌<◌}
use mathlib.Core.Path.{◌≡◌, refl, sym, ap, subst, ◌∙◌}
use mathlib.Core.Bool.{Bool, true, false, cond}
use Rattle.std.specs.Prelude.{Option, Some, None}
use mathlib.Core.List.{List}
use lib.ListN.{get_or, set, length, length-set}
use lib.Seq.{set-get_or}
use lib.Dec.{ltb, eqb}
use Rattle.isa.specs.Machine.{reg, next, next_core, file_at, put_file, core_of, with_core}
use Rattle.isa.specs.Address.{sum}
use Rattle.isa.specs.Instructions.{indirect_request, request, complete, Completed}
use Rattle.isa.specs.Pages.{first_word, translate, marked, test_all, Tested, passes, word_at, words_at, rights_of}
use Rattle.isa.specs.Physical.{transfer_address, transfer_kind, word_addresses, test_physical}
use Rattle.isa.specs.Isolation.{start_form}
use Rattle.isa.specs.Step.{Part, Turn, faulted, failed, trapped, finished, operands_tested, operands, indirect_tested}
use Rattle.isa.specs.Step.{user_stage, physical_address, examined, deposited, transfer_stage, system_stage, privileged}
use Rattle.isa.specs.Step.{instruction_stage, instruction_of, after_fetch, fetched, fetch_of, step_in, place_of, register_at}
use Rattle.isa.specs.Step.{block_request, block_failed, block_stored, block_loaded, block_tested, far_stage, settled}
use Rattle.isa.specs.Step.{device_stage, ident_stage, is_stopped, change_due, step}
use Rattle.isa.specs.InputOutput.{register_of, line_of, flip_flop}
use Rattle.isa.specs.declared.machine.Control.{Control}
use Rattle.isa.specs.declared.machine.Core.{Core}
use Rattle.isa.specs.declared.machine.File.{File}
use Rattle.isa.specs.declared.machine.State.{State}
use Rattle.isa.specs.declared.machine.Register.TheVariants.{P, T}
use Rattle.isa.specs.declared.device.DeviceRegister.{DeviceRegister}
use Rattle.isa.specs.declared.device.Line.{Line}
use Rattle.isa.specs.declared.instruction.User.{User}
use Rattle.isa.specs.declared.instruction.System.{System}
use Rattle.isa.specs.declared.instruction.System.TheVariants.{Control as ControlOf, TraPgc, TrrPcr, Irr, Irw, Srb, Lrb}
use Rattle.isa.specs.declared.instruction.System.TheVariants.{Exam, Depo, Physical, Iox, Ioxt, Ident}
use Rattle.isa.specs.declared.instruction.Transfer.{Transfer}
use Rattle.isa.specs.declared.instruction.Instruction.{Instruction}
use Rattle.isa.specs.declared.instruction.Instruction.TheVariants.{Unprivileged, Privileged, Execute, Monitor, Illegal}
use Rattle.isa.specs.declared.access.Access.{Access}
use Rattle.isa.specs.declared.access.AccessKind.{AccessKind}
use Rattle.isa.specs.declared.access.AccessKind.TheVariants.{Read, Write}
use Rattle.std.specs.declared.option.Option.{Option}
use Rattle.std.specs.declared.option.Option.TheVariants.{None, Some}
use Rattle.std.specs.declared.result.Result.{Result}
use Rattle.std.specs.declared.result.Result.TheVariants.{Ok, Err}
use Rattle.isa.specs.declared.access.Place.{Place}
use Rattle.isa.specs.declared.access.Fault.{Fault}
use Rattle.isa.specs.declared.access.Fault.TheVariants.{OutOfRange}
use Rattle.isa.specs.declared.answer.Far.{Far}
use Rattle.isa.specs.declared.answer.Far.TheVariants.{Call, ReadRegister, WriteRegister, ReadPcr, WritePcr}
use Rattle.isa.specs.declared.answer.Far.TheVariants.{StoreBlock, LoadBlock}
use Rattle.isa.proofs.Tests.{by_fault, either, no_both}
use Rattle.isa.proofs.Marks.{Marked, same_entry, mark_keeps}
use Rattle.isa.proofs.Packing.{put_take}
use Rattle.isa.proofs.Tables.{Lasting, marked_keeps, tested_keeps}
use Rattle.laws.specs.Statement.{is_fault, fetch_outcome, fault_p, LeavesAllButP, FaultLeavesAllButP}
use Rattle.laws.proofs.Fetch.{after_fetch_file, after_fetch_control}
use Rattle.laws.proofs.Registers.{put_next}

-- 5, or no interrupt, is no fault
no_fault : {A : Type 0} (b : Bool) → is_fault (cond b 5 0) ≡ true → A
no_fault true e = absurd (no_both e)
no_fault false e = absurd (no_both e)

-- the running level's registers where it faults: P is one further where the fetch passed
abbrev fault_file : File → Bool → File
fault_file f b = cond b (next f) f

-- K is what marks keep of the tables, whose form the extended flag tells
module _ (K : List ℕ → Type 0) (flag : ℕ) (mark : Lasting (eqb flag 1) K) where
  abbrev SameForm : Core → Type 0
  SameForm c = c.control.extended ≡ flag

  -- .. so do the tests of the running level's accesses
  tested_marks : (xs : List Access) (t : List ℕ) (words : ℕ) (c : Core) → SameForm c → K t
      → K (test_all t words (rights_of c) xs).tables
  tested_marks xs t words c q =
      tested_keeps K (rights_of c) (subst (λ (n : ℕ). Lasting (eqb n 1) K) (sym q) mark) xs t words

  -- ---- a stage

  -- what a stage left, the core c, memory n and tables t: the file f, memory m, and of the tables what marks keep
  record Left (f : File) (m : List ℕ) (c : Core) (n t : List ℕ) : Type 0 where
    file : c.file ≡ f
    memory : n ≡ m
    tables : K t

  -- what it leaves where it faults, or leaves a block, which may fault yet; whatever else is left to be done goes with
  -- no fault; g is the interrupt given
  abbrev LeftBy : File → List ℕ → Core → ℕ → List ℕ → List ℕ → Option Far → Type 0
  LeftBy f m c g n t None = is_fault g ≡ true → Left f m c n t
  LeftBy f m c g n t (Some (Call w)) = is_fault g ≡ false
  LeftBy f m c g n t (Some (ReadRegister l x)) = is_fault g ≡ false
  LeftBy f m c g n t (Some (WriteRegister l x)) = is_fault g ≡ false
  LeftBy f m c g n t (Some ReadPcr) = is_fault g ≡ false
  LeftBy f m c g n t (Some WritePcr) = is_fault g ≡ false
  LeftBy f m c g n t (Some (StoreBlock l)) = Left f m c n t × SameForm c
  LeftBy f m c g n t (Some (LoadBlock l)) = Left f m c n t × SameForm c

  abbrev Leaves : File → List ℕ → Part → Type 0
  Leaves f m r = LeftBy f m r.near.core r.near.gave r.memory r.tables r.near.far

  module _ (m : List ℕ) where
    -- a fault by an access, and one that is not
    failed_leaves : (c : Core) (x : Fault) (t : List ℕ) → K t → Leaves c.file m (failed c (Some x) m t)
    unfolding faulted
    failed_leaves c x t h e = record { file = refl; memory = refl; tables = h }

    trapped_leaves : (n : ℕ) (c : Core) (t : List ℕ) → K t → Leaves c.file m (trapped n c m t)
    trapped_leaves n c t h e = record { file = refl; memory = refl; tables = h }

    -- ---- an unprivileged instruction: it completes without a fault, or an access failed

    finished_leaves : (c : Core) (t : List ℕ) (xs : List Place) (d : Completed) (f : File)
        → Leaves f m (finished c m t xs d)
    unfolding finished
    finished_leaves c t xs d f e = no_fault d.error e

    operands_tested_leaves : (c : Core) (u : User) (i : ℕ) (r : Tested) → K r.tables
        → Leaves (next c.file) m (operands_tested c m u i r)
    unfolding operands_tested
    operands_tested_leaves c u i r h =
        let d : Completed = complete u c.file i (words_at m r.tables r.places) in
        by_fault (Leaves (next c.file) m) r.fault
        (finished_leaves c r.tables r.places d (next c.file))
        (λ x. failed_leaves (next_core c) x r.tables h)

    operands_leaves : (c : Core) (t : List ℕ) (u : User) (i : ℕ) → SameForm c → K t
        → Leaves (next c.file) m (operands c m t u i)
    unfolding operands
    operands_leaves c t u i q h =
        let xs = request u c.file i in
        operands_tested_leaves c u i (test_all t (length m) (rights_of c) xs) (tested_marks xs t (length m) c q h)

    indirect_tested_leaves : (c : Core) (u : User) (r : Tested) → SameForm c → K r.tables
        → Leaves (next c.file) m (indirect_tested c m u r)
    unfolding indirect_tested
    indirect_tested_leaves c u r q h =
        by_fault (Leaves (next c.file) m) r.fault
        (operands_leaves c r.tables u (get_or (words_at m r.tables r.places) 0 0) q h)
        (λ x. failed_leaves (next_core c) x r.tables h)

    user_leaves : (c : Core) (t : List ℕ) (u : User) → SameForm c → K t → Leaves (next c.file) m (user_stage c m t u)
    unfolding user_stage
    user_leaves c t u q h =
        let xs = indirect_request u c.file in
        indirect_tested_leaves c u (test_all t (length m) (rights_of c) xs) q (tested_marks xs t (length m) c q h)

    -- ---- a privileged instruction, on the core c with P one further

    examined_leaves : (c : Core) (t : List ℕ) → K t → Leaves c.file m (examined c m t)
    unfolding examined
    examined_leaves c t h =
        either (Leaves c.file m) (ltb (physical_address c.file) (length m)) (no_fault false)
        (failed_leaves c OutOfRange t h)

    deposited_leaves : (c : Core) (t : List ℕ) → K t → Leaves c.file m (deposited c m t)
    unfolding deposited
    deposited_leaves c t h =
        either (Leaves c.file m) (ltb (physical_address c.file) (length m)) (no_fault false)
        (failed_leaves c OutOfRange t h)

    transfer_leaves : (c : Core) (t : List ℕ) (o : Transfer) (d : ℕ) → K t
        → Leaves c.file m (transfer_stage c m t o d)
    unfolding transfer_stage
    transfer_leaves c t o d h =
        let form : Bool = eqb c.control.extended 1 in
        let p : ℕ = transfer_address c.file d in
        let r = test_physical t form (length m) (transfer_kind o) (word_addresses o p) in
        by_fault (Leaves c.file m) r.fault (no_fault false) (λ x. failed_leaves c x t h)

    device_leaves : (c : Core) (t : List ℕ) (r : Option DeviceRegister) → K t → Leaves c.file m (device_stage c m t r)
    unfolding device_stage
    device_leaves c t (Some r) h = no_fault false
    device_leaves c t None h = trapped_leaves 7 c t h

    ident_leaves : (c : Core) (t : List ℕ) (i : Option Line) → K t → Leaves c.file m (ident_stage c m t i)
    unfolding ident_stage
    ident_leaves c t i h =
        either (Leaves c.file m) (eqb (flip_flop c.control.devices i) 1) (no_fault false)
        (trapped_leaves 7 c t h)

    system_leaves : (l : ℕ) (c : Core) (t : List ℕ) (o : System) → SameForm c → K t
        → Leaves c.file m (system_stage l c m t o)
    system_leaves l c t (ControlOf o) q h = no_fault false
    system_leaves l c t TraPgc q h = refl
    system_leaves l c t TrrPcr q h = refl
    system_leaves l c t (Irr n r) q h = refl
    system_leaves l c t (Irw n r) q h = refl
    system_leaves l c t (Srb n) q h = (record { file = refl; memory = refl; tables = h }, q)
    system_leaves l c t (Lrb n) q h = (record { file = refl; memory = refl; tables = h }, q)
    system_leaves l c t Exam q h = examined_leaves c t h
    system_leaves l c t Depo q h = deposited_leaves c t h
    system_leaves l c t (Physical o d) q h = transfer_leaves c t o d h
    system_leaves l c t (Iox n) q h = device_leaves c t (register_of n) h
    system_leaves l c t Ioxt q h = device_leaves c t (register_of (reg c.file T)) h
    system_leaves l c t (Ident n) q h = ident_leaves c t (line_of n) h

    -- ---- fetch and execute

    instruction_leaves : (l : ℕ) (c : Core) (t : List ℕ) (i : Instruction) → SameForm c → K t
        → Leaves (next c.file) m (instruction_stage l c m t i)
    unfolding instruction_stage
    instruction_leaves l c t (Unprivileged u) q h = user_leaves c t u q h
    instruction_leaves l c t (Privileged o) q h =
        either (Leaves (next c.file) m) (privileged c) (system_leaves l (next_core c) t o q h)
        (trapped_leaves 6 (next_core c) t h)
    instruction_leaves l c t (Execute s) q h = trapped_leaves 4 (next_core c) t h
    instruction_leaves l c t (Monitor n) q h = refl
    instruction_leaves l c t Illegal q h = trapped_leaves 4 (next_core c) t h

    fetched_leaves : (l : ℕ) (c : Core) (t : List ℕ) (ring : ℕ) (x : Result Place Fault) → SameForm c → K t
        → Leaves (fault_file c.file (passes x)) m (fetched l c m t ring x)
    unfolding fetched
    fetched_leaves l c t ring (Ok p) q h =
        let i = instruction_of c (word_at m t p) in
        let d = after_fetch c ring p in
        let form : SameForm d = ap (λ (k : Control). k.extended) (after_fetch_control c ring (Ok p)) ∙ q in
        subst (λ (f : File). Leaves (next f) m (instruction_stage l d m t i)) (after_fetch_file c ring (Ok p))
        (instruction_leaves l d t i form h)
    fetched_leaves l c t ring (Err f) q h = failed_leaves c f t h

  step_in_leaves : (l : ℕ) (c : Core) (m t : List ℕ) → SameForm c → K t
      → Leaves (fault_file c.file (passes (translate t (length m) (rights_of c) (fetch_of c)))) m (step_in l c m t)
  unfolding step_in
  step_in_leaves l c m t q h =
      let x = translate t (length m) (rights_of c) (fetch_of c) in
      let own = subst (λ (n : ℕ). Lasting (eqb n 1) K) (sym q) mark in
      fetched_leaves m l c (marked t (length m) (rights_of c) (fetch_of c)) _ x q
      (marked_keeps K (rights_of c) own t (length m) (fetch_of c) h)

  -- ---- the running level put back, and what is left done

  -- what a step left, all registers a, memory n and tables t: all registers b, memory m, and of the tables what marks
  -- keep
  record Kept (b m a n t : List ℕ) : Type 0 where
    regs : a ≡ b
    memory : n ≡ m
    tables : K t

  -- where it faults
  abbrev Keeps : List ℕ → List ℕ → Turn → Type 0
  Keeps b m r = is_fault r.gave ≡ true → Kept b m r.state.regs r.memory r.tables

  -- a block: an access failed, and the running level's words, taken out, are put back as they are; or there is no fault
  module _ (s : State) (m : List ℕ) (l : s.level < level_count) (n : length s.regs ≡ register_words) where
    block_keeps : (x : Fault) (t : List ℕ) → K t → Keeps s.regs m (block_failed s (Some x) m t)
    unfolding faulted
    block_keeps x t h e = record { regs = put_take s.regs s.level l n; memory = refl; tables = h }

    stored_keeps : (j : ℕ) (r : Tested) → K r.tables → Keeps s.regs m (block_stored s j m r)
    unfolding block_stored
    stored_keeps j r h =
        by_fault (Keeps s.regs m) r.fault (no_fault false) (λ x. block_keeps x r.tables h)

    loaded_keeps : (j : ℕ) (r : Tested) → K r.tables → Keeps s.regs m (block_loaded s j m r)
    unfolding block_loaded
    loaded_keeps j r h =
        by_fault (Keeps s.regs m) r.fault (no_fault false) (λ x. block_keeps x r.tables h)

  block_marks : (k : AccessKind) (s : State) (m t : List ℕ) → SameForm (core_of s) → K t
      → K (block_tested k s m t).tables
  block_marks k s m t = tested_marks (block_request k s) t (length m) (core_of s)

  -- the file f in the running level's place among all registers
  module _ (s : State) (f : File) (m : List ℕ) (l : s.level < level_count)
      (n : length (put_file s.regs s.level f) ≡ register_words) where
    abbrev all : List ℕ
    all = put_file s.regs s.level f

    settled_keeps : (r : Part) → Leaves f m r → Keeps all m (settled s r)
    unfolding settled far_stage
    settled_keeps r = go r.near.far
      where
        s' : State
        s' = with_core s r.near.core

        LeftHere : Type 0
        LeftHere = Left f m r.near.core r.memory r.tables

        regs_all : LeftHere → s'.regs ≡ all
        regs_all h = ap (put_file s.regs s.level) h.file

        -- what is kept of the stage's memory and registers is kept of those before it
        before : (q : Turn) → LeftHere → Keeps s'.regs r.memory q → Keeps all m q
        before q h k e =
            let x = k e in
            record { regs = x.regs ∙ regs_all h; memory = x.memory ∙ h.memory; tables = x.tables }

        go : (x : Option Far) → LeftBy f m r.near.core r.near.gave r.memory r.tables x
            → Keeps all m (far_stage s' r.near.gave r.memory r.tables x)
        go None h = λ e. let x = h e in record { regs = regs_all x; memory = x.memory; tables = x.tables }
        go (Some (Call w)) h = λ e. absurd (no_both (sym h ∙ e))
        go (Some (ReadRegister j x)) h = λ e. absurd (no_both (sym h ∙ e))
        go (Some (WriteRegister j x)) h = λ e. absurd (no_both (sym h ∙ e))
        go (Some ReadPcr) h = λ e. absurd (no_both (sym h ∙ e))
        go (Some WritePcr) h = λ e. absurd (no_both (sym h ∙ e))
        go (Some (StoreBlock j)) (h, q) =
            before (block_stored s' j r.memory (block_tested Write s' r.memory r.tables)) h
            (stored_keeps s' r.memory l (ap length (regs_all h) ∙ n) j _
            (block_marks Write s' r.memory r.tables q h.tables))
        go (Some (LoadBlock j)) (h, q) =
            before (block_loaded s' j r.memory (block_tested Read s' r.memory r.tables)) h
            (loaded_keeps s' r.memory l (ap length (regs_all h) ∙ n) j _
            (block_marks Read s' r.memory r.tables q h.tables))

-- ---- one step

-- the running level's registers put back, P one further or not, are all registers with P's word set
put_fault : (s : State) (b : Bool) → s.level < level_count → length s.regs ≡ register_words
    → put_file s.regs s.level (fault_file (file_at s.regs s.level) b)
    ≡ set s.regs (place_of s.level P) (cond b (sum (register_at s s.level P) 1) (register_at s s.level P))
put_fault s true l n = put_next s.regs s.level l n
put_fault s false l n = put_take s.regs s.level l n ∙ sym (set-get_or s.regs (place_of s.level P) 0)

-- what marks keep of the tables t: of each entry, and of each word as the entry of one word that it may be
record ButMarks (form : Bool) (t u : List ℕ) : Type 0 where
  entries : Marked form u t
  words : Marked false u t

but_marks : (form : Bool) (t : List ℕ) → Lasting form (ButMarks form t)
but_marks form t u i k h = record {
  entries = mark_keeps form t u i k h.entries;
  words = mark_keeps false t u (first_word form i) k h.words;
}

pub fault_leaves_all_but_p : FaultLeavesAllButP
unfolding step
fault_leaves_all_but_p s m t l n =
    either Claim (is_stopped s) (no_fault false)
    (either Claim (change_due s) (no_fault false)
    (λ e. let r = executed e in
    record {
      memory = r.memory;
      tables = r.tables.entries;
      words = r.tables.words;
      registers = r.regs ∙ put;
    }))
  where
    Claim : Turn → Type 0
    Claim r = is_fault r.gave ≡ true → LeavesAllButP s m t r

    f : File
    f = fault_file (file_at s.regs s.level) (passes (fetch_outcome s m t))

    put : put_file s.regs s.level f ≡ set s.regs (place_of s.level P) (fault_p s m t)
    put = put_fault s (passes (fetch_outcome s m t)) l n

    size : length (put_file s.regs s.level f) ≡ register_words
    size = ap length put ∙ length-set s.regs (place_of s.level P) (fault_p s m t) ∙ n

    Tables : List ℕ → Type 0
    Tables = ButMarks (start_form s) t

    mark : Lasting (start_form s) Tables
    mark = but_marks (start_form s) t

    same : Tables t
    same = record { entries = λ i. same_entry _; words = λ i. same_entry _ }

    executed : Keeps Tables s.added.extended mark (put_file s.regs s.level f) m
        (settled s (step_in s.level (core_of s) m t))
    executed =
        let x : ℕ = s.added.extended in
        settled_keeps Tables x mark s f m l size (step_in s.level (core_of s) m t)
        (step_in_leaves Tables x mark s.level (core_of s) m t refl same)
