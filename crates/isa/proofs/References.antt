-- The number of references of a step and of a run is that of the references listed; no step has more than nine.
-- Assumes nothing.
use Rattle.std.proofs.Common.{◌≡◌, ℕ, zero, suc, ◌+◌, ◌-◌, ◌%◌, ◌≤◌, Bool, true, false, cond, not, ◌&&◌, eqb, ltb, List, [], ◌∷◌, ◌++◌, length, get_or, ℤ, sym, refl, ap, ◌∙◌, append-nil, le_trans, add-zero, arith, lit≤, length-append}
use native.Mathlib.Nat.{mod-add-mod, add-mod-mod}
use Rattle.std.specs.declared.option.Option.{Option}
use Rattle.std.specs.declared.option.Option.TheVariants.{None, Some}
use Rattle.std.specs.declared.result.Result.{Result}
use Rattle.std.specs.declared.result.Result.TheVariants.{Ok, Err}
use Rattle.isa.specs.Machine.{reg, next_core, core_of, with_core}
use Rattle.isa.specs.Instructions.{indirect_request, request, memory_request}
use Rattle.isa.specs.Address.{address_rule, indirect_access, effective_address}
use Rattle.isa.specs.Pages.{Tested, none_tested, tested_first, slot_of, entry_at, translate, marked, test_all, after_test, passes}
use Rattle.isa.specs.Pages.{word_at, words_at, rights_of}
use Rattle.isa.specs.Physical.{two_words, word_addresses, test_physical, transfer_kind, physical_place, transfer_address}
use Rattle.isa.specs.InputOutput.{register_of, flip_flop, line_of}
use Rattle.isa.specs.Step.{Part, Turn, counted, counted_turn, finished, operands_tested, operands, indirect_tested}
use Rattle.isa.specs.Step.{user_stage, physical_address, examined, deposited, transfer_stage, device_stage}
use Rattle.isa.specs.Step.{ident_stage, system_stage, privileged, instruction_stage, instruction_of, after_fetch}
use Rattle.isa.specs.Step.{fetched, fetch_of, step_in, block_request, block_stored, block_loaded, block_tested}
use Rattle.isa.specs.Step.{far_stage, settled, change_due, is_stopped, step}
use Rattle.isa.specs.Run.{Run, sum_range, run_from}
use Rattle.isa.specs.DeviceInput.{InputRun, input_call, is_spent, input_run_from}
use Rattle.isa.specs.References.{Reference, virtual_at, physical_at, accesses_made, operand_references, user_references}
use Rattle.isa.specs.References.{transfer_references, system_references, instruction_references, level_references}
use Rattle.isa.specs.References.{fetched_references, far_references, left_references, references, run_references, input_run_references}
use Rattle.isa.specs.References.{StepCounts, RunCounts, InputRunCounts, AddressReads, most_references}
use Rattle.isa.specs.References.{NineAtMost}
use Rattle.isa.specs.declared.device.DeviceRegister.{DeviceRegister}
use Rattle.isa.specs.declared.machine.Core.{Core}
use Rattle.isa.specs.declared.machine.File.{File}
use Rattle.isa.specs.declared.machine.State.{State}
use Rattle.isa.specs.declared.machine.Register.TheVariants.{P, T}
use Rattle.isa.specs.declared.instruction.Mode.{Mode}
use Rattle.isa.specs.declared.instruction.Mode.TheVariants as modes
use Rattle.isa.specs.declared.instruction.MemoryOp.{MemoryOp}
use Rattle.isa.specs.declared.instruction.MemoryOp.TheVariants as ops
use Rattle.isa.specs.declared.instruction.User.{User}
use Rattle.isa.specs.declared.instruction.User.TheVariants as users
use Rattle.isa.specs.declared.instruction.System.{System}
use Rattle.isa.specs.declared.instruction.System.TheVariants as systems
use Rattle.isa.specs.declared.instruction.Transfer.{Transfer}
use Rattle.isa.specs.declared.instruction.Instruction.{Instruction}
use Rattle.isa.specs.declared.instruction.Instruction.TheVariants as instructions
use Rattle.isa.specs.declared.access.Access.{Access}
use Rattle.isa.specs.declared.access.AccessKind.{AccessKind}
use Rattle.isa.specs.declared.access.AccessKind.TheVariants.{Read, Write}
use Rattle.isa.specs.declared.access.Rights.{Rights}
use Rattle.isa.specs.declared.access.Place.{Place}
use Rattle.isa.specs.declared.access.Fault.{Fault}
use Rattle.isa.specs.declared.answer.Far.{Far}
use Rattle.isa.specs.declared.answer.Far.TheVariants as fars
use Rattle.isa.proofs.Tests.{either, by_fault, alike, alike_by_fault, alike_twice}
use Rattle.isa.proofs.Counts.{first_most, made_most}

-- ---- the number that a step passes up is the length of its list

first_length : (t : List ℕ) (y : Result Place Fault) (q : Tested) (xs : List Reference) → q.made ≡ length xs
    → (tested_first t y q).made ≡ suc (length (cond (passes y) xs []))
first_length t (Ok p) q xs h = ap suc h
first_length t (Err f) q xs h = refl

made_length : (t : List ℕ) (words : ℕ) (r : Rights) (xs : List Access)
    → (test_all t words r xs).made ≡ length (accesses_made t words r xs)
made_length t words r [] = refl
made_length t words r (x ∷ xs) =
    first_length t (translate t words r x) _ _ (made_length (marked t words r x) words r xs)

-- references of two lists, one after the other; and those of one, with none after them
both_counted : (xs ys : List Reference) {n k : ℕ} → n ≡ length xs → k ≡ length ys → n + k ≡ length (xs ++ ys)
both_counted xs ys h j = (λ i. h i + j i) ∙ sym (length-append xs ys)

alone_counted : {n k l : ℕ} → n ≡ l → k ≡ 0 → n + k ≡ l
alone_counted {l} h j = (λ i. h i + j i) ∙ add-zero l

-- a part with the references listed; one with none
abbrev Counts : Part → List Reference → Type 0
Counts p xs = p.near.references ≡ length xs

abbrev Uncounted : Part → Type 0
Uncounted p = p.near.references ≡ 0

operands_counted : (c : Core) (m t : List ℕ) (u : User) (i : ℕ)
    → Counts (operands c m t u i) (operand_references c m t u i)
unfolding operands operands_tested operand_references finished
operands_counted c m t u i =
    let xs = request u c.file i in
    let r = test_all t (length m) (rights_of c) xs in
    alone_counted (made_length t (length m) (rights_of c) xs) (by_fault Uncounted r.fault refl (λ f. refl))

user_counted : (c : Core) (m t : List ℕ) (u : User) → Counts (user_stage c m t u) (user_references c m t u)
unfolding user_stage indirect_tested user_references
user_counted c m t u =
    let xs = indirect_request u c.file in
    let r = test_all t (length m) (rights_of c) xs in
    let i = get_or (words_at m r.tables r.places) 0 0 in
    both_counted (accesses_made t (length m) (rights_of c) xs)
    (after_test r.fault (operand_references c m r.tables u i) (λ f. []))
    (made_length t (length m) (rights_of c) xs)
    (alike_by_fault Counts r.fault (operands_counted c m r.tables u i) (λ f. refl))

transfer_counted : (c : Core) (m t : List ℕ) (o : Transfer) (d : ℕ)
    → Counts (transfer_stage c m t o d) (transfer_references c m o d)
unfolding transfer_stage transfer_references
transfer_counted c m t o d =
    let form = eqb c.control.extended 1 in
    let p = transfer_address c.file d in
    let r = test_physical t form (length m) (transfer_kind o) (word_addresses o p) in
    alone_counted (go (physical_place form (length m) (transfer_kind o) p) (two_words o))
    (by_fault Uncounted r.fault refl (λ f. refl))
  where
    k : AccessKind
    k = transfer_kind o

    form : Bool
    form = eqb c.control.extended 1

    next : ℕ
    next = transfer_address c.file d + 1

    one : (y : Result Place Fault) → suc (tested_first t y (none_tested t)).made ≡ 2
    one (Ok p) = refl
    one (Err f) = refl

    go : (y : Result Place Fault) (two : Bool)
        → (tested_first t y (test_physical t form (length m) k (cond two (next ∷ []) []))).made
        ≡ suc (length (cond (passes y && two) (physical_at k next ∷ []) []))
    go (Ok p) true = one (physical_place form (length m) k next)
    go (Ok p) false = refl
    go (Err f) two = refl

device_counted : (c : Core) (m t : List ℕ) (r : Option DeviceRegister) → Uncounted (device_stage c m t r)
unfolding device_stage
device_counted c m t (Some r) = refl
device_counted c m t _ = refl

system_counted : (l : ℕ) (c : Core) (m t : List ℕ) (q : System)
    → Counts (system_stage l c m t q) (system_references c m q)
unfolding examined deposited ident_stage
system_counted l c m t (systems.Control o) = refl
system_counted l c m t systems.TraPgc = refl
system_counted l c m t systems.TrrPcr = refl
system_counted l c m t (systems.Irr n r) = refl
system_counted l c m t (systems.Irw n r) = refl
system_counted l c m t (systems.Srb n) = refl
system_counted l c m t (systems.Lrb n) = refl
system_counted l c m t systems.Exam =
    alone_counted refl (either Uncounted (ltb (physical_address c.file) (length m)) refl refl)
system_counted l c m t systems.Depo =
    alone_counted refl (either Uncounted (ltb (physical_address c.file) (length m)) refl refl)
system_counted l c m t (systems.Physical o d) = transfer_counted c m t o d
system_counted l c m t (systems.Iox n) = device_counted c m t (register_of n)
system_counted l c m t systems.Ioxt = device_counted c m t (register_of (reg c.file T))
system_counted l c m t (systems.Ident n) = either Uncounted (eqb (flip_flop c.control.devices (line_of n)) 1) refl refl

instruction_counted : (l : ℕ) (c : Core) (m t : List ℕ) (i : Instruction)
    → Counts (instruction_stage l c m t i) (instruction_references c m t i)
unfolding instruction_stage instruction_references
instruction_counted l c m t (instructions.Unprivileged u) = user_counted c m t u
instruction_counted l c m t (instructions.Privileged q) =
    alike Counts (privileged c) (system_counted l (next_core c) m t q) refl
instruction_counted l c m t (instructions.Execute s) = refl
instruction_counted l c m t (instructions.Monitor n) = refl
instruction_counted l c m t instructions.Illegal = refl

fetched_counted : (l : ℕ) (c : Core) (m t : List ℕ) (ring : ℕ) (x : Result Place Fault)
    → Counts (fetched l c m t ring x) (virtual_at (fetch_of c) ∷ fetched_references c m t ring x)
unfolding fetched
fetched_counted l c m t ring (Ok p) =
    let i = instruction_of c (word_at m t p) in
    let after = after_fetch c ring p in
    both_counted (virtual_at (fetch_of c) ∷ []) (instruction_references after m t i) refl
    (instruction_counted l after m t i)
fetched_counted l c m t ring (Err f) = refl

level_counted : (l : ℕ) (c : Core) (m t : List ℕ) → Counts (step_in l c m t) (level_references c m t)
unfolding step_in level_references
level_counted l c m t =
    let r = rights_of c in
    let ring = (entry_at r.extended t (slot_of r.normal (reg c.file P))).ring in
    fetched_counted l c m (marked t (length m) r (fetch_of c)) ring (translate t (length m) r (fetch_of c))

-- a register block that was tested, and then stored or loaded
block_counted : (s : State) (m t : List ℕ) (k : AccessKind) (stored : Turn) (failed : Fault → Turn)
    → stored.references ≡ 0 → ((f : Fault) → (failed f).references ≡ 0)
    → let r = block_tested k s m t in
    (counted_turn r.made (after_test r.fault stored failed)).references
    ≡ length (accesses_made t (length m) (rights_of (core_of s)) (block_request k s))
block_counted s m t k stored failed h j =
    alone_counted (made_length t (length m) (rights_of (core_of s)) (block_request k s))
    (by_fault (λ (r : Turn). r.references ≡ 0) (block_tested k s m t).fault h j)

far_counted : (s : State) (n : ℕ) (m t : List ℕ) (far : Option Far)
    → (far_stage s n m t far).references ≡ length (far_references s m t far)
unfolding far_stage block_stored block_loaded
far_counted s n m t None = refl
far_counted s n m t (Some (fars.Call w)) = refl
far_counted s n m t (Some (fars.ReadRegister l r)) = refl
far_counted s n m t (Some (fars.WriteRegister l r)) = refl
far_counted s n m t (Some fars.ReadPcr) = refl
far_counted s n m t (Some fars.WritePcr) = refl
far_counted s n m t (Some (fars.StoreBlock l)) = block_counted s m t Write _ _ refl (λ f. refl)
far_counted s n m t (Some (fars.LoadBlock l)) = block_counted s m t Read _ _ refl (λ f. refl)

pub step_counts : StepCounts
unfolding step settled references
step_counts s m t =
    let r = step_in s.level (core_of s) m t in
    alike_twice (λ (q : Turn) (xs : List Reference). q.references ≡ length xs) (is_stopped s) (change_due s) refl refl
    (both_counted (level_references (core_of s) m t) (left_references s r) (level_counted s.level (core_of s) m t)
    (far_counted (with_core s r.near.core) r.near.gave r.memory r.tables r.near.far))

-- ---- a run answers the low 64 bits of the number of all references of its steps

low_sum : (xs ys : List Reference) {n k : ℕ} → n ≡ length xs → k ≡ length ys % sum_range
    → (n + k) % sum_range ≡ length (xs ++ ys) % sum_range
low_sum xs ys h j =
    (λ i. (h i + j i) % sum_range)
    ∙ add-mod-mod (length xs) (length ys) sum_range
    ∙ ap (λ (n : ℕ). n % sum_range) (sym (length-append xs ys))

abbrev RunCounted : Run → List Reference → Type 0
RunCounted r xs = r.references ≡ length xs % sum_range

pub run_counts : RunCounts
run_counts first zero k s m t =
    either Ended (is_stopped s) refl (either Ended (first && change_due s) refl refl)
  where
    Ended : Run → Type 0
    Ended r = RunCounted r []
run_counts first (suc n) k s m t =
    let r = step s m t in
    let over = first && not (eqb r.gave 0) in
    let rest = run_references first n r.state r.memory r.tables in
    alike_twice RunCounted (is_stopped s) (first && change_due s) refl refl
    (low_sum (references s m t) (cond over [] rest) (step_counts s m t)
    (alike RunCounted over refl (run_counts first n (suc k) r.state r.memory r.tables)))

pub input_run_counts : InputRunCounts
input_run_counts n [] k s m t = run_counts true (n - k) k s m t
input_run_counts n (g ∷ gs) k s m t =
    let r = run_from true (g.at - k) k s m t in
    let c = input_call g.input r.state in
    let on = input_run_from n gs r.steps c.state r.memory r.tables in
    let xs = run_references true (g.at - k) s m t in
    let ys = input_run_references n gs r.steps c.state r.memory r.tables in
    let counts = run_counts true (g.at - k) k s m t in
    alike (λ (q : InputRun) (zs : List Reference). RunCounted q.run zs) (ltb n g.at)
    (run_counts true (n - k) k s m t)
    (alike (λ (q : InputRun) (zs : List Reference). RunCounted q.run (xs ++ zs)) (is_spent r.reason)
    (ap (λ (a : ℕ). (a + on.run.references) % sum_range) counts
    ∙ mod-add-mod (length xs) sum_range on.run.references
    ∙ low_sum xs ys refl (input_run_counts n gs r.steps c.state r.memory r.tables))
    (counts ∙ ap (λ (zs : List Reference). length zs % sum_range) (sym (append-nil xs))))

-- ---- at most nine

indirect_one : (md : Mode) (d : ℤ) (f : File) → length (indirect_access md d f) ≤ 1
indirect_one modes.PRelative d f = lit≤ tt
indirect_one modes.BRelative d f = lit≤ tt
indirect_one modes.PIndirect d f = lit≤ tt
indirect_one modes.BIndirect d f = lit≤ tt
indirect_one modes.XRelative d f = lit≤ tt
indirect_one modes.BIndexed d f = lit≤ tt
indirect_one modes.PIndirectIndexed d f = lit≤ tt
indirect_one modes.BIndirectIndexed d f = lit≤ tt

operation_three : (o : MemoryOp) (r : Bool) (a : ℕ) → length (memory_request o r a) ≤ 3
operation_three ops.Stz r a = lit≤ tt
operation_three ops.Sta r a = lit≤ tt
operation_three ops.Stt r a = lit≤ tt
operation_three ops.Stx r a = lit≤ tt
operation_three ops.Std r a = lit≤ tt
operation_three ops.Ldd r a = lit≤ tt
operation_three ops.Stf r a = lit≤ tt
operation_three ops.Ldf r a = lit≤ tt
operation_three ops.Min r a = lit≤ tt
operation_three ops.Lda r a = lit≤ tt
operation_three ops.Ldt r a = lit≤ tt
operation_three ops.Ldx r a = lit≤ tt
operation_three ops.Add r a = lit≤ tt
operation_three ops.Sub r a = lit≤ tt
operation_three ops.And r a = lit≤ tt
operation_three ops.Ora r a = lit≤ tt
operation_three ops.Mpy r a = lit≤ tt
operation_three ops.Jmp r a = lit≤ tt
operation_three ops.Jpl r a = lit≤ tt

-- one indirect word and three operands at most
requests_most : (u : User) (f : File) (i : ℕ) → (length (indirect_request u f) ≤ 1) × (length (request u f i) ≤ 3)
requests_most (users.Memory o md d) f i =
    (indirect_one md d f, operation_three o (address_rule md) (effective_address md d f i))
requests_most (users.Jump c d) f i = (lit≤ tt, lit≤ tt)
requests_most (users.Skip r s d) f i = (lit≤ tt, lit≤ tt)
requests_most (users.Logic o cld cm1 s d) f i = (lit≤ tt, lit≤ tt)
requests_most (users.RegisterAdd c cld cm1 s d) f i = (lit≤ tt, lit≤ tt)
requests_most users.NoOperation f i = (lit≤ tt, lit≤ tt)
requests_most (users.Shift t k n) f i = (lit≤ tt, lit≤ tt)
requests_most (users.SetArgument r n) f i = (lit≤ tt, lit≤ tt)
requests_most (users.AddArgument r n) f i = (lit≤ tt, lit≤ tt)
requests_most (users.Bit o n r) f i = (lit≤ tt, lit≤ tt)
requests_most users.LoadByte f i = (lit≤ tt, lit≤ tt)
requests_most users.StoreByte f i = (lit≤ tt, lit≤ tt)
requests_most users.Mix3 f i = (lit≤ tt, lit≤ tt)
requests_most (users.Multiply s d) f i = (lit≤ tt, lit≤ tt)
requests_most (users.Divide s) f i = (lit≤ tt, lit≤ tt)

pub address_reads : AddressReads
address_reads u f t words r = le_trans (made_most t words r (indirect_request u f)) (requests_most u f 0).0

-- a part makes at most n references, with those of what it leaves to be done
abbrev Most : State → ℕ → Part → Type 0
Most s n p = p.near.references + length (left_references s p) ≤ n

user_most : (s : State) (c : Core) (m t : List ℕ) (u : User) → Most s 8 (user_stage c m t u)
unfolding user_stage indirect_tested operands operands_tested finished
user_most s c m t u =
    let f = c.file in
    let r = test_all t (length m) (rights_of c) (indirect_request u f) in
    let i = get_or (words_at m r.tables r.places) 0 0 in
    let q = test_all r.tables (length m) (rights_of c) (request u f i) in
    let one = address_reads u f t (length m) (rights_of c) in
    let three = le_trans (made_most r.tables (length m) (rights_of c) (request u f i)) (requests_most u f i).1 in
    let operand : Most s 3 (operands c m r.tables u i) =
    by_fault (λ (p : Part). Most s 3 (counted q.made p)) q.fault (omega (arith, three))
    (λ x. omega (arith, three)) in
    by_fault (λ (p : Part). Most s 8 (counted r.made p)) r.fault (omega (arith, one, operand))
    (λ x. omega (arith, one))

-- a register block
block_most : (s : State) (m t : List ℕ) (k : AccessKind)
    → 0 + length (accesses_made t (length m) (rights_of (core_of s)) (block_request k s)) ≤ 8
block_most s m t k =
    let made = made_length t (length m) (rights_of (core_of s)) (block_request k s) in
    let most = made_most t (length m) (rights_of (core_of s)) (block_request k s) in
    omega (arith, made, most)

-- one word or two by a physical address
pub physical_most : (t : List ℕ) (form : Bool) (words : ℕ) (k : AccessKind) (ps : List ℕ)
    → (test_physical t form words k ps).made ≤ length ps
physical_most t form words k [] = omega arith
physical_most t form words k (p ∷ ps) =
    first_most t (physical_place form words k p) _ _ (physical_most t form words k ps)

pub addresses_two : (o : Transfer) (p : ℕ) → length (word_addresses o p) ≤ 2
addresses_two o p = either (λ (ps : List ℕ). suc (length ps) ≤ 2) (two_words o) (lit≤ tt) (lit≤ tt)

device_most : (s : State) (c : Core) (m t : List ℕ) (r : Option DeviceRegister) → Most s 8 (device_stage c m t r)
unfolding device_stage
device_most s c m t (Some r) = lit≤ tt
device_most s c m t _ = lit≤ tt

system_most : (s : State) (l : ℕ) (c : Core) (m t : List ℕ) (q : System) → Most s 8 (system_stage l c m t q)
unfolding examined deposited transfer_stage ident_stage
system_most s l c m t (systems.Control o) = lit≤ tt
system_most s l c m t systems.TraPgc = lit≤ tt
system_most s l c m t systems.TrrPcr = lit≤ tt
system_most s l c m t (systems.Irr n r) = lit≤ tt
system_most s l c m t (systems.Irw n r) = lit≤ tt
system_most s l c m t (systems.Srb n) = block_most (with_core s c) m t Write
system_most s l c m t (systems.Lrb n) = block_most (with_core s c) m t Read
system_most s l c m t systems.Exam =
    either (λ (p : Part). Most s 8 (counted 1 p)) (ltb (physical_address c.file) (length m)) (lit≤ tt) (lit≤ tt)
system_most s l c m t systems.Depo =
    either (λ (p : Part). Most s 8 (counted 1 p)) (ltb (physical_address c.file) (length m)) (lit≤ tt) (lit≤ tt)
system_most s l c m t (systems.Physical o d) =
    let form = eqb c.control.extended 1 in
    let p = transfer_address c.file d in
    let xs = word_addresses o p in
    let r = test_physical t form (length m) (transfer_kind o) xs in
    let two = addresses_two o p in
    let most = physical_most t form (length m) (transfer_kind o) xs in
    by_fault (λ (p : Part). Most s 8 (counted r.made p)) r.fault (omega (arith, two, most))
    (λ x. omega (arith, two, most))
system_most s l c m t (systems.Iox n) = device_most s c m t (register_of n)
system_most s l c m t systems.Ioxt = device_most s c m t (register_of (reg c.file T))
system_most s l c m t (systems.Ident n) =
    either (Most s 8) (eqb (flip_flop c.control.devices (line_of n)) 1) (lit≤ tt) (lit≤ tt)

instruction_most : (s : State) (l : ℕ) (c : Core) (m t : List ℕ) (i : Instruction)
    → Most s 8 (instruction_stage l c m t i)
unfolding instruction_stage
instruction_most s l c m t (instructions.Unprivileged u) = user_most s c m t u
instruction_most s l c m t (instructions.Privileged q) =
    either (Most s 8) (privileged c) (system_most s l (next_core c) m t q) (lit≤ tt)
instruction_most s l c m t (instructions.Execute r) = lit≤ tt
instruction_most s l c m t (instructions.Monitor n) = lit≤ tt
instruction_most s l c m t instructions.Illegal = lit≤ tt

fetched_most : (s : State) (l : ℕ) (c : Core) (m t : List ℕ) (ring : ℕ) (x : Result Place Fault)
    → Most s most_references (fetched l c m t ring x)
unfolding fetched
fetched_most s l c m t ring (Ok p) =
    let most = instruction_most s l (after_fetch c ring p) m t (instruction_of c (word_at m t p)) in omega (arith, most)
fetched_most s l c m t ring (Err f) = lit≤ tt

level_most : (s : State) (l : ℕ) (c : Core) (m t : List ℕ) → Most s most_references (step_in l c m t)
unfolding step_in
level_most s l c m t =
    let r = rights_of c in
    let ring = (entry_at r.extended t (slot_of r.normal (reg c.file P))).ring in
    fetched_most s l c m (marked t (length m) r (fetch_of c)) ring (translate t (length m) r (fetch_of c))

pub nine_at_most : NineAtMost
unfolding step settled
nine_at_most s m t =
    let r = step_in s.level (core_of s) m t in
    let left = far_counted (with_core s r.near.core) r.near.gave r.memory r.tables r.near.far in
    let most = level_most s s.level (core_of s) m t in
    either Nine (is_stopped s) (lit≤ tt) (either Nine (change_due s) (lit≤ tt) (omega (arith, left, most)))
  where
    Nine : Turn → Type 0
    Nine r = r.references ≤ most_references
