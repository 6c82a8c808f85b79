-- What no step changes of the control words but one that executes an instruction that sets it; and no run.
-- Assumes nothing.
use Prim.Native.Nat.{ℕ, zero, suc, ◌+◌, ◌<◌}
use native.Mathlib.Omega.{arith}
use mathlib.Core.Path.{sym, subst}
use mathlib.Core.Bool.{Bool, not, ◌&&◌}
use Rattle.std.specs.Prelude.{Option, Some}
use mathlib.Core.List.{List}
use lib.ListN.{length}
use lib.Dec.{ltb, eqb}
use Rattle.isa.specs.Machine.{bit, with_bit, reg, control_of, core_of}
use Rattle.isa.specs.System.{with_switches, with_levels, with_internal, with_paging_status, with_extended, with_devices}
use Rattle.isa.specs.System.{controlled}
use Rattle.isa.specs.InputOutput.{register_of, exchanged, line_of, flip_flop}
use Rattle.isa.specs.Pages.{fault_number}
use Rattle.isa.specs.Physical.{transfer_address, transfer_kind, word_addresses, test_physical}
use Rattle.isa.specs.Step.{Part, Turn, part, interrupted, with_pgs, faulted, physical_address, examined, deposited}
use Rattle.isa.specs.Step.{transfer_stage, device_stage, ident_stage, system_stage, far_stage, settled, is_stopped}
use Rattle.isa.specs.Step.{change_due, level_changed, step}
use Rattle.isa.specs.Run.{Run, run_from}
use Rattle.isa.specs.declared.machine.Control.{Control}
use Rattle.isa.specs.declared.machine.Core.{Core}
use Rattle.isa.specs.declared.machine.State.{State}
use Rattle.isa.specs.declared.machine.Register.TheVariants.{T}
use Rattle.isa.specs.declared.device.Devices.{Devices}
use Rattle.isa.specs.declared.device.DeviceRegister.{DeviceRegister}
use Rattle.isa.specs.declared.device.DeviceRegister.TheVariants.{ClockData, ClockCounter, ClockStatus, ClockControl}
use Rattle.isa.specs.declared.device.DeviceRegister.TheVariants.{InputData, InputNothing, InputStatus, InputControl}
use Rattle.isa.specs.declared.device.DeviceRegister.TheVariants.{OutputNothing, OutputData, OutputStatus}
use Rattle.isa.specs.declared.device.DeviceRegister.TheVariants.{OutputControl}
use Rattle.isa.specs.declared.device.Line.{Line}
use Rattle.isa.specs.declared.instruction.Readable.TheVariants.{Status, Pgs, Pvl, Iic, Pid, Pie, Actl}
use Rattle.isa.specs.declared.instruction.Writable.TheVariants.{Status as ToStatus, Iie as ToIie, Pid as ToPid}
use Rattle.isa.specs.declared.instruction.Writable.TheVariants.{Pie as ToPie}
use Rattle.isa.specs.declared.instruction.Maskable.TheVariants.{Status as InStatus, Pid as InPid, Pie as InPie}
use Rattle.isa.specs.declared.instruction.ControlOp.{ControlOp}
use Rattle.isa.specs.declared.instruction.ControlOp.TheVariants.{Ion, Iof, Pon, Pof, Pion, Piof, Sex, Rex, Wait, Tra}
use Rattle.isa.specs.declared.instruction.ControlOp.TheVariants.{Trr, Mcl, Mst}
use Rattle.isa.specs.declared.instruction.System.{System}
use Rattle.isa.specs.declared.instruction.System.TheVariants.{Control as ControlOf, TraPgc, TrrPcr, Irr, Irw, Srb, Lrb}
use Rattle.isa.specs.declared.instruction.System.TheVariants.{Exam, Depo, Physical, Iox, Ioxt, Ident}
use Rattle.isa.specs.declared.instruction.Transfer.{Transfer}
use Rattle.std.specs.declared.option.Option.{Option}
use Rattle.std.specs.declared.option.Option.TheVariants.{Some}
use Rattle.isa.specs.declared.access.Fault.{Fault}
use Rattle.isa.specs.declared.access.Fault.TheVariants.{OutOfRange}
use Rattle.isa.specs.declared.answer.Far.{Far}
use Rattle.isa.specs.declared.answer.Far.TheVariants.{ReadRegister, WriteRegister, ReadPcr, WritePcr, StoreBlock}
use Rattle.isa.specs.declared.answer.Far.TheVariants.{LoadBlock}
use Rattle.isa.proofs.Tests.{by_fault, either}
use Rattle.isa.proofs.Runs.{run_taken}
use Rattle.laws.specs.Statement.{fetch_outcome, fetch_ring, Executes, stepped}
use Rattle.laws.proofs.Far.{settled_keeps}
use Rattle.laws.proofs.Fetch.{after_fetch_control}
use Rattle.laws.proofs.Stages.{Keeping, Claim, counted_keeps, done_keeps, trapped_keeps, failed_keeps}
use Rattle.laws.proofs.Stages.{step_keeps}

-- the privileged instructions that reach the devices
pub data ReachesDevices : System → Type 0 where
  iox : (n : ℕ) → ReachesDevices (Iox n)
  ioxt : ReachesDevices Ioxt
  ident : (n : ℕ) → ReachesDevices (Ident n)

-- K, of the control words, does not speak of those that levels, interrupts and switches change; an access that fails
-- keeps it where F holds of its interrupt; TRA PGS, SEX and REX do unless they are among those that Sets names, and so
-- do IOX, IOXT and IDENT, which give no interrupt where they change PID or the devices
pub record Steady (K : Control → Type 0) (Sets : System → Type 0) (F : ℕ → Type 0) : Type 0 where
  pub switches : (k : Control) (i p h : ℕ) → K k → K (with_switches k i p h)
  pub levels : (k : Control) (d e v : ℕ) → K k → K (with_levels k d e v)
  pub internal : (k : Control) (d e : ℕ) → K k → K (with_internal k d e)
  pub fail : (k : Control) (x : Fault) → K k → F (fault_number x) → K (with_pgs k (Some x))
  pub reading : (k : Control) → (Sets (ControlOf (Tra Pgs)) → ⊥) → K k → K (with_paging_status k k.pgs 0)
  pub setting : (k : Control) → (Sets (ControlOf Sex) → ⊥) → K k → K (with_extended k 1)
  pub clearing : (k : Control) → (Sets (ControlOf Rex) → ⊥) → K k → K (with_extended k 0)
  pub devices : (o : System) → ReachesDevices o → (Sets o → ⊥) → F 0
      → (k : Control) (p : ℕ) (d : Devices) → K k → K (with_devices k p d)

module _ (K : Control → Type 0) (Sets : System → Type 0) (F : ℕ → Type 0) (keep : Steady K Sets F) where
  abbrev In : Core → Type 0
  In c = K c.control

  abbrev Of : State → Type 0
  Of s = K (control_of s)

  -- an interrupt, and an access that fails
  interrupted_keeps : (n : ℕ) (k : Control) → K k → K (interrupted n k)
  unfolding interrupted
  interrupted_keeps n k h =
      let d = keep.internal k (with_bit n 1 k.iid) k.iie h in
      either K (eqb (bit n k.iie) 1) (keep.levels _ _ _ _ d) d

  faulted_keeps : (x : Fault) (c : Core) → In c → F (fault_number x) → In (faulted (Some x) c)
  unfolding faulted
  faulted_keeps x c h f = interrupted_keeps (fault_number x) (with_pgs c.control (Some x)) (keep.fail c.control x h f)

  keeping : Keeping In Of F
  keeping = record {
    file = λ c f h. h;
    trap = λ n c h. interrupted_keeps n c.control h;
    fail = faulted_keeps;
    back = λ s c h. h;
    regs = λ s b h. h;
  }

  -- ---- a privileged instruction

  abbrev Left : Part → Type 0
  Left = Claim In Of F keeping

  controlled_keeps : (l : ℕ) (c : Core) (o : ControlOp) → (Sets (ControlOf o) → ⊥) → In c → In (controlled l c o)
  controlled_keeps l c Ion none h = keep.switches _ _ _ _ h
  controlled_keeps l c Iof none h = keep.switches _ _ _ _ h
  controlled_keeps l c Pon none h = keep.switches _ _ _ _ h
  controlled_keeps l c Pof none h = keep.switches _ _ _ _ h
  controlled_keeps l c Pion none h = keep.switches _ _ _ _ h
  controlled_keeps l c Piof none h = keep.switches _ _ _ _ h
  controlled_keeps l c Sex none h = keep.setting _ none h
  controlled_keeps l c Rex none h = keep.clearing _ none h
  controlled_keeps l c Wait none h =
      either K (eqb c.control.interrupts 1) (either K (eqb l 0) h (keep.levels _ _ _ _ h))
      (keep.switches _ _ _ _ h)
  controlled_keeps l c (Tra Status) none h = h
  controlled_keeps l c (Tra Pgs) none h = keep.reading _ none h
  controlled_keeps l c (Tra Pvl) none h = h
  controlled_keeps l c (Tra Iic) none h = keep.internal _ _ _ h
  controlled_keeps l c (Tra Pid) none h = h
  controlled_keeps l c (Tra Pie) none h = h
  controlled_keeps l c (Tra Actl) none h = h
  controlled_keeps l c (Trr ToStatus) none h = h
  controlled_keeps l c (Trr ToIie) none h = keep.internal _ _ _ h
  controlled_keeps l c (Trr ToPid) none h = keep.levels _ _ _ _ h
  controlled_keeps l c (Trr ToPie) none h = keep.levels _ _ _ _ h
  controlled_keeps l c (Mcl InStatus) none h = h
  controlled_keeps l c (Mcl InPid) none h = keep.levels _ _ _ _ h
  controlled_keeps l c (Mcl InPie) none h = keep.levels _ _ _ _ h
  controlled_keeps l c (Mst InStatus) none h = h
  controlled_keeps l c (Mst InPid) none h = keep.levels _ _ _ _ h
  controlled_keeps l c (Mst InPie) none h = keep.levels _ _ _ _ h

  examined_keeps : (c : Core) (m t : List ℕ) → In c → Left (examined c m t)
  unfolding examined
  examined_keeps c m t h =
      counted_keeps In Of F keeping 1 _
      (either Left (ltb (physical_address c.file) (length m)) (done_keeps In Of F keeping _ 0 m t h)
      (failed_keeps In Of F keeping c OutOfRange m t h))

  deposited_keeps : (c : Core) (m t : List ℕ) → In c → Left (deposited c m t)
  unfolding deposited
  deposited_keeps c m t h =
      counted_keeps In Of F keeping 1 _
      (either Left (ltb (physical_address c.file) (length m)) (done_keeps In Of F keeping c 0 _ t h)
      (failed_keeps In Of F keeping c OutOfRange m t h))

  transfer_keeps : (c : Core) (m t : List ℕ) (o : Transfer) (d : ℕ) → In c → Left (transfer_stage c m t o d)
  unfolding transfer_stage
  transfer_keeps c m t o d h =
      let form : Bool = eqb c.control.extended 1 in
      let p : ℕ = transfer_address c.file d in
      let r = test_physical t form (length m) (transfer_kind o) (word_addresses o p) in
      counted_keeps In Of F keeping r.made _
      (by_fault Left r.fault (done_keeps In Of F keeping _ 0 _ _ h) (λ x. failed_keeps In Of F keeping c x m t h))

  -- with something left to be done
  far_keeps : (c : Core) (far : Option Far) (m t : List ℕ) → In c → Left (part c 0 far m t)
  far_keeps c far m t h s =
      settled_keeps Of F (λ q b i. i) (λ q p i. i) (λ q x i f. faulted_keeps x (core_of q) i f) s (part c 0 far m t) h

  -- IOX, IOXT and IDENT: of the control words they change PID and the devices alone, which keeps K by e
  module _ (e : (k : Control) (p : ℕ) (d : Devices) → K k → K (with_devices k p d)) where
    exchanged_keeps : (c : Core) (r : DeviceRegister) → In c → In (exchanged c r)
    exchanged_keeps c ClockData h = h
    exchanged_keeps c ClockCounter h = h
    exchanged_keeps c ClockStatus h = h
    exchanged_keeps c ClockControl h = e _ _ _ h
    exchanged_keeps c InputData h = e _ _ _ h
    exchanged_keeps c InputNothing h = h
    exchanged_keeps c InputStatus h = h
    exchanged_keeps c InputControl h = e _ _ _ h
    exchanged_keeps c OutputNothing h = h
    exchanged_keeps c OutputData h = e _ _ _ h
    exchanged_keeps c OutputStatus h = h
    exchanged_keeps c OutputControl h = e _ _ _ h

  -- .. where no interrupt is given
  abbrev Changes : Type 0
  Changes = F 0 → (k : Control) (p : ℕ) (d : Devices) → K k → K (with_devices k p d)

  device_keeps : (c : Core) (m t : List ℕ) (r : Option DeviceRegister) → Changes → In c → Left (device_stage c m t r)
  unfolding device_stage settled far_stage
  device_keeps c m t (Some r) e h = λ s f. exchanged_keeps (e f) c r h
  device_keeps c m t _ e h = trapped_keeps In Of F keeping 7 c m t h

  ident_keeps : (c : Core) (m t : List ℕ) (i : Option Line) → Changes → In c → Left (ident_stage c m t i)
  unfolding ident_stage settled far_stage
  ident_keeps c m t i e h =
      either Left (eqb (flip_flop c.control.devices i) 1) (λ s f. e f _ _ _ h)
      (trapped_keeps In Of F keeping 7 c m t h)

  system_keeps : (l : ℕ) (c : Core) (m t : List ℕ) (o : System) → (Sets o → ⊥) → In c → Left (system_stage l c m t o)
  system_keeps l c m t (ControlOf o) none h =
      done_keeps In Of F keeping (controlled l c o) 0 m t (controlled_keeps l c o none h)
  system_keeps l c m t TraPgc none h = far_keeps c (Some ReadPcr) m t h
  system_keeps l c m t TrrPcr none h = far_keeps c (Some WritePcr) m t h
  system_keeps l c m t (Irr n r) none h = far_keeps c (Some (ReadRegister n r)) m t h
  system_keeps l c m t (Irw n r) none h = far_keeps c (Some (WriteRegister n r)) m t h
  system_keeps l c m t (Srb n) none h = far_keeps c (Some (StoreBlock n)) m t h
  system_keeps l c m t (Lrb n) none h = far_keeps c (Some (LoadBlock n)) m t h
  system_keeps l c m t Exam none h = examined_keeps c m t h
  system_keeps l c m t Depo none h = deposited_keeps c m t h
  system_keeps l c m t (Physical o d) none h = transfer_keeps c m t o d h
  system_keeps l c m t (Iox n) none h = device_keeps c m t (register_of n) (keep.devices (Iox n) (iox n) none) h
  system_keeps l c m t Ioxt none h =
      device_keeps c m t (register_of (reg c.file T)) (keep.devices Ioxt ioxt none) h
  system_keeps l c m t (Ident n) none h = ident_keeps c m t (line_of n) (keep.devices (Ident n) (ident n) none) h

  -- ---- one step

  -- no instruction of Sets is executed
  abbrev NoneSet : State → List ℕ → List ℕ → Type 0
  NoneSet s m t = (o : System) → Sets o → Executes o s m t → ⊥

  pub step_steady : (s : State) (m t : List ℕ) → NoneSet s m t → Of s → F (step s m t).gave → Of (step s m t).state
  unfolding level_changed
  step_steady s m t none h =
      let after = subst K (sym (after_fetch_control (core_of s) (fetch_ring s t) (fetch_outcome s m t))) h in
      step_keeps In Of F keeping s m t h after h (λ e. keep.levels _ _ _ _ h)
      (λ o x. system_keeps _ _ _ _ o (λ z. none o z x) after)

  -- ---- a run of either form

  -- after k steps, with n to go
  pub run_steady : ((n : ℕ) → F n) → (first : Bool) (n k : ℕ) (s : State) (m t : List ℕ) → Of s
      → ((j : ℕ) → k + j < (run_from first n k s m t).steps
      → let r = stepped j s m t in NoneSet r.state r.memory r.tables)
      → Of (run_from first n k s m t).state
  run_steady any first zero k s m t h none =
      let Kept : Run → Type 0 = λ r. Of r.state in
      either Kept (is_stopped s) h (either Kept (first && change_due s) h h)
  run_steady any first (suc n) k s m t h none =
      either Kept (is_stopped s) (λ e. h)
      (either Kept (first && change_due s) (λ e. h)
      (either Kept (first && not (eqb r.gave 0)) (λ e. once (e 0 (omega arith)))
      (λ e.
      let l = (run_taken first n (suc k) r.state r.memory r.tables).least in
      run_steady any first n (suc k) r.state r.memory r.tables (once (e 0 (omega (arith, l))))
      (λ j i. e (suc j) (omega arith)))))
      none
    where
      r : Turn
      r = step s m t

      Kept : Run → Type 0
      Kept q =
          ((j : ℕ) → k + j < q.steps → let x = stepped j s m t in NoneSet x.state x.memory x.tables)
          → Of q.state

      once : NoneSet s m t → Of r.state
      once e = step_steady s m t e h (any r.gave)
