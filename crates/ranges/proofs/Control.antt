-- The running level in range: its registers, its PCR and the control words; what interrupts and privileged instructions
-- leave of them.
-- Assumes nothing.
use Prim.Native.Nat.{ℕ, zero, suc, ◌/◌, ◌%◌, ◌<◌}
use native.Mathlib.Omega.{arith}
use mathlib.Core.Path.{◌≡◌, refl}
use lib.Dec.{eqb, ltb}
use lib.Pow.{pow-lt}
use lib.Bits.{bit_and, bit_or, and_lt, or_lt}
use borrow.Author.Tests.{ltb-true}
use Rattle.isa.specs.Machine.{level_count}
use Rattle.isa.specs.Machine.{bit, with_bit, reg, with_file, with_control, next_core, ring_of, interrupt_mask, pcr_mask}
use Rattle.isa.specs.Flags.{complement}
use Rattle.isa.specs.System.{highest_in, with_switches, with_levels, with_internal, with_pid, with_pie, waited}
use Rattle.isa.specs.System.{internal_word, after_reading, read, with_sts, written, bits_cleared, bits_set, switched}
use Rattle.isa.specs.System.{with_paging_status, with_extended, with_devices, controlled}
use Rattle.isa.specs.Pages.{lowered_pcr, lowered}
use Rattle.isa.specs.Step.{detected, interrupted, gives}
use Rattle.isa.specs.declared.machine.Control.{Control}
use Rattle.isa.specs.declared.machine.Core.{Core}
use Rattle.isa.specs.declared.machine.File.{File}
use Rattle.isa.specs.declared.machine.Register.TheVariants.{Sts, A}
use Rattle.isa.specs.declared.device.Devices.{Devices}
use Rattle.isa.specs.declared.instruction.Readable.{Readable}
use Rattle.isa.specs.declared.instruction.Readable.TheVariants.{Status, Pgs, Pvl, Iic, Pid, Pie, Actl}
use Rattle.isa.specs.declared.instruction.Writable.{Writable}
use Rattle.isa.specs.declared.instruction.Writable.TheVariants.{Status as ToStatus, Iie as ToIie, Pid as ToPid}
use Rattle.isa.specs.declared.instruction.Writable.TheVariants.{Pie as ToPie}
use Rattle.isa.specs.declared.instruction.Maskable.{Maskable}
use Rattle.isa.specs.declared.instruction.Maskable.TheVariants.{Status as InStatus, Pid as InPid, Pie as InPie}
use Rattle.isa.specs.declared.instruction.ControlOp.{ControlOp}
use Rattle.isa.specs.declared.instruction.ControlOp.TheVariants.{Ion, Iof, Pon, Pof, Pion, Piof, Sex, Rex, Wait, Tra}
use Rattle.isa.specs.declared.instruction.ControlOp.TheVariants.{Trr, Mcl, Mst}
use Rattle.isa.proofs.Tests.{either, decided}
use Rattle.isa.proofs.Bits.{bit_below, bit_even}
use Rattle.ranges.proofs.Devices.{DevicesFit}
use Rattle.ranges.proofs.Files.{FileFits, reg_word, sts_flags, with_word, with_sts_law, next_fits}

-- ---- the control words, one by one

-- IID and IIE: bits 1 to 10
pub record InterruptFits (w : ℕ) : Type 0 where
  pub even : w % 2 ≡ 0
  pub low : w < 2048

-- a PCR: bits 0-1 and 7-10
pub record PcrFits (w : ℕ) : Type 0 where
  pub clear : w / 4 % 32 ≡ 0
  pub low : w < 2048

-- PGS: bits 15, 14 and 7-0
pub record PgsFits (w : ℕ) : Type 0 where
  pub clear : w / 256 % 64 ≡ 0
  pub word : w < 65536

-- the control words 1 to 9, 26 and 27, and the devices' words
pub record ControlFits (k : Control) : Type 0 where
  pub interrupts : k.interrupts < 2
  pub paging : k.paging < 2
  pub stopped : k.stopped < 2
  pub pid : k.pid < 65536
  pub pie : k.pie < 65536
  pub pvl : k.pvl < level_count
  pub iid : InterruptFits k.iid
  pub iie : InterruptFits k.iie
  pub pgs : PgsFits k.pgs
  pub held : k.held < 2
  pub extended : k.extended < 2
  pub devices : DevicesFit k.devices

-- what an instruction of the running level works on
pub record CoreFits (c : Core) : Type 0 where
  pub file : FileFits c.file
  pub pcr : PcrFits c.pcr
  pub control : ControlFits c.control

-- ---- control words changed in some places

-- interrupts, paging and stopped
switches_fit : {k : Control} → ControlFits k → (i p h : ℕ) → i < 2 → p < 2 → h < 2 → ControlFits (with_switches k i p h)
switches_fit q i p h a b c = record {
  interrupts = a;
  paging = b;
  stopped = c;
  pid = q.pid;
  pie = q.pie;
  pvl = q.pvl;
  iid = q.iid;
  iie = q.iie;
  pgs = q.pgs;
  held = q.held;
  extended = q.extended;
  devices = q.devices;
}

-- PID, PIE and PVL
pub levels_fit : {k : Control} → ControlFits k → (d e v : ℕ) → d < 65536 → e < 65536 → v < level_count
    → ControlFits (with_levels k d e v)
levels_fit q d e v a b c = record {
  interrupts = q.interrupts;
  paging = q.paging;
  stopped = q.stopped;
  pid = a;
  pie = b;
  pvl = c;
  iid = q.iid;
  iie = q.iie;
  pgs = q.pgs;
  held = q.held;
  extended = q.extended;
  devices = q.devices;
}

-- IID and IIE
internal_fit : {k : Control} → ControlFits k → {d e : ℕ} → InterruptFits d → InterruptFits e
    → ControlFits (with_internal k d e)
internal_fit q a b = record {
  interrupts = q.interrupts;
  paging = q.paging;
  stopped = q.stopped;
  pid = q.pid;
  pie = q.pie;
  pvl = q.pvl;
  iid = a;
  iie = b;
  pgs = q.pgs;
  held = q.held;
  extended = q.extended;
  devices = q.devices;
}

-- PGS, and whether it is held
pub status_fit : {k : Control} → ControlFits k → {g h : ℕ} → PgsFits g → h < 2 → ControlFits (with_paging_status k g h)
status_fit q a b = record {
  interrupts = q.interrupts;
  paging = q.paging;
  stopped = q.stopped;
  pid = q.pid;
  pie = q.pie;
  pvl = q.pvl;
  iid = q.iid;
  iie = q.iie;
  pgs = a;
  held = b;
  extended = q.extended;
  devices = q.devices;
}

-- the extended flag
extended_fit : {k : Control} → ControlFits k → {x : ℕ} → x < 2 → ControlFits (with_extended k x)
extended_fit q a = record {
  interrupts = q.interrupts;
  paging = q.paging;
  stopped = q.stopped;
  pid = q.pid;
  pie = q.pie;
  pvl = q.pvl;
  iid = q.iid;
  iie = q.iie;
  pgs = q.pgs;
  held = q.held;
  extended = a;
  devices = q.devices;
}

-- PID and the devices' words
pub devices_fit : {k : Control} → ControlFits k → {p : ℕ} {d : Devices} → p < 65536 → DevicesFit d
    → ControlFits (with_devices k p d)
devices_fit q a b = record {
  interrupts = q.interrupts;
  paging = q.paging;
  stopped = q.stopped;
  pid = a;
  pie = q.pie;
  pvl = q.pvl;
  iid = q.iid;
  iie = q.iie;
  pgs = q.pgs;
  held = q.held;
  extended = q.extended;
  devices = b;
}

-- PID alone, PIE alone
pub pid_fits : {k : Control} → ControlFits k → {d : ℕ} → d < 65536 → ControlFits (with_pid k d)
pid_fits {k} q {d} a = levels_fit q d k.pie k.pvl a q.pie q.pvl

pie_fits : {k : Control} → ControlFits k → {e : ℕ} → e < 65536 → ControlFits (with_pie k e)
pie_fits {k} q {e} a = levels_fit q k.pid e k.pvl q.pid a q.pvl

-- ---- a core changed in one part

-- its registers, its control words, and P one further
pub file_fits : {c : Core} → CoreFits c → {f : File} → FileFits f → CoreFits (with_file c f)
file_fits q h = record { file = h; pcr = q.pcr; control = q.control }

pub control_fits : {c : Core} → CoreFits c → {k : Control} → ControlFits k → CoreFits (with_control c k)
control_fits q h = record { file = q.file; pcr = q.pcr; control = h }

pub next_core_fits : {c : Core} → CoreFits c → CoreFits (next_core c)
next_core_fits q = file_fits q (next_fits q.file)

-- ---- interrupts 1 to 10, and a lowered ring

-- the control words after an interrupt
interrupted_fits : (n : ℕ) {k : Control} → 0 < n → n < 11 → ControlFits k → ControlFits (interrupted n k)
unfolding interrupted
interrupted_fits n {k} a b q =
    let i : InterruptFits (with_bit n 1 k.iid) =
    record {
      even = bit_even n 1 k.iid a q.iid.even;
      low = bit_below 11 n 1 k.iid b (omega arith) q.iid.low;
    } in
    let d : ControlFits (detected n k) = internal_fit q i q.iie in
    either ControlFits (eqb (bit n k.iie) 1)
    (pid_fits d (bit_below 16 14 1 k.pid (omega arith) (omega arith) q.pid)) d

-- .. and the core
pub gives_fits : (n : ℕ) {c : Core} → 0 < n → n < 11 → CoreFits c → CoreFits (gives n c)
gives_fits n a b q = control_fits q (interrupted_fits n a b q.control)

-- a lower ring in a PCR
lowered_pcr_fits : (p ring : ℕ) → ring < p % 4 → PcrFits p → PcrFits (lowered_pcr p ring)
lowered_pcr_fits p ring h q = let a = q.clear in let b = q.low in record { clear = omega arith; low = omega arith }

-- .. and in the core
pub lowered_fits : (c : Core) (ring : ℕ) → CoreFits c → CoreFits (lowered c ring)
unfolding lowered
lowered_fits c ring q =
    decided CoreFits (ltb ring (ring_of c.pcr))
    (λ e. let p = lowered_pcr_fits c.pcr ring (ltb-true ring (ring_of c.pcr) e) q.pcr in
    record { file = q.file; pcr = p; control = q.control })
    (λ e. q)

-- what TRR keeps of a word for IIE, and for a PCR
interrupt_mask_fits : (w : ℕ) → InterruptFits (interrupt_mask w)
interrupt_mask_fits w = record { even = omega arith; low = omega arith }

pub pcr_mask_fits : (w : ℕ) → PcrFits (pcr_mask w)
pcr_mask_fits w = record { clear = omega arith; low = omega arith }

-- ---- ION to MST, SEX and REX

-- the highest bit among bits n to 1
pub highest_below : (n w : ℕ) → highest_in n w < suc n
highest_below zero w = omega arith
highest_below (suc n) w =
    let h : highest_in n w < suc n = highest_below n w in
    either (λ (v : ℕ). v < suc (suc n)) (eqb (bit (suc n) w) 1) (omega arith) (omega arith)

-- what TRA gives is a word
internal_word_law : (l : ℕ) {c : Core} → l < level_count → CoreFits c → (r : Readable) → internal_word l c r < 65536
internal_word_law l {c} h q Status =
    let f : reg c.file Sts < 256 = sts_flags q.file in
    let i = q.control.interrupts in
    let p = q.control.paging in
    omega arith
internal_word_law l h q Pgs = q.control.pgs.word
internal_word_law l h q Pvl = let v = q.control.pvl in omega arith
internal_word_law l {c} h q Iic = omega (arith, highest_below 15 c.control.iid)
internal_word_law l h q Pid = q.control.pid
internal_word_law l h q Pie = q.control.pie
internal_word_law l h q Actl = pow-lt h

-- TRA IIC clears IID, TRA PGS releases PGS
reading_fits : {k : Control} → ControlFits k → (r : Readable) → ControlFits (after_reading k r)
reading_fits q Status = q
reading_fits q Pgs = status_fit q q.pgs (omega arith)
reading_fits q Pvl = q
reading_fits q Iic = internal_fit q (record { even = refl; low = omega arith }) q.iie
reading_fits q Pid = q
reading_fits q Pie = q
reading_fits q Actl = q

-- TRA
read_fits : (l : ℕ) {c : Core} → l < level_count → CoreFits c → (r : Readable) → CoreFits (read l c r)
read_fits l h q r =
    record {
      file = with_word q.file A refl (internal_word_law l h q r);
      pcr = q.pcr;
      control = reading_fits q.control r;
    }

-- the low eight bits to STS
sts_fits : {c : Core} → CoreFits c → (w : ℕ) → CoreFits (with_sts c w)
sts_fits q w = file_fits q (with_sts_law q.file (omega arith))

-- TRR
written_fits : {c : Core} → CoreFits c → (r : Writable) → CoreFits (written c r)
written_fits {c} q ToStatus = sts_fits q (reg c.file A)
written_fits {c} q ToIie =
    control_fits q (internal_fit q.control q.control.iid (interrupt_mask_fits (reg c.file A)))
written_fits q ToPid = control_fits q (pid_fits q.control (reg_word q.file A))
written_fits q ToPie = control_fits q (pie_fits q.control (reg_word q.file A))

-- MCL
cleared_fits : {c : Core} → CoreFits c → (r : Maskable) → CoreFits (bits_cleared c r)
cleared_fits {c} q InStatus = sts_fits q (bit_and (reg c.file Sts) (complement (reg c.file A)))
cleared_fits q InPid = control_fits q (pid_fits q.control (and_lt 16 _ _ q.control.pid (omega arith)))
cleared_fits q InPie = control_fits q (pie_fits q.control (and_lt 16 _ _ q.control.pie (omega arith)))

-- MST
masked_fits : {c : Core} → CoreFits c → (r : Maskable) → CoreFits (bits_set c r)
masked_fits {c} q InStatus = sts_fits q (bit_or (reg c.file Sts) (reg c.file A))
masked_fits q InPid = control_fits q (pid_fits q.control (or_lt 16 _ _ q.control.pid (reg_word q.file A)))
masked_fits q InPie = control_fits q (pie_fits q.control (or_lt 16 _ _ q.control.pie (reg_word q.file A)))

-- ION to PIOF
switched_fits : {c : Core} → CoreFits c → (i p : ℕ) → i < 2 → p < 2 → CoreFits (switched c i p)
switched_fits {c} q i p a b =
    control_fits q (switches_fit q.control i p c.control.stopped a b q.control.stopped)

-- WAIT
waited_fits : (l : ℕ) {k : Control} → l < level_count → ControlFits k → ControlFits (waited l k)
waited_fits l {k} h q =
    either ControlFits (eqb k.interrupts 1)
    (either ControlFits (eqb l 0) q (pid_fits q (bit_below 16 l 0 k.pid h (omega arith) q.pid)))
    (switches_fit q k.interrupts k.paging 1 q.interrupts q.paging (omega arith))

-- each of them at level l
pub controlled_fits : (l : ℕ) {c : Core} → l < level_count → CoreFits c → (o : ControlOp) → CoreFits (controlled l c o)
controlled_fits l {c} h q Ion = switched_fits q 1 c.control.paging (omega arith) q.control.paging
controlled_fits l {c} h q Iof = switched_fits q 0 c.control.paging (omega arith) q.control.paging
controlled_fits l {c} h q Pon = switched_fits q c.control.interrupts 1 q.control.interrupts (omega arith)
controlled_fits l {c} h q Pof = switched_fits q c.control.interrupts 0 q.control.interrupts (omega arith)
controlled_fits l h q Pion = switched_fits q 1 1 (omega arith) (omega arith)
controlled_fits l h q Piof = switched_fits q 0 0 (omega arith) (omega arith)
controlled_fits l h q Sex = control_fits q (extended_fit q.control (omega arith))
controlled_fits l h q Rex = control_fits q (extended_fit q.control (omega arith))
controlled_fits l h q Wait = control_fits q (waited_fits l h q.control)
controlled_fits l h q (Tra r) = read_fits l h q r
controlled_fits l h q (Trr r) = written_fits q r
controlled_fits l h q (Mcl r) = cleared_fits q r
controlled_fits l h q (Mst r) = masked_fits q r
