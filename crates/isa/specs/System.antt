-- The privileged instructions that act on the running level and the control words alone: ION to MST, SEX and REX.
use Rattle.std.specs.Prelude.{ℕ, zero, suc, ◌+◌, ◌*◌, ◌%◌, ◌^◌, cond, ◌==◌, bit_and, bit_or}
use Rattle.isa.specs.Machine.{level_count, status_range, bit, with_bit, reg, with_reg, with_file, with_control}
use Rattle.isa.specs.Machine.{interrupt_mask}
use Rattle.isa.specs.Flags.{complement}
use Rattle.isa.specs.declared.machine.Control.{Control}
use Rattle.isa.specs.declared.machine.Core.{Core}
use Rattle.isa.specs.declared.device.Devices.{Devices}
use Rattle.isa.specs.declared.machine.Register.TheVariants.{Sts, A}
use Rattle.isa.specs.declared.instruction.Readable.{Readable}
use Rattle.isa.specs.declared.instruction.Readable.TheVariants.{Status, Pgs, Pvl, Iic, Pid, Pie, Actl}
use Rattle.isa.specs.declared.instruction.Writable.{Writable}
use Rattle.isa.specs.declared.instruction.Writable.TheVariants.{Status as ToStatus, Iie as ToIie, Pid as ToPid}
use Rattle.isa.specs.declared.instruction.Writable.TheVariants.{Pie as ToPie}
use Rattle.isa.specs.declared.instruction.Maskable.{Maskable}
use Rattle.isa.specs.declared.instruction.Maskable.TheVariants.{Status as InStatus, Pid as InPid, Pie as InPie}
use Rattle.isa.specs.declared.instruction.ControlOp.{ControlOp}
use Rattle.isa.specs.declared.instruction.ControlOp.TheVariants.{Ion, Iof, Pon, Pof, Pion, Piof, Sex, Rex}
use Rattle.isa.specs.declared.instruction.ControlOp.TheVariants.{Wait, Tra, Trr, Mcl, Mst}

-- the highest bit of w that is set, among bits n to 1; 0 if none is, whatever bit 0 is
abbrev pub highest_in : ℕ → ℕ → ℕ
highest_in zero w = 0
highest_in (suc n) w = cond (bit (suc n) w == 1) (suc n) (highest_in n w)

-- the control words, changed in some places
abbrev pub with_switches : Control → ℕ → ℕ → ℕ → Control
with_switches k i p h = record {
  interrupts = i;
  paging = p;
  stopped = h;
  pid = k.pid;
  pie = k.pie;
  pvl = k.pvl;
  iid = k.iid;
  iie = k.iie;
  pgs = k.pgs;
  held = k.held;
  extended = k.extended;
  devices = k.devices;
}

abbrev pub with_levels : Control → ℕ → ℕ → ℕ → Control
with_levels k d e v = record {
  interrupts = k.interrupts;
  paging = k.paging;
  stopped = k.stopped;
  pid = d;
  pie = e;
  pvl = v;
  iid = k.iid;
  iie = k.iie;
  pgs = k.pgs;
  held = k.held;
  extended = k.extended;
  devices = k.devices;
}

abbrev pub with_internal : Control → ℕ → ℕ → Control
with_internal k d e = record {
  interrupts = k.interrupts;
  paging = k.paging;
  stopped = k.stopped;
  pid = k.pid;
  pie = k.pie;
  pvl = k.pvl;
  iid = d;
  iie = e;
  pgs = k.pgs;
  held = k.held;
  extended = k.extended;
  devices = k.devices;
}

-- PGS, and whether it is held
abbrev pub with_paging_status : Control → ℕ → ℕ → Control
with_paging_status k g h = record {
  interrupts = k.interrupts;
  paging = k.paging;
  stopped = k.stopped;
  pid = k.pid;
  pie = k.pie;
  pvl = k.pvl;
  iid = k.iid;
  iie = k.iie;
  pgs = g;
  held = h;
  extended = k.extended;
  devices = k.devices;
}

-- the extended flag
abbrev pub with_extended : Control → ℕ → Control
with_extended k x = record {
  interrupts = k.interrupts;
  paging = k.paging;
  stopped = k.stopped;
  pid = k.pid;
  pie = k.pie;
  pvl = k.pvl;
  iid = k.iid;
  iie = k.iie;
  pgs = k.pgs;
  held = k.held;
  extended = x;
  devices = k.devices;
}

-- PID and the devices' words, which a device that asks changes together
abbrev pub with_devices : Control → ℕ → Devices → Control
with_devices k p d = record {
  interrupts = k.interrupts;
  paging = k.paging;
  stopped = k.stopped;
  pid = p;
  pie = k.pie;
  pvl = k.pvl;
  iid = k.iid;
  iie = k.iie;
  pgs = k.pgs;
  held = k.held;
  extended = k.extended;
  devices = d;
}

abbrev pub with_pid : Control → ℕ → Control
with_pid k d = with_levels k d k.pie k.pvl

abbrev pub with_pie : Control → ℕ → Control
with_pie k e = with_levels k k.pid e k.pvl

-- "WAIT stops the machine with interrupts off; with them on it clears the running level's PID bit (level 0: no
-- effect)."
abbrev pub waited : ℕ → Control → Control
waited l k =
    cond (k.interrupts == 1) (cond (l == 0) k (with_pid k (with_bit l 0 k.pid)))
    (with_switches k k.interrupts k.paging 1)

-- Ruling 13, the full status word: bit 15 interrupts on, 14 paging on, 12 one, 11-8 the level, 7-0 the flags; document
-- 02, card 4: "the extended flag (control word 27, and bit 13 of the status word)". In a state in range each is below
-- the number that it is cut by; the cuts only make the result a word for any numbers.
abbrev pub status_word : ℕ → Control → ℕ → ℕ
status_word l k sts =
    k.interrupts % 2 * 0o100000 + k.paging % 2 * 0o040000 + k.extended % 2 * 0o020000 + 0o010000
    + l % level_count * 0o400
    + sts % status_range

-- TRA: what A gets at level l. Ruling 12: PVL gives the word of IRR (previous level) DP, ACTL the level decoded.
-- PVL is below 16; `% 16` only makes the result a word for any number.
abbrev pub internal_word : ℕ → Core → Readable → ℕ
internal_word l c Status = status_word l c.control (reg c.file Sts)
internal_word l c Pgs = c.control.pgs
internal_word l c Pvl = 0o153602 + c.control.pvl % level_count * 0o10
internal_word l c Iic = highest_in 15 c.control.iid
internal_word l c Pid = c.control.pid
internal_word l c Pie = c.control.pie
internal_word l c Actl = 2 ^ l

-- "TRA IIC gives the highest detected number, 0 if none, and clears IID.": all of it. Document 02, card 3: "PGS shall
-- keep the first fault until TRA PGS is executed, and only then take another"; ruling 42: it keeps its value.
abbrev pub after_reading : Control → Readable → Control
after_reading k Status = k
after_reading k Pgs = with_paging_status k k.pgs 0
after_reading k Pvl = k
after_reading k Iic = with_internal k 0 k.iie
after_reading k Pid = k
after_reading k Pie = k
after_reading k Actl = k

abbrev pub read : ℕ → Core → Readable → Core
read l c r = with_control (with_file c (with_reg c.file A (internal_word l c r))) (after_reading c.control r)

-- the running level's STS: "IRW, LRB and TRR of STS keep bits 7-0 only"; ruling 13: so do MCL and MST
abbrev pub with_sts : Core → ℕ → Core
with_sts c w = with_file c (with_reg c.file Sts (w % status_range))

-- TRR of A; ruling 8: that of IIE never sets PID
abbrev pub written : Core → Writable → Core
written c ToStatus = with_sts c (reg c.file A)
written c ToIie = with_control c (with_internal c.control c.control.iid (interrupt_mask (reg c.file A)))
written c ToPid = with_control c (with_pid c.control (reg c.file A))
written c ToPie = with_control c (with_pie c.control (reg c.file A))

-- the registers that MCL and MST reach: what one of them holds, and the core with another word in it
abbrev pub maskable_word : Core → Maskable → ℕ
maskable_word c InStatus = reg c.file Sts
maskable_word c InPid = c.control.pid
maskable_word c InPie = c.control.pie

abbrev pub with_maskable : Core → Maskable → ℕ → Core
with_maskable c InStatus w = with_sts c w
with_maskable c InPid w = with_control c (with_pid c.control w)
with_maskable c InPie w = with_control c (with_pie c.control w)

-- MCL clears the bits that are set in A, MST sets them
abbrev pub bits_cleared : Core → Maskable → Core
bits_cleared c r = with_maskable c r (bit_and (maskable_word c r) (complement (reg c.file A)))

abbrev pub bits_set : Core → Maskable → Core
bits_set c r = with_maskable c r (bit_or (maskable_word c r) (reg c.file A))

-- interrupts and paging on or off
abbrev pub switched : Core → ℕ → ℕ → Core
switched c i p = with_control c (with_switches c.control i p c.control.stopped)

-- The core c at level l, of which P is one further, after the instruction. Ruling R6: SEX and REX set the extended flag
-- and clear it, and do nothing else.
abbrev pub controlled : ℕ → Core → ControlOp → Core
controlled l c Ion = switched c 1 c.control.paging
controlled l c Iof = switched c 0 c.control.paging
controlled l c Pon = switched c c.control.interrupts 1
controlled l c Pof = switched c c.control.interrupts 0
controlled l c Pion = switched c 1 1
controlled l c Piof = switched c 0 0
controlled l c Sex = with_control c (with_extended c.control 1)
controlled l c Rex = with_control c (with_extended c.control 0)
controlled l c Wait = with_control c (waited l c.control)
controlled l c (Tra r) = read l c r
controlled l c (Trr r) = written c r
controlled l c (Mcl r) = bits_cleared c r
controlled l c (Mst r) = bits_set c r
