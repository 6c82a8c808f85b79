-- IOX, IOXT and IDENT, and what is handed in between steps, leave the control words and the devices in range.
-- Assumes nothing.
use Prim.Native.Nat.{ℕ, ◌-◌, ◌%◌, ◌^◌, ◌<◌, ◌≤◌}
use native.Mathlib.Nat.{mod-lt}
use native.Mathlib.Omega.{arith}
use mathlib.Core.Path.{refl}
use mathlib.Core.Bool.{Bool}
use Rattle.std.specs.Prelude.{Option, Some, None}
use lib.Dec.{eqb}
use lib.Pow.{pow_pos, pow_mono}
use Rattle.isa.specs.Machine.{level_count, bit}
use Rattle.isa.specs.Devices.{character_range, length_range}
use Rattle.isa.specs.InputOutput.{asking, flip_flop_after, pid_after, with_clock, with_input, with_output, clock_asking}
use Rattle.isa.specs.InputOutput.{input_asking, output_ready, output_asking, ready_status, low_bits, clock_level}
use Rattle.isa.specs.InputOutput.{character_read, input_controlled, character_sent, output_controlled, clock_controlled}
use Rattle.isa.specs.InputOutput.{input_level, output_level, with_a, exchanged, without_asking, identified, ticked, typed}
use Rattle.isa.specs.InputOutput.{read_out}
use Rattle.isa.specs.declared.machine.Control.{Control}
use Rattle.isa.specs.declared.machine.Core.{Core}
use Rattle.isa.specs.declared.machine.Register.TheVariants.{A}
use Rattle.isa.specs.declared.device.Clock.{Clock}
use Rattle.isa.specs.declared.device.TerminalInput.{TerminalInput}
use Rattle.isa.specs.declared.device.TerminalOutput.{TerminalOutput}
use Rattle.isa.specs.declared.device.Devices.{Devices}
use Rattle.isa.specs.declared.device.DeviceRegister.{DeviceRegister}
use Rattle.isa.specs.declared.device.DeviceRegister.TheVariants.{ClockData, ClockCounter, ClockStatus, ClockControl}
use Rattle.isa.specs.declared.device.DeviceRegister.TheVariants.{InputData, InputNothing, InputStatus, InputControl}
use Rattle.isa.specs.declared.device.DeviceRegister.TheVariants.{OutputNothing, OutputData, OutputStatus}
use Rattle.isa.specs.declared.device.DeviceRegister.TheVariants.{OutputControl}
use Rattle.isa.specs.declared.device.Line.{Line}
use Rattle.isa.specs.declared.device.Line.TheVariants.{OutputLine, InputLine, ClockLine}
use Rattle.isa.proofs.Tests.{either}
use Rattle.isa.proofs.Bits.{bit_below}
use Rattle.ranges.proofs.Files.{bit_two, with_word}
use Rattle.ranges.proofs.Devices.{ClockFits, InputFits, OutputFits, DevicesFit}
use Rattle.ranges.proofs.Control.{ControlFits, CoreFits, devices_fit, file_fits, control_fits}

-- ---- a device that asks

-- a flip-flop, and PID with the bit of a level
flip_flop_fits : (now : Bool) {v : ℕ} → v < 2 → flip_flop_after now v < 2
flip_flop_fits now h = either (λ (v : ℕ). v < 2) now (omega arith) h

pid_after_fits : (now : Bool) (l : ℕ) {w : ℕ} → l < level_count → w < 65536 → pid_after now l w < 65536
pid_after_fits now l {w} k h =
    either (λ (v : ℕ). v < 65536) now (bit_below 16 l 1 w k (omega arith) h) h

-- each device in place of the one that was
clock_placed : {d : Devices} {x : Clock} → DevicesFit d → ClockFits x → DevicesFit (with_clock d x)
clock_placed q h = record { clock = h; input = q.input; output = q.output }

input_placed : {d : Devices} {x : TerminalInput} → DevicesFit d → InputFits x → DevicesFit (with_input d x)
input_placed q h = record { clock = q.clock; input = h; output = q.output }

output_placed : {d : Devices} {x : TerminalOutput} → DevicesFit d → OutputFits x → DevicesFit (with_output d x)
output_placed q h = record { clock = q.clock; input = q.input; output = h }

-- .. which asks if it is enabled and ready
clock_asking_fits : {k : Control} {x : Clock} → ControlFits k → ClockFits x → ControlFits (clock_asking k x)
clock_asking_fits {k} {x} q h =
    let now : Bool = asking x.enabled x.ready in
    devices_fit q (pid_after_fits now clock_level (omega arith) q.pid)
    (clock_placed q.devices (record {
      enabled = h.enabled;
      ready = h.ready;
      asks = flip_flop_fits now h.asks;
    }))

input_asking_fits : {k : Control} {x : TerminalInput} → ControlFits k → InputFits x → ControlFits (input_asking k x)
input_asking_fits {k} {x} q h =
    let now : Bool = asking x.enabled x.unread in
    devices_fit q (pid_after_fits now input_level (omega arith) q.pid)
    (input_placed q.devices (record {
      enabled = h.enabled;
      unread = h.unread;
      asks = flip_flop_fits now h.asks;
      character = h.character;
      length = h.length;
    }))

output_asking_fits : {k : Control} {x : TerminalOutput} → ControlFits k → OutputFits x → ControlFits (output_asking k x)
output_asking_fits {k} {x} q h =
    let now : Bool = asking x.enabled (output_ready x) in
    devices_fit q (pid_after_fits now output_level (omega arith) q.pid)
    (output_placed q.devices (record {
      enabled = h.enabled;
      waits = h.waits;
      asks = flip_flop_fits now h.asks;
      character = h.character;
    }))

-- ---- handed in between steps

pub ticked_fits : {k : Control} → ControlFits k → ControlFits (ticked k)
ticked_fits q =
    let x = q.devices.clock in
    clock_asking_fits q (record { enabled = x.enabled; ready = omega arith; asks = x.asks })

pub typed_fits : {k : Control} → ControlFits k → {w : ℕ} → w < character_range → ControlFits (typed k w)
typed_fits q h =
    let x = q.devices.input in
    input_asking_fits q
    (record { enabled = x.enabled; unread = omega arith; asks = x.asks; character = h; length = x.length })

pub read_out_fits : {k : Control} → ControlFits k → ControlFits (read_out k)
read_out_fits q =
    let x = q.devices.output in
    output_asking_fits q
    (record { enabled = x.enabled; waits = omega arith; asks = x.asks; character = x.character })

-- ---- IOX and IOXT

-- a character of any length, and a status
low_bits_fit : (n w : ℕ) → low_bits n w < character_range
low_bits_fit n w =
    let j : ℕ = 8 - n % length_range in
    let below : 2 ^ j ≤ 2 ^ 8 = pow_mono {i = j} {j = 8} (omega arith) in
    omega (arith, below, mod-lt w (pow_pos j))

status_word_law : (e r : ℕ) → ready_status e r < 65536
status_word_law e r = omega arith

-- A takes a word
a_fits : {c : Core} → CoreFits c → {w : ℕ} → w < 65536 → CoreFits (with_a c w)
a_fits q h = file_fits q (with_word q.file A refl h)

character_read_fits : {k : Control} → ControlFits k → ControlFits (character_read k)
character_read_fits q =
    let x = q.devices.input in
    devices_fit q q.pid
    (input_placed q.devices (record {
      enabled = x.enabled;
      unread = omega arith;
      asks = x.asks;
      character = x.character;
      length = x.length;
    }))

input_controlled_fits : {k : Control} → ControlFits k → (w : ℕ) → ControlFits (input_controlled k w)
input_controlled_fits q w =
    let x = q.devices.input in
    input_asking_fits q
    (record {
      enabled = bit_two 0 w;
      unread = x.unread;
      asks = x.asks;
      character = x.character;
      length = omega arith;
    })

character_sent_fits : {k : Control} → ControlFits k → (w : ℕ) → ControlFits (character_sent k w)
character_sent_fits {k} q w =
    let x = q.devices.output in
    devices_fit q q.pid
    (output_placed q.devices (record {
      enabled = x.enabled;
      waits = omega arith;
      asks = x.asks;
      character = low_bits_fit k.devices.input.length w;
    }))

output_controlled_fits : {k : Control} → ControlFits k → (w : ℕ) → ControlFits (output_controlled k w)
output_controlled_fits q w =
    let x = q.devices.output in
    output_asking_fits q
    (record { enabled = bit_two 0 w; waits = x.waits; asks = x.asks; character = x.character })

clock_controlled_fits : {k : Control} → ControlFits k → (w : ℕ) → ControlFits (clock_controlled k w)
clock_controlled_fits q w =
    let x = q.devices.clock in
    clock_asking_fits q
    (record {
      enabled = bit_two 0 w;
      ready = either (λ (v : ℕ). v < 2) (eqb (bit 13 w) 1) (omega arith) x.ready;
      asks = x.asks;
    })

-- each register
pub exchanged_fits : {c : Core} → CoreFits c → (r : DeviceRegister) → CoreFits (exchanged c r)
exchanged_fits q ClockData = a_fits q (omega arith)
exchanged_fits q ClockCounter = q
exchanged_fits q ClockStatus = a_fits q (status_word_law _ _)
exchanged_fits q ClockControl = control_fits q (clock_controlled_fits q.control _)
exchanged_fits {c} q InputData =
    let x = c.control.devices.input in
    control_fits (a_fits q (omega (arith, low_bits_fit x.length x.character))) (character_read_fits q.control)
exchanged_fits q InputNothing = q
exchanged_fits q InputStatus = a_fits q (status_word_law _ _)
exchanged_fits q InputControl = control_fits q (input_controlled_fits q.control _)
exchanged_fits q OutputNothing = a_fits q (omega arith)
exchanged_fits q OutputData = control_fits q (character_sent_fits q.control _)
exchanged_fits q OutputStatus = a_fits q (status_word_law _ _)
exchanged_fits q OutputControl = control_fits q (output_controlled_fits q.control _)

-- ---- IDENT

without_asking_fits : {d : Devices} → DevicesFit d → (i : Option Line) → DevicesFit (without_asking d i)
without_asking_fits q (Some OutputLine) =
    let x = q.output in
    output_placed q (record { enabled = x.enabled; waits = x.waits; asks = omega arith; character = x.character })
without_asking_fits q (Some InputLine) =
    let x = q.input in
    input_placed q
    (record {
      enabled = x.enabled;
      unread = x.unread;
      asks = omega arith;
      character = x.character;
      length = x.length;
    })
without_asking_fits q (Some ClockLine) =
    let x = q.clock in clock_placed q (record { enabled = x.enabled; ready = x.ready; asks = omega arith })
without_asking_fits q None = q

pub identified_fits : {c : Core} → CoreFits c → (i : Option Line) → CoreFits (identified c i)
identified_fits q i =
    control_fits (a_fits q (omega arith)) (devices_fit q.control q.control.pid
    (without_asking_fits q.control.devices i))
