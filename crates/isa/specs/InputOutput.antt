-- Document 02, card 1: "Fit the two devices of source document 000, section 6.9, with their registers, levels and
-- identification codes, so that IOX, IOXT and IDENT reach them". Sentences quoted here are of that section where
-- nothing else is said.
use Rattle.std.specs.Prelude.{ℕ, ◌+◌, ◌-◌, ◌*◌, ◌/◌, ◌%◌, ◌^◌, Bool, cond, ◌&&◌, Option, Some, None, List, [], ◌∷◌, ◌==◌}
use Rattle.isa.specs.Machine.{bit, with_bit, flag_of, reg, with_reg, with_file, with_control}
use Rattle.isa.specs.Devices.{length_range}
use Rattle.isa.specs.System.{with_devices}
use Rattle.isa.specs.declared.machine.Control.{Control}
use Rattle.isa.specs.declared.machine.Core.{Core}
use Rattle.isa.specs.declared.machine.Register.TheVariants.{A}
use Rattle.isa.specs.declared.device.Clock.{Clock}
use Rattle.isa.specs.declared.device.TerminalInput.{TerminalInput}
use Rattle.isa.specs.declared.device.TerminalOutput.{TerminalOutput}
use Rattle.isa.specs.declared.device.Devices.{Devices}
use Rattle.isa.specs.declared.device.DeviceRegister.{DeviceRegister}
use Rattle.isa.specs.declared.device.DeviceRegister.TheVariants.{ClockData, ClockCounter, ClockStatus}
use Rattle.isa.specs.declared.device.DeviceRegister.TheVariants.{ClockControl, InputData, InputNothing}
use Rattle.isa.specs.declared.device.DeviceRegister.TheVariants.{InputStatus, InputControl, OutputNothing}
use Rattle.isa.specs.declared.device.DeviceRegister.TheVariants.{OutputData, OutputStatus, OutputControl}
use Rattle.isa.specs.declared.device.Line.{Line}
use Rattle.isa.specs.declared.device.Line.TheVariants.{OutputLine, InputLine, ClockLine}

-- ---- addresses, levels, codes

-- "The real-time clock .. The device register address range is 10-13."; "The current loop interface .. 300-307."
-- Ruling 31: exactly these twelve answer, by all bits of the address.
abbrev pub register_rows : List (ℕ × DeviceRegister)
register_rows =
    (0o10, ClockData)
    ∷ (0o11, ClockCounter)
    ∷ (0o12, ClockStatus)
    ∷ (0o13, ClockControl)
    ∷ (0o300, InputData)
    ∷ (0o301, InputNothing)
    ∷ (0o302, InputStatus)
    ∷ (0o303, InputControl)
    ∷ (0o304, OutputNothing)
    ∷ (0o305, OutputData)
    ∷ (0o306, OutputStatus)
    ∷ (0o307, OutputControl)
    ∷ []

-- "interrupt 7 stays for all other addresses"
abbrev pub register_in : List (ℕ × DeviceRegister) → ℕ → Option DeviceRegister
register_in [] a = None
register_in (r ∷ rs) a = cond (a == r.0) (Some r.1) (register_in rs a)

unfoldable pub register_of : ℕ → Option DeviceRegister
register_of a = register_in register_rows a

-- ruling 30, by document 000's 6.7.2 and appendices B.1 and C: "input on level 12, output on level 10", the clock on
-- level 13, "ident code 1" of each
abbrev pub output_level : ℕ
output_level = 10

abbrev pub input_level : ℕ
input_level = 12

abbrev pub clock_level : ℕ
clock_level = 13

abbrev pub ident_code : ℕ
ident_code = 1

-- ---- asking

-- "enable interrupt if ready for transfer occurs". Ruling 33: "X asks" means that its flip-flop becomes 1 and the PID
-- bit of its level is set, also if it asked already; it does when it is enabled and ready, its ready having just
-- occurred or its control word having just been written.
abbrev pub asking : ℕ → ℕ → Bool
asking enabled ready = enabled == 1 && ready == 1

abbrev pub flip_flop_after : Bool → ℕ → ℕ
flip_flop_after now v = cond now 1 v

abbrev pub pid_after : Bool → ℕ → ℕ → ℕ
pid_after now level pid = cond now (with_bit level 1 pid) pid

abbrev pub with_clock : Devices → Clock → Devices
with_clock d x = record { clock = x; input = d.input; output = d.output }

abbrev pub with_input : Devices → TerminalInput → Devices
with_input d x = record { clock = d.clock; input = x; output = d.output }

abbrev pub with_output : Devices → TerminalOutput → Devices
with_output d x = record { clock = d.clock; input = d.input; output = x }

-- the control words with a device that is now so and asks if it is enabled and ready
abbrev pub clock_asking : Control → Clock → Control
clock_asking k x =
    let now = asking x.enabled x.ready in
    with_devices k (pid_after now clock_level k.pid)
    (with_clock k.devices (record { enabled = x.enabled; ready = x.ready; asks = flip_flop_after now x.asks }))

abbrev pub input_asking : Control → TerminalInput → Control
input_asking k x =
    let now = asking x.enabled x.unread in
    with_devices k (pid_after now input_level k.pid)
    (with_input k.devices (record {
      enabled = x.enabled;
      unread = x.unread;
      asks = flip_flop_after now x.asks;
      character = x.character;
      length = x.length;
    }))

-- document 02: "output is ready exactly while none waits"
abbrev pub output_ready : TerminalOutput → ℕ
output_ready x = flag_of (x.waits == 0)

abbrev pub output_asking : Control → TerminalOutput → Control
output_asking k x =
    let now = asking x.enabled (output_ready x) in
    with_devices k (pid_after now output_level k.pid)
    (with_output k.devices (record {
      enabled = x.enabled;
      waits = x.waits;
      asks = flip_flop_after now x.asks;
      character = x.character;
    }))

-- ---- what the registers do, in the order of the manual

-- "Bit 0 = 1; .. will give interrupt when it occurs. Bit 3 = 1; .. ready for transfer"; all other bits are 0 (ruling
-- 32). Both are 0 or 1; `% 2` only makes the result a word for any numbers.
abbrev pub ready_status : ℕ → ℕ → ℕ
ready_status enabled ready = enabled % 2 + ready % 2 * 0o10

-- Bits 11 and 12 of the input control word: "Bit 11 = 1 and Bit 12 = 1 signifies 5 bits code .. Bit 11 = 0 and Bit 12 =
-- 0 signifies 8 bits code": the low 8 less this number of bits. The length is below 4; `% 4` is there for any number.
abbrev pub length_of : ℕ → ℕ
length_of w = w / 2 ^ 11 % length_range

abbrev pub low_bits : ℕ → ℕ → ℕ
low_bits length w = w % 2 ^ (8 - length % length_range)

-- IOX 300: "The last character input is transferred to the A register. The data available signal is reset"
abbrev pub character_read : Control → Control
character_read k =
    let x = k.devices.input in
    with_devices k k.pid
    (with_input k.devices (record {
      enabled = x.enabled;
      unread = 0;
      asks = x.asks;
      character = x.character;
      length = x.length;
    }))

-- IOX 303: "Set input control."; stop bits and parity have no effect and are not kept (ruling 32)
abbrev pub input_controlled : Control → ℕ → Control
input_controlled k w =
    let x = k.devices.input in
    input_asking k
    (record {
      enabled = bit 0 w;
      unread = x.unread;
      asks = x.asks;
      character = x.character;
      length = length_of w;
    })

-- IOX 305: "Write data (according to input control word setting)."; ruling 32: one that waited is gone
abbrev pub character_sent : Control → ℕ → Control
character_sent k w =
    let x = k.devices.output in
    with_devices k k.pid
    (with_output k.devices (record {
      enabled = x.enabled;
      waits = 1;
      asks = x.asks;
      character = low_bits k.devices.input.length w;
    }))

-- IOX 307: "Set output control."
abbrev pub output_controlled : Control → ℕ → Control
output_controlled k w =
    let x = k.devices.output in
    output_asking k (record { enabled = bit 0 w; waits = x.waits; asks = x.asks; character = x.character })

-- IOX 13: "Bit 0 = 1; enable interrupt if ready for transfer occurs. Bit 13 = 1; clear ready for transfer."
abbrev pub clock_controlled : Control → ℕ → Control
clock_controlled k w =
    let x = k.devices.clock in
    clock_asking k (record { enabled = bit 0 w; ready = cond (bit 13 w == 1) 0 x.ready; asks = x.asks })

-- ---- IOX and IOXT

abbrev pub with_a : Core → ℕ → Core
with_a c w = with_file c (with_reg c.file A w)

-- Document 000, 6.3.3: an even address is input to A, an odd one output from A. "IOX 301: No operation."; "IOX 304, IOX
-- 10: Returns 0 in the A register and has no other effect."; "IOX 11: Clear real-time clock counter": the pulses are
-- the caller's ticks, so it does nothing (ruling 32).
abbrev pub exchanged : Core → DeviceRegister → Core
exchanged c ClockData = with_a c 0
exchanged c ClockCounter = c
exchanged c ClockStatus =
    with_a c (ready_status c.control.devices.clock.enabled c.control.devices.clock.ready)
exchanged c ClockControl = with_control c (clock_controlled c.control (reg c.file A))
exchanged c InputData =
    with_control
    (with_a c (low_bits c.control.devices.input.length c.control.devices.input.character))
    (character_read c.control)
exchanged c InputNothing = c
exchanged c InputStatus =
    with_a c (ready_status c.control.devices.input.enabled c.control.devices.input.unread)
exchanged c InputControl = with_control c (input_controlled c.control (reg c.file A))
exchanged c OutputNothing = with_a c 0
exchanged c OutputData = with_control c (character_sent c.control (reg c.file A))
exchanged c OutputStatus =
    with_a c (ready_status c.control.devices.output.enabled (output_ready c.control.devices.output))
exchanged c OutputControl = with_control c (output_controlled c.control (reg c.file A))

-- ---- IDENT

-- Document 002, IDENT, its table of level, mnemonic and code: "10 PL10 04", "11 PL11 11", "12 PL12 22", "13 PL13 43";
-- no device is on level 11. Ruling 34: with every other code, 7.
unfoldable pub line_of : ℕ → Option Line
line_of n =
    cond (n == 0o04) (Some OutputLine) (cond (n == 0o22) (Some InputLine) (cond (n == 0o43) (Some ClockLine) None))

-- 0 where the code names no line
abbrev pub flip_flop : Devices → Option Line → ℕ
flip_flop d (Some OutputLine) = d.output.asks
flip_flop d (Some InputLine) = d.input.asks
flip_flop d (Some ClockLine) = d.clock.asks
flip_flop d None = 0

-- document 000, 6.7.4: the device's interrupt flip-flop is cleared; ruling 33: by IDENT alone
abbrev pub without_asking : Devices → Option Line → Devices
without_asking d (Some OutputLine) =
    with_output d
    (record {
      enabled = d.output.enabled;
      waits = d.output.waits;
      asks = 0;
      character = d.output.character;
    })
without_asking d (Some InputLine) =
    with_input d
    (record {
      enabled = d.input.enabled;
      unread = d.input.unread;
      asks = 0;
      character = d.input.character;
      length = d.input.length;
    })
without_asking d (Some ClockLine) = with_clock d (record { enabled = d.clock.enabled; ready = d.clock.ready; asks = 0 })
without_asking d None = d

-- ruling 34: "A becomes 1, the flip-flop 0, nothing else"; ruling 35: IDENT leaves PID
abbrev pub identified : Core → Option Line → Core
identified c i =
    with_control (with_a c ident_code)
    (with_devices c.control c.control.pid (without_asking c.control.devices i))

-- ---- handed in between steps (document 02; ruling 36)

-- "A tick": "a clock pulse has occurred"
abbrev pub ticked : Control → Control
ticked k =
    let x = k.devices.clock in clock_asking k (record { enabled = x.enabled; ready = 1; asks = x.asks })

-- "a typed character": it is the last character, unread
abbrev pub typed : Control → ℕ → Control
typed k w =
    let x = k.devices.input in
    input_asking k
    (record { enabled = x.enabled; unread = 1; asks = x.asks; character = w; length = x.length })

-- "the character sent last is read out between steps, once": none waits any more
abbrev pub read_out : Control → Control
read_out k =
    let x = k.devices.output in
    output_asking k (record { enabled = x.enabled; waits = 0; asks = x.asks; character = x.character })
