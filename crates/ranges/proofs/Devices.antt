-- The devices' words in range, one by one, as their tests say.
-- Assumes nothing.
use Prim.Native.Nat.{◌<◌}
use mathlib.Core.Path.{◌≡◌}
use mathlib.Core.Bool.{true}
use borrow.Author.Tests.{ltb-true, lt-ltb}
use Rattle.isa.specs.Devices.{character_range, length_range, clock_in_range, input_in_range, output_in_range, devices_in_range}
use Rattle.isa.specs.declared.device.Clock.{Clock}
use Rattle.isa.specs.declared.device.TerminalInput.{TerminalInput}
use Rattle.isa.specs.declared.device.TerminalOutput.{TerminalOutput}
use Rattle.isa.specs.declared.device.Devices.{Devices}
use Rattle.isa.proofs.Tests.{and_left, and_right, and_both}

pub record ClockFits (x : Clock) : Type 0 where
  pub enabled : x.enabled < 2
  pub ready : x.ready < 2
  pub asks : x.asks < 2

pub record InputFits (x : TerminalInput) : Type 0 where
  pub enabled : x.enabled < 2
  pub unread : x.unread < 2
  pub asks : x.asks < 2
  pub character : x.character < character_range
  pub length : x.length < length_range

pub record OutputFits (x : TerminalOutput) : Type 0 where
  pub enabled : x.enabled < 2
  pub waits : x.waits < 2
  pub asks : x.asks < 2
  pub character : x.character < character_range

pub record DevicesFit (d : Devices) : Type 0 where
  pub clock : ClockFits d.clock
  pub input : InputFits d.input
  pub output : OutputFits d.output

-- ---- from the tests

clock_range : (x : Clock) → clock_in_range x ≡ true → ClockFits x
clock_range x h = record {
  enabled = ltb-true x.enabled 2 (search (and_left, and_right));
  ready = ltb-true x.ready 2 (search (and_left, and_right));
  asks = ltb-true x.asks 2 (search (and_left, and_right));
}

input_range : (x : TerminalInput) → input_in_range x ≡ true → InputFits x
input_range x h = record {
  enabled = ltb-true x.enabled 2 (search (and_left, and_right) depth 5);
  unread = ltb-true x.unread 2 (search (and_left, and_right) depth 5);
  asks = ltb-true x.asks 2 (search (and_left, and_right) depth 5);
  character = ltb-true x.character character_range (search (and_left, and_right) depth 5);
  length = ltb-true x.length length_range (search (and_left, and_right) depth 5);
}

output_range : (x : TerminalOutput) → output_in_range x ≡ true → OutputFits x
output_range x h = record {
  enabled = ltb-true x.enabled 2 (search (and_left, and_right) depth 4);
  waits = ltb-true x.waits 2 (search (and_left, and_right) depth 4);
  asks = ltb-true x.asks 2 (search (and_left, and_right) depth 4);
  character = ltb-true x.character character_range (search (and_left, and_right) depth 4);
}

pub devices_range : (d : Devices) → devices_in_range d ≡ true → DevicesFit d
devices_range d h = record {
  clock = clock_range d.clock (search (and_left, and_right));
  input = input_range d.input (search (and_left, and_right));
  output = output_range d.output (search (and_left, and_right));
}

-- ---- and back

clock_test : (x : Clock) → ClockFits x → clock_in_range x ≡ true
clock_test x h =
    and_both (and_both (lt-ltb x.enabled 2 h.enabled) (lt-ltb x.ready 2 h.ready))
    (lt-ltb x.asks 2 h.asks)

input_test : (x : TerminalInput) → InputFits x → input_in_range x ≡ true
input_test x h =
    and_both
    (and_both
    (and_both (and_both (lt-ltb x.enabled 2 h.enabled) (lt-ltb x.unread 2 h.unread))
    (lt-ltb x.asks 2 h.asks))
    (lt-ltb x.character character_range h.character))
    (lt-ltb x.length length_range h.length)

output_test : (x : TerminalOutput) → OutputFits x → output_in_range x ≡ true
output_test x h =
    and_both
    (and_both (and_both (lt-ltb x.enabled 2 h.enabled) (lt-ltb x.waits 2 h.waits))
    (lt-ltb x.asks 2 h.asks))
    (lt-ltb x.character character_range h.character)

pub devices_test : (d : Devices) → DevicesFit d → devices_in_range d ≡ true
devices_test d h =
    and_both (and_both (clock_test d.clock h.clock) (input_test d.input h.input))
    (output_test d.output h.output)
