-- Document 02, card 1: "Images gain kind 5, the devices' words (order and ranges in docs/; out of range is 2), all 0
-- when cleared". Ruling 37 has order and ranges, docs/DEVICES.md tells them.
use Rattle.std.specs.Prelude.{ℕ, Bool, ◌&&◌, List, [], ◌∷◌, nat_lt, slice_index}
use Rattle.isa.specs.declared.device.Clock.{Clock}
use Rattle.isa.specs.declared.device.TerminalInput.{TerminalInput}
use Rattle.isa.specs.declared.device.TerminalOutput.{TerminalOutput}
use Rattle.isa.specs.declared.device.Devices.{Devices}

abbrev pub device_count : ℕ
device_count = 12

-- "0 clock enabled, 1 clock ready, 2 clock asks; 3 input enabled, 4 input unread, 5 input asks, 6 input character, 7
-- length (bits 12-11 of 0303); 8 output enabled, 9 output waits, 10 output asks, 11 output character"
abbrev pub device_words : Devices → List ℕ
device_words d =
    d.clock.enabled
    ∷ d.clock.ready
    ∷ d.clock.asks
    ∷ d.input.enabled
    ∷ d.input.unread
    ∷ d.input.asks
    ∷ d.input.character
    ∷ d.input.length
    ∷ d.output.enabled
    ∷ d.output.waits
    ∷ d.output.asks
    ∷ d.output.character
    ∷ []

-- the devices of these words; a list of twelve has each that is taken
abbrev pub devices_of : List ℕ → Devices
devices_of ws = record {
  clock = record { enabled = slice_index ws 0; ready = slice_index ws 1; asks = slice_index ws 2 };
  input = record {
    enabled = slice_index ws 3;
    unread = slice_index ws 4;
    asks = slice_index ws 5;
    character = slice_index ws 6;
    length = slice_index ws 7;
  };
  output = record {
    enabled = slice_index ws 8;
    waits = slice_index ws 9;
    asks = slice_index ws 10;
    character = slice_index ws 11;
  };
}

-- "all 0 when cleared"
abbrev pub cleared_devices : Devices
cleared_devices = devices_of []

-- "Words 6 and 11 are 0 to 255, word 7 is 0 to 3, the others 0 or 1; any combination is in range"
abbrev pub character_range : ℕ
character_range = 256

abbrev pub length_range : ℕ
length_range = 4

abbrev pub clock_in_range : Clock → Bool
clock_in_range x = nat_lt x.enabled 2 && nat_lt x.ready 2 && nat_lt x.asks 2

abbrev pub input_in_range : TerminalInput → Bool
input_in_range x =
    nat_lt x.enabled 2 && nat_lt x.unread 2 && nat_lt x.asks 2 && nat_lt x.character character_range
    && nat_lt x.length length_range

abbrev pub output_in_range : TerminalOutput → Bool
output_in_range x =
    nat_lt x.enabled 2 && nat_lt x.waits 2 && nat_lt x.asks 2 && nat_lt x.character character_range

abbrev pub devices_in_range : Devices → Bool
devices_in_range d = clock_in_range d.clock && input_in_range d.input && output_in_range d.output
