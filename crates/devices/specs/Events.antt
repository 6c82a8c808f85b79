-- What device code answers to, by what it has in hand: the word in A, PID and the devices.
use Rattle.std.specs.Prelude.{ℕ, ◌≡◌, ◌==◌, cond, Option, Some, None, option_map}
use Rattle.isa.specs.Machine.{reg, with_reg, with_control}
use Rattle.isa.specs.System.{with_devices}
use Rattle.isa.specs.InputOutput.{register_of, with_a, exchanged, line_of, flip_flop, identified, ticked, typed}
use Rattle.isa.specs.InputOutput.{read_out}
use Rattle.isa.specs.declared.machine.Control.{Control}
use Rattle.isa.specs.declared.machine.Core.{Core}
use Rattle.isa.specs.declared.machine.File.{File}
use Rattle.isa.specs.declared.machine.Register.TheVariants.{A}
use Rattle.isa.specs.declared.device.Devices.{Devices}
use Rattle.isa.specs.declared.device.DeviceRegister.{DeviceRegister}
use Rattle.isa.specs.declared.device.Line.{Line}
use Rattle.devices.specs.declared.Acted.{Acted}
use Rattle.devices.specs.declared.event.DeviceEvent.{DeviceEvent}
use Rattle.devices.specs.declared.event.DeviceEvent.TheVariants.{Exchange, Identify, Tick, Typed, ReadOut}

-- what an answering device leaves: x has the word w for A, and of the control words what f makes of them
pub record Leaves (pid : ℕ) (d : Devices) (w : ℕ) (f : Control → Control) (x : Acted) : Type 0 where
  pub a : x.a ≡ w
  pub control : (k : Control) → with_devices k x.pid x.devices ≡ f (with_devices k pid d)

-- a core that has in A, PID and the devices what the code has in hand, its other words being those of any f, p and k;
-- and a core after an event
abbrev pub core_with : File → ℕ → Control → ℕ → ℕ → Devices → Core
core_with f p k a pid d = record { file = with_reg f A a; pcr = p; control = with_devices k pid d }

abbrev pub after_event : Core → Acted → Core
after_event c x = with_control (with_a c x.a) (with_devices c.control x.pid x.devices)

-- a transfer with the register r
pub record Exchanges (a pid : ℕ) (d : Devices) (r : DeviceRegister) (x : Acted) : Type 0 where
  pub core : (f : File) (p : ℕ) (k : Control)
      → let c = core_with f p k a pid d in after_event c x ≡ exchanged c r

-- what IDENT about the line i makes of a core, or none where its device does not ask
abbrev pub identified_core : Core → Option Line → Option Core
identified_core c i = cond (flip_flop c.control.devices i == 1) (Some (identified c i)) None

-- what an event makes of a core, or none where no device answers: IOX and IOXT by the address, IDENT by its code, and
-- what is handed in between steps; a typed character stands in A's place
abbrev pub event_core : Core → DeviceEvent → Option Core
event_core c (Exchange n) = option_map (exchanged c) (register_of n)
event_core c (Identify n) = identified_core c (line_of n)
event_core c Tick = Some (with_control c (ticked c.control))
event_core c Typed = Some (with_control c (typed c.control (reg c.file A)))
event_core c ReadOut = Some (with_control c (read_out c.control))

-- IDENT about the line i, and any event, by what the code has in hand
pub record Identifies (a pid : ℕ) (d : Devices) (i : Option Line) (x : Option Acted) : Type 0 where
  pub core : (f : File) (p : ℕ) (k : Control)
      → let c = core_with f p k a pid d in option_map (after_event c) x ≡ identified_core c i

pub record Acts (a pid : ℕ) (d : Devices) (e : DeviceEvent) (x : Option Acted) : Type 0 where
  pub core : (f : File) (p : ℕ) (k : Control)
      → let c = core_with f p k a pid d in option_map (after_event c) x ≡ event_core c e

-- the control words of the core that an event makes; those before it, where no device answers
abbrev pub control_after : Control → Option Core → Control
control_after k (Some c) = c.control
control_after k None = k
