-- What is left of a step, as a part of the definitions.
use Rattle.std.specs.Prelude.{ℕ, Option, Some, None, List}
use Rattle.isa.specs.Machine.{interrupt_iox}
use Rattle.isa.specs.Step.{Part, part, trapped}
use Rattle.isa.specs.declared.machine.Core.{Core}
use Rattle.isa.specs.declared.answer.Near.{Near}
use Rattle.devices.specs.Events.{event_core}
use Rattle.devices.specs.declared.event.DeviceEvent.{DeviceEvent}

-- what a step leaves of the running level, with memory and tables
abbrev pub near_part : Near → List ℕ → List ℕ → Part
near_part n m t = record { near = n; memory = m; tables = t }

-- the core that the answering device leaves; interrupt 7 where none answers
abbrev pub answered_stage : Core → List ℕ → List ℕ → Option Core → Part
answered_stage c m t (Some d) = part d 0 None m t
answered_stage c m t None = trapped interrupt_iox c m t

-- an instruction that reaches the devices
abbrev pub event_stage : Core → List ℕ → List ℕ → DeviceEvent → Part
event_stage c m t e = answered_stage c m t (event_core c e)
