-- How a step of the running level ends, and what that makes of the machine.
use Rattle.std.specs.Prelude.{ℕ, ◌+◌, Bool, true, false, cond, List}
use Rattle.std.specs.declared.option.Option.{Option}
use Rattle.std.specs.declared.option.Option.TheVariants.{None, Some}
use Rattle.isa.specs.Flags.{bits_of}
use Rattle.isa.specs.Machine.{interrupt_mon, interrupt_illegal, interrupt_error, interrupt_privileged, with_file}
use Rattle.isa.specs.Instructions.{Completed}
use Rattle.isa.specs.Step.{Part, part, counted, failed, trapped, gives, privileged, system_stage}
use Rattle.isa.specs.declared.machine.Core.{Core}
use Rattle.isa.specs.declared.answer.Far.TheVariants.{Call}
use Rattle.event.specs.declared.Event.{Event}
use Rattle.event.specs.declared.Event.TheVariants.{Failed, Error, Privileged, NotPrivileged}
use Rattle.event.specs.declared.Event.TheVariants.{Monitor, Illegal}
use Rattle.event.specs.declared.Ending.{Ending}

-- the event at level l in the core c, of which P is where the step leaves it
unfoldable pub event_part : ℕ → Core → List ℕ → List ℕ → Option Event → Part
event_part l c m t None = part c 0 None m t
event_part l c m t (Some (Failed x)) = failed c x m t
event_part l c m t (Some Error) = trapped interrupt_error c m t
event_part l c m t (Some (Privileged q)) = system_stage l c m t q
event_part l c m t (Some NotPrivileged) = trapped interrupt_privileged c m t
event_part l c m t (Some (Monitor n)) = part (gives interrupt_mon c) interrupt_mon (Some (Call (bits_of 16 n))) m t
event_part l c m t (Some Illegal) = trapped interrupt_illegal c m t

-- an instruction that ended well: nothing is left to be done
abbrev pub is_fine : Option Event → Bool
is_fine None = true
is_fine (Some e) = false

-- an access that failed tells its fault
abbrev pub tells_fault : Option Event → Bool
tells_fault None = true
tells_fault (Some (Failed None)) = false
tells_fault (Some (Failed (Some x))) = true
tells_fault (Some Error) = true
tells_fault (Some (Privileged q)) = true
tells_fault (Some NotPrivileged) = true
tells_fault (Some (Monitor n)) = true
tells_fault (Some Illegal) = true

-- the ending of a completion that makes no access: RDIV's error is an event
abbrev pub ending_of : Completed → Ending
ending_of k = record { references = 0; event = cond k.error (Some Error) None; file = k.file }

-- the ending e with n references before it
abbrev pub after_references : ℕ → Ending → Ending
after_references n e = record { references = n + e.references; event = e.event; file = e.file }

-- the event e, where a privileged instruction needs a ring that may execute it
unfoldable pub by_privilege : Bool → Option Event → Option Event
by_privilege b None = None
by_privilege b (Some (Failed x)) = Some (Failed x)
by_privilege b (Some Error) = Some Error
by_privilege b (Some (Privileged q)) = Some (cond b (Privileged q) NotPrivileged)
by_privilege b (Some NotPrivileged) = Some NotPrivileged
by_privilege b (Some (Monitor n)) = Some (Monitor n)
by_privilege b (Some Illegal) = Some Illegal

-- what the ending e leaves at level l, in the core c
abbrev pub ended_part : ℕ → Core → Ending → List ℕ → List ℕ → Part
ended_part l c e m t =
    counted e.references (event_part l (with_file c e.file) m t (by_privilege (privileged c) e.event))
