-- Event by event.
use Rattle.std.proofs.Common.{ap, ◌∙◌, ℤ, rules}
use mir.Syntax.{w16}
use mir.Val.{SFits}
use mir.ValLaws.{to_z-of_z}
use Rattle.std.specs.declared.option.Option.TheVariants.{Some}
use Rattle.isa.specs.Machine.{interrupt_mon}
use Rattle.isa.specs.Flags.{bits_of}
use Rattle.isa.specs.Step.{part, gives}
use Rattle.isa.specs.declared.answer.Far.TheVariants.{Call}
use Rattle.event.specs.Events.{event_part}
use Rattle.trap.proofs.after_event.Goals as goal

pub returns-in-None : goal.returns-in-None
unfolding event_part
returns-in-None c = simp c.in-None.is (c.left.ensures _ _)

pub returns-in-Some-Failed : goal.returns-in-Some-Failed
unfolding event_part
returns-in-Some-Failed c =
    let s = c.in-Some-Failed in
    simp (s.is, rw s.is at s.field-0-is) (c.failed.ensures _ _)

pub returns-in-Some-Error : goal.returns-in-Some-Error
unfolding event_part
returns-in-Some-Error c =
    let s = c.in-Some-Error in
    simp (s.is, rw s.is at s.field-0-is) (c.trapped.ensures _ _)

pub returns-in-Some-NotPrivileged : goal.returns-in-Some-NotPrivileged
unfolding event_part
returns-in-Some-NotPrivileged c =
    let s = c.in-Some-NotPrivileged in
    simp (s.is, rw s.is at s.field-0-is) (c.trapped-in-Some-NotPrivileged.ensures _ _)

pub returns-in-Some-Illegal : goal.returns-in-Some-Illegal
unfolding event_part
returns-in-Some-Illegal c =
    let s = c.in-Some-Illegal in
    simp (s.is, rw s.is at s.field-0-is) (c.trapped-in-Some-Illegal.ensures _ _)

pub returns-in-Some-Privileged : goal.returns-in-Some-Privileged
unfolding event_part
returns-in-Some-Privileged c =
    let s = c.in-Some-Privileged in
    simp (s.is, rw s.is at s.field-0-is) c.system_stage.ensures

-- MON: its number came through 16 bits
pub returns-in-Some-Monitor : goal.returns-in-Some-Monitor
unfolding event_part
returns-in-Some-Monitor c =
    let a = c.args in
    let s = c.in-Some-Monitor in
    let h : SFits w16 s.n = search rules in
    simp (s.is, rw s.is at s.field-0-is)
    (c.left-in-Some-Monitor.ensures _ _
    ∙ simp (c.word_of.ensures, c.gives.ensures)
    (ap (λ (z : ℤ). part (gives interrupt_mon a.c) interrupt_mon (Some (Call (bits_of 16 z))) a.mem.now a.tables.now)
    (to_z-of_z w16 s.n h)))
