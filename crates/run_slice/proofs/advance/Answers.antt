-- A change of level is one step; a burst is settled as its last step.
use Rattle.std.proofs.Common.{rules, ◌≡◌, true, false, sym, ◌∙◌}
use Rattle.isa.specs.Machine.{pack}
use Rattle.isa.specs.Step.{Turn}
use Rattle.isa.specs.declared.machine.State.{State}
use Rattle.levels.specs.Changes.{due_at, advanced_turn}
use Rattle.run_level.specs.Bursts.{Executes}
use Rattle.run_slice.proofs.Advances.{advance_change, advance_burst}
use Rattle.run_slice.proofs.advance.Goals as goal

-- a change of level
pub returns-then-change_due-clause-advance : goal.returns-then-change_due-clause-advance
returns-then-change_due-clause-advance c =
    let a = c.args in
    let h = c.requires in
    let out = c.changed in
    let s : State = pack a.level a.c a.regs.now a.pcrs.now in
    let due : due_at a.level a.c.control ≡ true = sym c.change_due.ensures ∙ c.if-change_due.true in
    (advance_change s a.mem.now a.tables.now a.n out.result out.new.regs out.new.pcrs h.n_nonzero h.stopped_value due
    out.ensures.level_after (out.ensures.by_index a.mem.now a.tables.now)).1.0

pub returns-then-change_due-clause-tables_value : goal.returns-then-change_due-clause-tables_value
returns-then-change_due-clause-tables_value c =
    let a = c.args in
    let h = c.requires in
    let out = c.changed in
    let s : State = pack a.level a.c a.regs.now a.pcrs.now in
    let due : due_at a.level a.c.control ≡ true = sym c.change_due.ensures ∙ c.if-change_due.true in
    (advance_change s a.mem.now a.tables.now a.n out.result out.new.regs out.new.pcrs h.n_nonzero h.stopped_value due
    out.ensures.level_after (out.ensures.by_index a.mem.now a.tables.now)).1.1

-- a burst, and what its last step leaves
pub returns-clause-tables_value : goal.returns-clause-tables_value
returns-clause-tables_value c =
    let a = c.args in
    let h = c.requires in
    let burst = c.quiet_steps-b in
    let out = c.settled in
    let stays : due_at a.level a.c.control ≡ false = sym c.change_due.ensures ∙ c.if-change_due.false in
    let x : Executes a.level a.c.control = record { runs = h.stopped_value; stays = stays } in
    let r : Turn = advanced_turn out.result out.new.regs out.new.pcrs out.new.mem out.new.tables in
    (advance_burst a.level a.c a.regs.now a.pcrs.now a.mem.now a.tables.now burst.new.mem burst.new.tables a.n
    burst.result out.result r x (search rules) burst.ensures.quiet_steps burst.ensures.quiet_step
    out.ensures.level_value.1 out.ensures.tables_after).1
