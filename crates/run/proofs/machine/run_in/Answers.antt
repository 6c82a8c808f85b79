-- Before each step stopped, level and spent; after it interrupt.
use Rattle.std.proofs.Common.{◌≡◌, refl, false, not, ◌&&◌, eqb, sym, ◌∙◌, eq-eqb, ne_eqb}
use Rattle.isa.specs.Step.{Turn}
use Rattle.levels.specs.Changes.{due_at, advanced_turn}
use Rattle.run.proofs.Loops.{ends_stopped, ends_level, ends_at_rest, goes_on_law}
use Rattle.run.proofs.machine.run_in.Goals as goal

-- stopped
pub returns-then-core-eq1-clause-tables_after : goal.returns-then-core-eq1-clause-tables_after
returns-then-core-eq1-clause-tables_after c =
    rw c.ended.ensures
    (ends_stopped c.loop-steps.invariant.going c.loop-steps-test.true (eq-eqb _ _ c.if-core-eq1.true)).0

pub returns-then-core-eq1-clause-one_step : goal.returns-then-core-eq1-clause-one_step
returns-then-core-eq1-clause-one_step c =
    rw c.ended.ensures
    (ends_stopped c.loop-steps.invariant.going c.loop-steps-test.true (eq-eqb _ _ c.if-core-eq1.true)).1

-- a change of level is due
pub returns-then-level_ends-clause-tables_after : goal.returns-then-level_ends-clause-tables_after
returns-then-level_ends-clause-tables_after c =
    rw c.ended-then-level_ends.ensures
    (ends_level c.loop-steps.invariant.going (ne_eqb _ _ c.if-core-eq1.false)
    (sym c.level_ends.ensures ∙ c.if-level_ends.true)).0

-- the run goes on
pub loop-steps-preserved : goal.loop-steps-preserved
loop-steps-preserved c =
    let a = c.args in
    let l = c.loop-steps in
    let out = c.advance-out in
    let q : Turn = advanced_turn out.result out.new.regs out.new.pcrs out.new.mem out.new.tables in
    let stays : (a.first && due_at l.level l.core.control) ≡ false = sym c.level_ends.ensures ∙ c.if-level_ends.false in
    let silent : (a.first && not (eqb q.gave 0)) ≡ false = sym c.interrupt_ends.ensures ∙ c.if-interrupt_ends.false in
    record {
      going =
          goes_on_law l.invariant.going out.result q _ refl
          c.loop-steps-test.true
          out.ensures.level_lt_level_count.1 out.ensures.advance out.ensures.tables_value stays silent;
      level = out.ensures.level_lt_level_count.0;
    }

-- no more steps to go
pub returns-clause-tables_after : goal.returns-clause-tables_after
returns-clause-tables_after c =
    rw (c.ended-2.ensures, c.at_rest-reason.ensures)
    (ends_at_rest c.loop-steps.invariant.going c.loop-steps-test.false).0
