-- The run of the steps to go, with those before it.
use Rattle.std.proofs.Common.{ℕ, ◌-◌, true, sym, ap, ◌∙◌, arith}
use Rattle.isa.specs.Machine.{state_with}
use Rattle.isa.specs.Run.{Run, counted_run, run_from}
use Rattle.isa.proofs.Runs.{run_taken, run_shift, later}
use Rattle.run_input.proofs.run_on.Goals as goal

pub overflow_add-result : goal.overflow_add-result
overflow_add-result c =
    let a = c.args in
    let s = state_with a.level a.k a.regs.now a.pcrs.now in
    let total =
    c.run-r.ensures.tables_after
    ∙ ap (λ (n : ℕ). run_from true n 0 s a.mem.now a.tables.now) c.saturating_sub.ensures in
    let most = (run_taken true (a.to - a.from) 0 s a.mem.now a.tables.now).most in
    let steps = ap (λ (r : Run). r.steps) total in
    record { fits = omega (arith, most, steps, c.ranges.from.fits, c.ranges.to.fits) }

pub returns-clause-tables_after : goal.returns-clause-tables_after
returns-clause-tables_after c =
    let a = c.args in
    let s = state_with a.level a.k a.regs.now a.pcrs.now in
    let total =
    c.run-r.ensures.tables_after
    ∙ ap (λ (n : ℕ). run_from true n 0 s a.mem.now a.tables.now) c.saturating_sub.ensures in
    ap (λ (y : Run). counted_run a.references (later a.from y)) total
    ∙ ap (counted_run a.references) (sym (run_shift true (a.to - a.from) a.from s a.mem.now a.tables.now))
