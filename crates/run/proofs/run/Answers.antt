-- The loop on the running level's words out of those of all levels, which are put back.
use Rattle.std.proofs.Common.{rules, ◌≡◌, ◌<◌, length, ap, ◌∙◌}
use Rattle.isa.specs.Machine.{state_with, pack, core_of, level_count, register_words}
use Rattle.isa.specs.Step.{step}
use Rattle.isa.specs.Run.{run_from}
use Rattle.run.specs.Runs.{ran_with, turn_with}
use Rattle.isa.proofs.Packing.{pack_open}
use Rattle.isa.specs.declared.machine.Core.{Core}
use Rattle.isa.specs.declared.machine.State.{State}
use Rattle.run.proofs.run.Goals as goal

-- the running level's words, taken out of a state's, make that state
packed : (s : State) {c : Core} → c ≡ core_of s → s.level < level_count → length s.regs ≡ register_words
    → pack s.level c s.regs s.pcr ≡ s
packed s e h l = ap (λ (c : Core). pack s.level c s.regs s.pcr) e ∙ pack_open s h l

pub returns-clause-tables_after : goal.returns-clause-tables_after
returns-clause-tables_after c =
    let a = c.args in
    let r = c.run_in-r in
    let e = r.result in
    let back = c.put_back.ensures in
    let s = state_with a.level a.k a.regs.now a.pcrs.now in
    (λ i.
    ran_with e.references e.reason e.steps
    (state_with e.level e.core.control (back.regs_after i) (back.pcrs_after i)) r.new.mem r.new.tables)
    ∙ r.ensures.tables_after
    ∙ ap (λ (x : State). run_from a.first a.n 0 x a.mem.now a.tables.now)
    (packed s c.opened-c.ensures c.requires.level_lt_level_count (search rules))

pub returns-clause-one_step : goal.returns-clause-one_step
returns-clause-one_step c =
    let a = c.args in
    let r = c.run_in-r in
    let e = r.result in
    let back = c.put_back.ensures in
    let s = state_with a.level a.k a.regs.now a.pcrs.now in
    λ o f. (λ i.
    turn_with e.references (state_with e.level e.core.control (back.regs_after i) (back.pcrs_after i)) e.gave
    r.new.mem r.new.tables)
    ∙ r.ensures.one_step o f
    ∙ ap (λ (x : State). step x a.mem.now a.tables.now)
    (packed s c.opened-c.ensures c.requires.level_lt_level_count (search rules))
