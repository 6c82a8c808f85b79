-- Each step that is fine is one more of the run's; the last one leaves its event.
use Rattle.std.proofs.Common.{◌≡◌, ℕ, suc, refl, ◌+◌, ◌%◌, ◌-◌, ◌<◌, true, sym, ap, ◌∙◌, subst, arith, rules}
use Rattle.std.specs.declared.option.Option.{Option}
use Rattle.std.specs.declared.option.Option.TheVariants.{None}
use borrow.Author.Tests.{not-false}
use Rattle.isa.specs.Run.{sum_range}
use Rattle.isa.specs.declared.access.Rights.{Rights}
use Rattle.event.specs.Events.{is_fine}
use Rattle.event.specs.declared.Event.{Event}
use Rattle.paging.specs.Levels.{on_ring}
use Rattle.run_level.proofs.Bursts.{Level, Steps, Quiet, all_quiet, then_ends}
use Rattle.run_level.proofs.Bursts.{then_quiet, level_on, stepped}
use Rattle.run_level.proofs.Laws.{fine_event}
use Rattle.run_level.proofs.quiet_steps.Invariants.{begun}
use Rattle.run_level.proofs.quiet_steps.Goals as goal

-- the step's event ends the burst
pub returns-then-ends-clause-quiet_steps : goal.returns-then-ends-clause-quiet_steps
returns-then-ends-clause-quiet_steps c =
    let a = c.args in
    let l = c.loop-left in
    let s = c.step_in-s in
    let fewer : a.n - l.left < a.n = omega arith in
    let few : s.result.references < sum_range = search rules in
    let there : Level = level_on s.result.file a.p s.result.ring s.new.mem s.new.tables in
    let rights = c.on_ring.ensures ∙ ap (λ (r : Rights). on_ring r l.ring) c.level_rights-base.ensures.value in
    let one = stepped a.paging a.extended a.p l.ring l.file l.mem l.tables s.result s.new.mem s.new.tables
    l.invariant.on
    rights s.ensures.step_of_level in
    rw c.burst_of.ensures
    (then_ends l.invariant.quiet fewer few refl there s.result.event one)

-- one more quiet step
pub loop-left-preserved : goal.loop-left-preserved
loop-left-preserved c =
    let a = c.args in
    let l = c.loop-left in
    let s = c.step_in-s in
    let made = s.result.references in
    let fewer : a.n - l.left < a.n = omega arith in
    let few : made < sum_range = search rules in
    let here : Level = level_on l.file a.p l.ring l.mem l.tables in
    let there : Level = level_on s.result.file a.p s.result.ring s.new.mem s.new.tables in
    let rights = c.on_ring.ensures ∙ ap (λ (r : Rights). on_ring r l.ring) c.level_rights-base.ensures.value in
    let one = stepped a.paging a.extended a.p l.ring l.file l.mem l.tables s.result s.new.mem s.new.tables
    l.invariant.on
    rights s.ensures.step_of_level in
    let e : Option Event = s.result.event in
    let well : is_fine e ≡ true = not-false (is_fine e) (sym c.ends.ensures ∙ c.if-ends.false) in
    let fine : e ≡ None = fine_event e well in
    let quiet : Steps a.paging a.extended here there made None =
    subst (Steps a.paging a.extended here there made) fine one in
    let next : suc (a.n - l.left) ≡ a.n - (l.left - 1) = omega arith in
    let start : Level = begun a.f a.p a.mem.now a.tables.now in
    record {
      quiet =
          subst (λ (k : ℕ). Quiet a.paging a.extended a.n start k there ((l.references + made) % sum_range)) next
          (then_quiet l.invariant.quiet fewer few refl there quiet);
      most = omega arith;
      on = s.ensures.ring_after;
      kept = rw c.on_ring.ensures at (s.ensures.kept_after well);
    }

-- all n steps were quiet
pub returns-clause-quiet_steps : goal.returns-clause-quiet_steps
returns-clause-quiet_steps c =
    let a = c.args in
    let l = c.loop-left in
    let d : Level = level_on l.file a.p l.ring l.mem l.tables in
    let all : a.n - l.left ≡ a.n = omega arith in
    let from : Level = begun a.f a.p a.mem.now a.tables.now in
    let q : Quiet a.paging a.extended a.n from a.n d l.references =
    subst (λ (k : ℕ). Quiet a.paging a.extended a.n from k d l.references) all l.invariant.quiet in
    rw c.burst_of-2.ensures (all_quiet q c.requires.n_nonzero)
