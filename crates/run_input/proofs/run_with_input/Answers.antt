-- The input at the loop's place is one of the lists', which each of them has; the run goes on to its step.
use Rattle.std.proofs.Common.{◌≡◌, min, ℕ, suc, ◌<◌, List, ◌∷◌, length, get_or, take, drop, sym, refl, ap, ◌∙◌, arith}
use Rattle.isa.specs.Machine.{state_with}
use Rattle.isa.specs.DeviceInput.{input_call, input_of, given_of}
use Rattle.isa.specs.declared.device.DeviceInput.{DeviceInput}
use Rattle.run_input.proofs.Laws.{at_start, given_at, given_past, ends_past, ends_beyond, ends_before}
use Rattle.run_input.proofs.Laws.{goes_on_law, ended_run}
use Rattle.run_input.proofs.run_with_input.Goals as goal

-- the input at place i, which is below the count of all three lists
next_given : (i n : ℕ) (at what : List ℕ) {count two : ℕ} → i < count → count ≡ min two (length what)
    → two ≡ min (length at) n
    → drop i (given_of (take n at) what)
    ≡ record { at = get_or at i 0; input = input_of (get_or what i 0) } ∷ drop (suc i) (given_of (take n at) what)
next_given i n at what h all two =
    given_at i n at what (omega arith) (omega arith) (omega arith)

-- no input was handed in
pub loop-i-init : goal.loop-i-init
loop-i-init c =
    let a = c.args in
    record {
      stands =
          at_start a.n (given_of (take (length a.told.now) a.at.now) a.what.now)
          (state_with a.start a.k a.regs.now a.pcrs.now) a.mem.now a.tables.now a.told.now;
      level = c.requires.start_lt_level_count;
      within = omega arith;
    }

-- the next input is beyond n
pub returns-then-n-due-clause-tables_after : goal.returns-then-n-due-clause-tables_after
returns-then-n-due-clause-tables_after c =
    let a = c.args in
    let l = c.loop-i in
    let split = next_given l.i (length a.told.now) a.at.now a.what.now c.loop-i-test.true
    c.min-count.ensures c.min.ensures in
    rw c.end_of.ensures
    (ends_beyond l.invariant.stands _ _ split _ c.if-n-due.true
    c.run_on-last.ensures.tables_after)

-- the input was handed in
pub loop-i-preserved : goal.loop-i-preserved
loop-i-preserved c =
    let a = c.args in
    let l = c.loop-i in
    let all = c.min-count.ensures in
    let two = c.min.ensures in
    let room : l.i < length a.told.now = omega (arith, c.loop-i-test.true, all, two) in
    let split = next_given l.i (length a.told.now) a.at.now a.what.now c.loop-i-test.true all two in
    let r = c.run_on-r.result in
    let left = c.run_on-r.new in
    let h = c.hand_in-h.result in
    record {
      stands =
          goes_on_law l.invariant.stands _ _ split c.if-n-due.false
          (ended_run r left.regs left.pcrs left.mem left.tables) c.run_on-r.ensures.tables_after
          (sym c.is_spent.ensures ∙ c.if-not-is_spent.false)
          (record { told = h.told; state = state_with r.level h.control left.regs left.pcrs })
          (ap (λ (i : DeviceInput). input_call i (state_with r.level r.control left.regs left.pcrs))
          (sym c.from.ensures)
          ∙ c.hand_in-h.ensures r.level left.regs left.pcrs)
          refl (omega (arith, room, l.invariant.stands.size)) _ refl;
      level = c.run_on-r.ensures.level_after;
      within = omega arith;
    }

-- the run ended before the input's step
pub returns-then-not-is_spent-clause-tables_after : goal.returns-then-not-is_spent-clause-tables_after
returns-then-not-is_spent-clause-tables_after c =
    let a = c.args in
    let l = c.loop-i in
    let split = next_given l.i (length a.told.now) a.at.now a.what.now c.loop-i-test.true
    c.min-count.ensures c.min.ensures in
    rw c.end_of-then-not-is_spent.ensures
    (ends_before l.invariant.stands _ _ split c.if-n-due.false _
    c.run_on-r.ensures.tables_after (sym c.is_spent.ensures ∙ c.if-not-is_spent.true))

-- no input is left
pub returns-clause-tables_after : goal.returns-clause-tables_after
returns-clause-tables_after c =
    let a = c.args in
    let l = c.loop-i in
    let all = c.min-count.ensures in
    let two = c.min.ensures in
    let none : l.i < length a.told.now → l.i < length a.at.now → l.i < length a.what.now → ⊥ =
    λ u v w. let no : ⊥ = omega (arith, all, two, c.loop-i-test.false) in no in
    let through : l.i ≡ c.min-count.result = omega (arith, l.invariant.within, c.loop-i-test.false) in
    rw (c.end_of-2.ensures, ← through)
    (ends_past l.invariant.stands _ (given_past l.i (length a.told.now) a.at.now a.what.now none)
    c.run_on-last-2.ensures.tables_after)
