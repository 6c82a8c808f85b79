-- One access after the other: it passes, and the tests go on, or it fails.
use Rattle.std.proofs.Common.{◌+◌, ◌<◌, take, length, length-set, arith, ◌∙◌}
use Rattle.std.proofs.lemmas.List.{take_more_set}
use Rattle.paging.proofs.Outcomes.{nth_passed, nth_failed}
use Rattle.memory_words.proofs.TestLaws.{tests_more, tests_failed, within_more}
use Rattle.memory_words.proofs.test.test_words.Goals as goal

-- it failed
pub returns-in_err-place-clause-tables_after : goal.returns-in_err-place-clause-tables_after
returns-in_err-place-clause-tables_after g c =
    let a = c.args in
    let t = c.translate in
    let e = c.in_err-place.field-0.0 in
    let i = c.loop-i.i in
    (tests_failed a.tables.now a.words a.x.rights a.k a.x.alternate a.x.address g.row.N
    (take i c.loop-i.place-items) c.loop-i.tables t.new.tables i c.loop-i-test.true
    c.loop-i.invariant.0 t.ensures.tables_after e.fault
    ((nth_failed t.result (i + 1) e (c.in_err-place.ensures {u = tt})).0 ∙ t.ensures.value)).1

-- it passed
pub loop-i-preserved : goal.loop-i-preserved
loop-i-preserved g c =
    let a = c.args in
    let t = c.translate in
    let i = c.loop-i.i in
    let p = c.in_ok-place.field-0 in
    let passed = nth_passed t.result (i + 1) p (c.in_ok-place.ensures {u = tt}) in
    let within = rw (← passed) at t.ensures.within in
    let l : i < length c.loop-i.place-items = omega (arith, c.loop-i-test.true, c.loop-i.invariant.2) in
    rw take_more_set (
      tests_more a.tables.now a.words a.x.rights a.k a.x.alternate a.x.address g.row.N
          (take i c.loop-i.place-items) c.loop-i.tables t.new.tables i c.loop-i-test.true
          c.loop-i.invariant.0 t.ensures.tables_after p (passed ∙ t.ensures.value),
      within_more a.words (take i c.loop-i.place-items) p c.loop-i.invariant.1 within,
      length-set _ _ _ ∙ c.loop-i.invariant.2,
    )
