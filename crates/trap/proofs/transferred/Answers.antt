-- What the seven were answered is the definition's stage, by whether all places passed.
use Rattle.std.proofs.Common.{ℕ, ◌≤◌, ap, ◌∙◌, arith}
use Rattle.isa.specs.Step.{counted}
use Rattle.isa.specs.Physical.{two_words}
use Rattle.isa.proofs.Tests.{either}
use Rattle.trap.proofs.Laws.{unreferenced, transfer_few, transfer_passed, transfer_failed}
use Rattle.trap.proofs.transferred.Goals as goal

pub counted-requires : goal.counted-requires
counted-requires c =
    let few : c.words_of.result ≤ 2 =
    rw c.words_of.ensures (either (λ (n : ℕ). n ≤ 2) (two_words c.args.o) (omega arith) (omega arith)) in
    omega (arith, few, unreferenced _ c.left.ensures)

-- all passed
pub returns-in-Ok : goal.returns-in-Ok
returns-in-Ok c =
    let a = c.args in
    c.counted.ensures _ _
    ∙ ap (counted c.words_of.result) (c.left.ensures _ _)
    ∙ transfer_passed a.c a.mem.now a.tables.now a.o a.d c.in-Ok.f c.with_file.result c.words_of.result _ _
    c.with_file.ensures c.words_of.ensures c.in-Ok.ensures

pub counted-requires-in-Err : goal.counted-requires-in-Err
counted-requires-in-Err c =
    let a = c.args in
    omega (
      arith,
      transfer_few a.c a.mem.now a.tables.now a.o a.d c.in-Err.e _ _ c.in-Err.ensures,
      unreferenced _ c.failed.ensures,
    )

-- one failed
pub returns-in-Err : goal.returns-in-Err
returns-in-Err c =
    let a = c.args in
    c.counted-in-Err.ensures _ _
    ∙ ap (counted c.in-Err.e.made) (c.failed.ensures _ _)
    ∙ transfer_failed a.c a.mem.now a.tables.now a.o a.d c.in-Err.e _ _ c.in-Err.ensures
