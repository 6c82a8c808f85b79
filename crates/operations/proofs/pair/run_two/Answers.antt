-- Each run is the definition's, and of two of those the theorem speaks.
use Rattle.operations.proofs.Laws.{side_by_side}
use Rattle.operations.proofs.pair.run_two.Goals as goal

pub returns : goal.returns
returns c =
    let a = c.args in
    side_by_side a.s a.n _ _ a.left.now a.tables.now a.right.now a.copies.now _ _
    c.run_with_input-a.ensures.tables_after c.run_with_input-b.ensures.tables_after
