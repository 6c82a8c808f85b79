-- The second word passed, as the first did.
use Rattle.std.proofs.Common.{◌+◌, [], ◌∷◌, length, sym, ◌∙◌}
use Rattle.isa.specs.Pages.{store_all}
use Rattle.isa.specs.Physical.{physical_place, transferred}
use Rattle.paging.proofs.Outcomes.{nth_passed}
use Rattle.exec_physical.proofs.Laws.{both_moved}
use Rattle.exec_physical.proofs.transfer.Goals as goal

pub returns : goal.returns
returns c =
    let a = c.args in
    let x = c.in_ok-x.x in
    let y = c.in_ok-y.y in
    let p = c.physical_place in
    let q = c.physical_place-2 in
    let first = nth_passed p.result 1 x (c.in_ok-x.ensures {u = tt}) in
    let second = nth_passed q.result 2 y (c.in_ok-y.ensures {u = tt}) in
    both_moved a.f a.extended a.o a.d a.mem.now a.tables.now c.store_at-2.new.mem c.store_at-2.new.tables
    c.store_at-3.new.mem c.store_at-3.new.tables x y c.loaded-g-2.result
    (sym c.if-not-two_words.ensures)
    (first ∙ p.ensures.value
    ∙ λ i. physical_place a.extended (length a.mem.now) (c.kind_of.ensures i) (c.address-p.ensures.value i))
    (second ∙ q.ensures.value
    ∙ λ i. physical_place a.extended (length a.mem.now) (c.kind_of-2.ensures i) (c.address-p.ensures.value i + 1))
    (c.loaded-g-2.ensures ∙ λ i. transferred a.o a.f (c.word_at-2.ensures i) (c.word_at-3.ensures i))
    (c.store_at-2.ensures ∙ λ i. store_all a.mem.now a.tables.now (x ∷ []) ((c.stores-w.ensures i).a ∷ []))
    (c.store_at-3.ensures
    ∙ λ i. store_all c.store_at-2.new.mem c.store_at-2.new.tables (y ∷ []) ((c.stores-w.ensures i).b ∷ []))
