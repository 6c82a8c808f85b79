-- The words viewed are no more than asked, and the output has room for those.
use Rattle.std.proofs.Common.{◌≤◌, length, sym, ap, arith, length-take-le}
use Rattle.nd110.proofs.Laws.{viewed_most}
use Rattle.nd110.proofs.nd110_view.Goals as goal

pub slice_bounds-copy_words-end-then-known_target : goal.slice_bounds-copy_words-end-then-known_target
slice_bounds-copy_words-end-then-known_target c =
    let a = c.args in
    let e = ap length c.view-part.ensures in
    let most = viewed_most c.target_named.result a.start a.len a.mem.now a.tables.now in
    let room : length c.view-part.result.now ≤ length a.out.now = omega (arith, e, most, c.if-out-len.false) in
    sym (length-take-le (length c.view-part.result.now) a.out.now room)

pub copy_words-requires : goal.copy_words-requires
copy_words-requires c =
    let a = c.args in
    let e = ap length c.view-part.ensures in
    let most = viewed_most c.target_named.result a.start a.len a.mem.now a.tables.now in
    let room : length c.view-part.result.now ≤ length a.out.now = omega (arith, e, most, c.if-out-len.false) in
    sym (length-take-le (length c.view-part.result.now) a.out.now room)
