-- By write's answer: the image is loaded, or nothing is.
use Rattle.std.proofs.Common.{◌≤◌, ◌+◌, length, refl, sym, ◌∙◌, arith, length-take-le}
use Rattle.isa.specs.Images.{beside_memory}
use Rattle.operations.proofs.Types.{typed}
use Rattle.operations.proofs.Images.{write_room, write_loaded}
use Rattle.operations.proofs.reload.write_and_load.Goals as goal

-- the output has room for the image
pub slice_bounds-load-end : goal.slice_bounds-load-end
slice_bounds-load-end c =
    let a = c.args in
    let done = sym c.write.ensures.value ∙ c.in-Ok.is in
    omega (arith, write_room a.s a.mem.now a.tables.now a.out.now done, c.write.auto.out)

pub slice_bounds-load-end-in-Ok : goal.slice_bounds-load-end-in-Ok
slice_bounds-load-end-in-Ok c =
    let a = c.args in
    let done = sym c.write.ensures.value ∙ c.in-Ok.is in
    let room : length a.mem.now + beside_memory ≤ length c.write.new.out =
    omega (arith, write_room a.s a.mem.now a.tables.now a.out.now done, c.write.auto.out) in
    sym (length-take-le (length a.mem.now + beside_memory) c.write.new.out room)

-- written, then loaded
pub returns-in-Ok : goal.returns-in-Ok
returns-in-Ok c =
    let a = c.args in
    write_loaded a.s a.mem.now a.tables.now a.out.now a.old a.to.now a.copies.now _ c.write.ensures.out_after
    (typed a.s _ c.well_formed.0) (sym c.in-Ok.is ∙ c.write.ensures.value) _ refl _
    c.load-r.ensures.tables_after
