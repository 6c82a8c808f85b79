-- Nothing is refused: memory can be placed.
use Rattle.image_load.proofs.Called.{memory_lies}
use Rattle.image_load.proofs.load.Goals as goal

pub fill-requires : goal.fill-requires
fill-requires c =
    let a = c.args in
    memory_lies a.image.now a.mem.now a.tables.now c.in-Ok.state c.in-Ok.ensures
