-- The access passes if the address lies in memory.
use Rattle.std.proofs.Common.{ap, ◌∙◌, length, arith}
use Rattle.isa.specs.Pages.{within_memory}
use Rattle.isa.specs.Step.{counted, examined}
use Rattle.isa.specs.declared.access.AccessKind.TheVariants.{Read}
use Rattle.trap.proofs.Laws.{unreferenced, in_memory_law, past_memory}
use Rattle.trap.proofs.examined.Goals as goal

pub counted-requires : goal.counted-requires
counted-requires c = omega (arith, unreferenced _ c.left.ensures)

-- within memory
pub returns-in-Ok : goal.returns-in-Ok
unfolding examined
returns-in-Ok c =
    let a = c.args in
    let q = in_memory_law _ Read _ c.in-Ok.from
    (c.in-Ok.ensures.value ∙ ap (within_memory (length a.mem.now) Read) c.physical_address.ensures) in
    λ t. c.counted.ensures _ t
    ∙ ap (counted 1) (c.left.ensures _ t
    ∙ simp (q.0, q.1, c.with_file.ensures, c.with-f.ensures, c.word_at.ensures))

pub counted-requires-in-Err : goal.counted-requires-in-Err
counted-requires-in-Err c = omega (arith, unreferenced _ c.failed.ensures)

-- past it
pub returns-in-Err : goal.returns-in-Err
unfolding examined
returns-in-Err c =
    let a = c.args in
    let q = past_memory _ Read _ c.in-Err.e
    (c.in-Err.ensures.value ∙ ap (within_memory (length a.mem.now) Read) c.physical_address.ensures) in
    λ t. c.counted-in-Err.ensures _ t ∙ ap (counted 1) (c.failed.ensures _ t ∙ simp (q.0, q.1))
