-- The access passes if the address lies in memory.
use Rattle.std.proofs.Common.{ap, ◌∙◌, length, arith}
use Rattle.std.specs.declared.option.Option.TheVariants.{None}
use Rattle.isa.specs.Pages.{within_memory, Lent}
use Rattle.isa.specs.Step.{counted, part, deposited}
use Rattle.isa.specs.declared.access.AccessKind.TheVariants.{Write}
use Rattle.trap.proofs.Laws.{unreferenced, in_memory_law, past_memory}
use Rattle.trap.proofs.deposited.Goals as goal

pub counted-requires : goal.counted-requires
counted-requires c = omega (arith, unreferenced _ c.left.ensures)

-- within memory
pub returns-in-Ok : goal.returns-in-Ok
unfolding deposited
returns-in-Ok c =
    let a = c.args in
    let q = in_memory_law _ Write _ c.in-Ok.to
    (c.in-Ok.ensures.value ∙ ap (within_memory (length a.mem.now) Write) c.physical_address.ensures) in
    c.counted.ensures _ _
    ∙ ap (counted 1) (c.left.ensures _ _
    ∙ ap (λ (r : Lent). part a.c 0 None r.memory r.tables) c.store_at.ensures
    ∙ simp (q.0, q.1, c.get.ensures))

pub counted-requires-in-Err : goal.counted-requires-in-Err
counted-requires-in-Err c = omega (arith, unreferenced _ c.failed.ensures)

-- past it
pub returns-in-Err : goal.returns-in-Err
unfolding deposited
returns-in-Err c =
    let a = c.args in
    let q = past_memory _ Write _ c.in-Err.x
    (c.in-Err.ensures.value ∙ ap (within_memory (length a.mem.now) Write) c.physical_address.ensures) in
    c.counted-in-Err.ensures _ _ ∙ ap (counted 1) (c.failed.ensures _ _ ∙ simp (q.0, q.1))
