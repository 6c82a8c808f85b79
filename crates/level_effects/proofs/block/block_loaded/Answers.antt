-- The words come from memory when all accesses passed; else the fault is the running level's.
use Rattle.std.proofs.Common.{refl, ◌∙◌}
use Rattle.isa.specs.Machine.{pack}
use Rattle.isa.specs.declared.access.AccessKind.TheVariants.{Read}
use Rattle.level_effects.proofs.Laws.{block_from_memory, not_moved}
use Rattle.level_effects.proofs.block.block_loaded.Goals as goal

-- all accesses passed
pub returns-in-Ok-clause-by_index : goal.returns-in-Ok-clause-by_index
returns-in-Ok-clause-by_index c =
    let a = c.args in
    λ p q. block_from_memory _ _ Read _ _ _ _ _ p q _ c.in-Ok.ensures _ _ c.read_block.ensures _
    (c.reloaded.ensures a.regs.now p ∙ c.put_block.ensures (pack a.level a.c a.regs.now p) refl)

-- one failed
pub returns-in-Err-clause-by_index : goal.returns-in-Err-clause-by_index
returns-in-Err-clause-by_index c =
    λ p q. (not_moved _ _ Read _ _ _ _ _ p q c.in-Err.e c.in-Err.ensures _ _ _ c.block_failed.ensures).1
