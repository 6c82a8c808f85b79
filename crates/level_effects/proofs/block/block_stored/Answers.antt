-- The words go to memory when all accesses passed; else the fault is the running level's.
use Rattle.isa.specs.declared.access.AccessKind.TheVariants.{Write}
use Rattle.level_effects.proofs.Laws.{block_storing, block_to_memory, not_moved}
use Rattle.level_effects.proofs.block.block_stored.Goals as goal

-- all accesses passed: the places are to store to
pub store_block-requires-clause-all_storing : goal.store_block-requires-clause-all_storing
store_block-requires-clause-all_storing c = block_storing _ _ _ _ _ _ _ _ c.in-Ok.ensures

-- all accesses passed
pub returns-in-Ok-clause-by_index : goal.returns-in-Ok-clause-by_index
returns-in-Ok-clause-by_index c =
    λ p q. block_to_memory _ _ Write _ _ _ _ _ p q _ c.in-Ok.ensures _ _ c.file_at.ensures _ c.store_block.ensures

-- one failed
pub returns-in-Err-clause-by_index : goal.returns-in-Err-clause-by_index
returns-in-Err-clause-by_index c =
    λ p q. (not_moved _ _ Write _ _ _ _ _ p q c.in-Err.e c.in-Err.ensures _ _ _ c.block_failed.ensures).0
