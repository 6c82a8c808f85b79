-- The words go to the level's file, which is put back.
use Rattle.std.proofs.Common.{rules, sym}
use Rattle.memory_words.specs.Blocks.{list_of}
use Rattle.level_effects.proofs.Laws.{level_block}
use Rattle.level_effects.proofs.block.put_block.Goals as goal

-- the level's file with the words
pub returns : goal.returns
returns c =
    let a = c.args in
    λ s q. simp (c.put_file.ensures, c.with_block.ensures, c.file_at-f.ensures, sym q)
    (level_block s a.regs.now (search rules) a.l (list_of a.w))
