-- T of level 14 is written among the lent words, the running level's among them.
use Rattle.std.proofs.Common.{rules, sym, ap, ◌∙◌, arith}
use Rattle.isa.specs.Machine.{pack}
use Rattle.isa.specs.Step.{with_regs}
use Rattle.isa.specs.declared.machine.Register.TheVariants.{T}
use Rattle.isa.proofs.Packing.{put_length, register_set}
use Rattle.levels.proofs.registers.called.Goals as goal

-- the number stands in T of level 14
pub returns : goal.returns
returns c =
    let a = c.args in
    let h = c.requires in
    let lent = put_length a.regs.now a.level h.level_lt_level_count (search rules) a.c.file in
    λ p. c.reloaded.ensures a.regs.now p
    ∙ simp (c.put_file-2.ensures, c.with.ensures, c.file_at-g.ensures, c.put_file.ensures)
    (ap (with_regs (pack a.level a.c a.regs.now p)) (sym (register_set _ 14 (omega arith) lent T a.w)))
