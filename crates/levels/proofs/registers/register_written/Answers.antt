-- A goes to a register of the lent ones, and the running level's are taken out again.
use Rattle.std.proofs.Common.{rules, ℕ, List, sym, ap, ◌∙◌}
use Rattle.isa.specs.Machine.{pack}
use Rattle.isa.specs.Step.{put_other}
use Rattle.isa.specs.declared.machine.Register.TheVariants.{A}
use Rattle.isa.specs.declared.machine.State.{State}
use Rattle.levels.proofs.TransferLaws.{other_put, own_register}
use Rattle.levels.proofs.registers.register_written.Goals as goal

-- A stands in the register, or the register is P of the running level
pub returns : goal.returns
returns c =
    let a = c.args in
    let h = c.requires in
    let s : List ℕ → State = pack a.level a.c a.regs.now in
    λ p. c.reloaded.ensures a.regs.now p
    ∙ simp (c.put_other.ensures, c.get.ensures, c.put_file.ensures) (other_put (s p) a.l a.r _)
    ∙ ap (put_other (s p) a.l a.r) (sym (own_register a.level a.c a.regs.now p h.level_lt_level_count (search rules) A))
