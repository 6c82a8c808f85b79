-- A goes to a PCR of the lent ones, and the running level's is taken out again.
use Rattle.std.proofs.Common.{ℕ, List, sym, ap, ◌∙◌, set}
use lib.Seq.{set-get_or}
use Rattle.isa.specs.Machine.{reg, pack, pcr_mask}
use Rattle.isa.specs.Decode.{four_of}
use Rattle.isa.specs.Step.{with_pcrs}
use Rattle.isa.specs.declared.machine.Register.TheVariants.{A}
use Rattle.isa.specs.declared.machine.State.{State}
use Rattle.levels.proofs.TransferLaws.{own_register}
use Rattle.levels.proofs.pcr.pcr_written.Goals as goal

-- A stands in the PCR
pub returns : goal.returns
returns c =
    let a = c.args in
    let h = c.requires.level_lt_level_count in
    let s : List ℕ → State = λ b. pack a.level a.c b a.pcrs.now in
    let lent : List ℕ = set a.pcrs.now a.level a.c.pcr in
    let w : ℕ = reg a.c.file A in
    λ b z. simp (c.with_pcr.ensures, c.pcr_place.ensures.value, c.get-a.ensures)
    (ap (with_pcrs (s b)) (set-get_or (set lent (four_of w) (pcr_mask w)) a.level 0)
    ∙ ap (λ (v : ℕ). with_pcrs (s b) (set lent (four_of v) (pcr_mask v)))
    (sym (own_register a.level a.c b a.pcrs.now h z A)))
