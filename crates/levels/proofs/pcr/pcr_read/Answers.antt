-- A PCR of the lent ones, the running level's among them, goes to A.
use Rattle.std.proofs.Common.{ℕ, List, sym, ap, ◌∙◌, set, get_or}
use Rattle.isa.specs.Machine.{reg, with_reg, pack, with_file}
use Rattle.isa.specs.Decode.{four_of}
use Rattle.isa.specs.declared.machine.Register.TheVariants.{A}
use Rattle.isa.specs.declared.machine.State.{State}
use Rattle.levels.specs.Words.{with_a}
use Rattle.levels.proofs.TransferLaws.{own_register, own_a_law, pcr_back}
use Rattle.levels.proofs.pcr.pcr_read.Goals as goal

-- the PCR stands in A
pub returns : goal.returns
returns c =
    let a = c.args in
    let h = c.requires.level_lt_level_count in
    let s : List ℕ → State = λ b. pack a.level a.c b a.pcrs.now in
    let lent : List ℕ = set a.pcrs.now a.level a.c.pcr in
    let v : ℕ = get_or lent (four_of (reg a.c.file A)) 0 in
    λ b z. simp (c.with_file.ensures, c.with.ensures, c.pcr_place-i.ensures.value, c.get.ensures)
    (pcr_back a.level (with_file a.c (with_reg a.c.file A v)) b a.pcrs.now a.c.pcr
    ∙ own_a_law a.level a.c b a.pcrs.now h z v
    ∙ ap (λ (w : ℕ). with_a (s b) (get_or lent (four_of w) 0))
    (sym (own_register a.level a.c b a.pcrs.now h z A)))
