-- Registers, then the control words.
use Rattle.std.proofs.Common.{ℕ, ◌+◌, ◌≡◌, sym, ap, ◌∙◌, List, [], length, arith, rules}
use Rattle.std.proofs.Math.Seq.{paste}
use Rattle.isa.specs.Machine.{level_count, register_words, control_count, control_words, state_with}
use Rattle.isa.specs.declared.machine.Control.{Control}
use Rattle.isa.proofs.ControlWords.{control_length}
use Rattle.std.proofs.lemmas.List.Edits.{paste-paste}
use Rattle.image_write.proofs.put_state.Goals as goal

pub returns : goal.returns
returns c =
    let a = c.args in
    let s = a.s in
    let place = a.at + register_words in
    let words : Control → List ℕ = λ k. control_words (state_with s.level k [] s.pcr) in
    let regs_long : length s.regs ≡ register_words = search rules in
    let pcrs_long : length s.pcr ≡ level_count = search rules in
    c.put_control.ensures
    ∙ ap (λ (k : Control). paste c.put.new.out place (words k) control_count) c.control_words.ensures
    ∙ ap (λ (x : List ℕ). paste x place (control_words s) control_count)
    (c.put.ensures ∙ ap (paste a.out.now a.at s.regs) regs_long)
    ∙ paste-paste a.out.now a.at s.regs (control_words s) register_words control_count (sym regs_long)
    (sym (control_length s pcrs_long)) (omega (arith, c.requires))
