-- Put over all the lent words.
use Rattle.std.proofs.Common.{◌≡◌, refl, ap, ◌∙◌, List, ◌++◌, append_assoc, length, length-append, arith, rules, ℕ}
use Rattle.std.proofs.Math.Seq.{paste}
use Rattle.isa.specs.Devices.{device_count, device_words}
use Rattle.isa.specs.Machine.{level_count, register_words, first_device, control_words}
use Rattle.isa.proofs.ControlWords.{control_length}
use Rattle.nd110.proofs.Laws.{put_two}
use Rattle.nd110.proofs.put_state.Goals as goal

pub returns : goal.returns
returns c =
    let s = c.args.s in
    let w = c.args.words.now in
    let regs : length s.regs ≡ register_words = search rules in
    let pcrs : length s.pcr ≡ level_count = search rules in
    let front : length (s.regs ++ control_words s) ≡ first_device =
    length-append s.regs (control_words s) ∙ omega (arith, regs, control_length s pcrs) in
    c.put_devices.ensures
    ∙ ap (λ (l : List ℕ). paste l first_device (device_words s.devices) device_count) c.put_state.ensures
    ∙ put_two w (s.regs ++ control_words s) (device_words s.devices) 0 first_device device_count c.requires front refl
    ∙ append_assoc s.regs (control_words s) (device_words s.devices)
