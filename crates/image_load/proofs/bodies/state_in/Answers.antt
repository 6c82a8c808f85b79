-- Registers, control words and devices' words, one part after the other.
use Rattle.std.proofs.Common.{◌≡◌, ap, ◌∙◌, take, drop, rules}
use lib.Seq.{drop-drop}
use Rattle.isa.specs.Machine.{register_words, control_count, first_device, state_of}
use Rattle.image_load.proofs.bodies.state_in.Goals as goal

pub returns : goal.returns
returns c =
    let w = c.args.words.now in
    let regs : c.unwrap.result ≡ take register_words w = search rules in
    let rest = c.split_at.ensures.back in
    let control = c.split_at-2.ensures.front ∙ ap (take control_count) rest in
    let devices : c.split_at-2.result.1.now ≡ drop first_device w =
    c.split_at-2.ensures.back ∙ ap (drop control_count) rest ∙ drop-drop control_count register_words w in
    c.state_of.ensures ∙ (λ i. state_of (regs i) (control i) (devices i))
