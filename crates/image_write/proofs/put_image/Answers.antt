-- The image: contents and memory, registers and control words, page tables, devices.
use Rattle.std.proofs.Common.{ℕ, ◌≡◌, ◌+◌, ap, ◌++◌, refl, ◌∙◌, length, arith, rules, length-append}
use Rattle.isa.specs.Machine.{first_device, level_count, register_words, control_words}
use Rattle.std.proofs.Math.Seq.{paste}
use Rattle.isa.proofs.ControlWords.{control_length}
use Rattle.image_write.proofs.Written.{table_place, image_put}
use Rattle.image_write.proofs.put_image.Goals as goal

pub returns : goal.returns
returns c =
    let a = c.args in
    let s = a.s in
    let e : length s.regs ≡ register_words = search rules in
    let g : length s.pcr ≡ level_count = search rules in
    let w : length (s.regs ++ control_words s) ≡ first_device =
    length-append s.regs (control_words s) ∙ omega (arith, e, control_length s g) in
    let tables = c.put.ensures
    ∙ ap (λ (n : ℕ). paste c.put_state.new.out (length a.mem.now + table_place) a.tables.now n) c.requires.tables_len in
    image_put s a.mem.now a.tables.now a.out.now c.put_memory.new.out c.put_state.new.out c.put.new.out
    c.put_devices.new.out (length a.mem.now) refl w c.requires.tables_len c.put_memory.ensures
    c.put_state.ensures tables c.put_devices.ensures
