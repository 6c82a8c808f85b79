-- By the number: the words behind the registers.
use Rattle.std.proofs.Common.{ℕ, refl, sym, ap, ◌∙◌, Bool, cond, List, [], ◌∷◌, take, eq-eqb}
use Rattle.std.proofs.Math.Seq.{paste}
use Rattle.isa.specs.Devices.{device_count, device_words}
use Rattle.isa.specs.Machine.{register_words, control_count, first_device, state_with, control_words}
use Rattle.isa.specs.Answers.{interrupt_given}
use Rattle.isa.specs.declared.machine.State.{State}
use Rattle.isa.proofs.ControlWords.{control_length}
use Rattle.nd110.proofs.Laws.{ended_done, put_two}
use Rattle.nd110.proofs.tell_step.Goals as goal

-- done
pub returns : goal.returns
returns c = λ m t.
    let told = c.tell_interrupt-n in
    let a = c.args in
    let w = a.state.now in
    let given = told.ensures.interrupt_after
    ∙ ap (λ (b : Bool). cond b (interrupt_given a.r.answer) a.interrupt.now)
    (eq-eqb _ 0 (sym told.ensures.value ∙ c.if-n-ne0.false)) in
    let s : State = state_with a.r.level a.r.control [] a.pcrs.now in
    let words = c.put_devices.ensures
    ∙ ap (λ (l : List ℕ). paste l first_device (device_words s.devices) device_count) c.put_control.ensures
    ∙ put_two w (control_words s) (device_words s.devices) register_words control_count device_count
    c.requires.state_len (control_length s c.requires.pcrs_len) refl in
    ended_done _ _ (state_with a.r.level a.r.control (take register_words w) a.pcrs.now) m t _ _ _
    told.ensures.value _ _ c.if-n-ne0.false words (ap (λ (n : ℕ). n ∷ []) given)
