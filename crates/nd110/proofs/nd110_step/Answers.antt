-- A step of the lent words.
use Rattle.std.proofs.Common.{◌≡◌, ℕ, ◌-◌, ap, ◌∙◌, List, [], ◌∷◌, ◌++◌, length, take, drop, get_or}
use Rattle.std.proofs.Common.{length-append, length-drop, arith, rules}
use Rattle.std.proofs.Math.Seq.{take_all}
use Rattle.isa.specs.Answers.{step_call}
use Rattle.isa.specs.Machine.{state_with, state_words, register_words, control_count, first_device, control_of}
use Rattle.isa.specs.Machine.{state_of}
use Rattle.nd110.proofs.Laws.{step_on_words}
use Rattle.nd110.proofs.nd110_step.Goals as goal

-- the call was made
pub returns : goal.returns
returns c =
    let a = c.args in
    let w = a.state.now in
    let long = c.if-state-ne-STATE_WORDS.false in
    let rest : take (length w - first_device) (drop first_device w) ≡ drop first_device w =
    take_all (length w - first_device) (drop first_device w) (simp length-drop (omega arith)) in
    step_on_words w a.mem.now a.tables.now (a.interrupt.now ∷ []) _ _ _ _ _ _ _ _ long
    (c.control_of-k.ensures
    ∙ ap (λ (l : List ℕ). control_of (state_of [] (take control_count (drop register_words w)) l)) rest)
    c.pcrs_of-pcrs.ensures
    (let z : length (c.step-r.new.regs ++ drop register_words w) ≡ state_words = search rules in
    omega (arith, simp (length-append, length-drop) at z))
    (c.step-r.ensures
    ∙ ap
    (λ (b : List ℕ). step_call
    (state_with (get_or w register_words 0) c.control_of-k.result b c.pcrs_of-pcrs.result) a.mem.now a.tables.now)
    c.in-Some.ensures.cases.same)
    (c.tell_step.ensures _ _)
