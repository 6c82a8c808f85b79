-- By the answer: a run from a state in range, or the refusal.
use Rattle.std.proofs.Common.{◌≡◌, List, length, take, sym, ap, ◌∙◌}
use Rattle.isa.specs.Answers.{Answer, state_answer}
use Rattle.isa.specs.DeviceInput.{Given, given_of, input_run_from, input_ran_call, input_run_call_by, input_run_call}
use Rattle.isa.specs.declared.machine.State.{State}
use Rattle.std.specs.declared.result.Result.TheVariants.{Ok}
use Rattle.operations.specs.declared.input.InputRunResult.{InputRunResult}
use Rattle.isa.proofs.Packing.{parts_state}
use Rattle.operations.specs.Calls.{input_run_of}
use Rattle.operations.proofs.Laws.{input_run_told_law}
use Rattle.operations.proofs.input.run_with_input.Goals as goal

-- not refused
pub returns-in-Some-clause-tables_after : goal.returns-in-Some-clause-tables_after
unfolding input_run_call
returns-in-Some-clause-tables_after c =
    let a = c.args in
    let s = a.s in
    let inputs : List Given = given_of (take (length a.told.now) a.at.now) a.what.now in
    let r = c.run_with_input-r in
    let ran = r.result in
    let whole = parts_state s c.control_words-k.ensures in
    let answered : c.parts_answer.result ≡ state_answer a.s a.mem.now a.tables.now =
    c.parts_answer.ensures ∙ ap (λ (x : State). state_answer x a.mem.now a.tables.now) whole in
    ap
    (λ (x : State). input_run_of
    (record {
      answer = Ok (record { steps = ran.steps; reason = ran.reason; references = ran.references });
      handed = ran.handed;
      state = x;
    }) r.new.told r.new.mem
    r.new.tables) c.with.ensures
    ∙ ap input_ran_call r.ensures.tables_after
    ∙ (λ i. input_ran_call (input_run_from a.n inputs 0 (whole i) a.mem.now (c.in-Some.ensures.cases.same i)))
    ∙ ap (λ (x : Answer). input_run_call_by x a.n inputs s a.mem.now a.tables.now) (sym c.in-Ok.is ∙ answered)

pub returns-in-Some-clause-answer_value : goal.returns-in-Some-clause-answer_value
returns-in-Some-clause-answer_value c =
    let a = c.args in
    input_run_told_law a.n (given_of (take (length a.told.now) a.at.now) a.what.now) a.s a.mem.now a.tables.now _
    (returns-in-Some-clause-tables_after c)

-- refused
pub returns-in-Err-clause-tables_after : goal.returns-in-Err-clause-tables_after
unfolding input_run_call
returns-in-Err-clause-tables_after c =
    let a = c.args in
    let inputs : List Given = given_of (take (length a.told.now) a.at.now) a.what.now in
    let whole = parts_state a.s c.control_words-k.ensures in
    let answered : c.parts_answer.result ≡ state_answer a.s a.mem.now a.tables.now =
    c.parts_answer.ensures ∙ ap (λ (x : State). state_answer x a.mem.now a.tables.now) whole in
    ap (λ (x : InputRunResult). input_run_of x a.told.now a.mem.now a.tables.now) c.refused-in-Err.ensures
    ∙ ap (λ (x : Answer). input_run_call_by x a.n inputs a.s a.mem.now a.tables.now) (sym c.in-Err.is ∙ answered)

pub returns-in-Err-clause-answer_value : goal.returns-in-Err-clause-answer_value
returns-in-Err-clause-answer_value c =
    let a = c.args in
    input_run_told_law a.n (given_of (take (length a.told.now) a.at.now) a.what.now) a.s a.mem.now a.tables.now _
    (returns-in-Err-clause-tables_after c)
