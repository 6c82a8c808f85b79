-- By the answer: a run from a state in range, or the refusal.
use Rattle.std.proofs.Common.{◌≡◌, sym, ap, ◌∙◌}
use Rattle.isa.specs.Run.{run_from}
use Rattle.isa.specs.Answers.{Answer, state_answer, ran_call, run_call_by, run_call}
use Rattle.isa.specs.declared.machine.State.{State}
use Rattle.std.specs.declared.result.Result.TheVariants.{Ok}
use Rattle.isa.specs.declared.answer.Answered.{Answered}
use Rattle.isa.specs.declared.answer.Ran.{Ran}
use Rattle.isa.proofs.Packing.{parts_state}
use Rattle.image_load.specs.Loading.{call_of}
use Rattle.operations.proofs.Laws.{run_told_law}
use Rattle.operations.proofs.runs.run_by.Goals as goal

-- not refused
pub returns-in-Some-clause-tables_after : goal.returns-in-Some-clause-tables_after
unfolding run_call
returns-in-Some-clause-tables_after c =
    let a = c.args in
    let s = a.s in
    let ran = c.run-r.result in
    let whole = parts_state s c.control_words-k.ensures in
    let answered : c.parts_answer.result ≡ state_answer a.s a.mem.now a.tables.now =
    c.parts_answer.ensures ∙ ap (λ (x : State). state_answer x a.mem.now a.tables.now) whole in
    ap
    (λ (x : State). call_of (record {
      answer = Ok (record { steps = ran.steps; reason = ran.reason; references = ran.references });
      state = x;
    }) c.run-r.new.mem c.run-r.new.tables) c.with.ensures
    ∙ ap ran_call c.run-r.ensures.tables_after
    ∙ (λ i. ran_call (run_from a.first a.n 0 (whole i) a.mem.now (c.in-Some.ensures.cases.same i)))
    ∙ ap (λ (x : Answer). run_call_by x a.first a.n s a.mem.now a.tables.now) (sym c.in-Ok.is ∙ answered)

pub returns-in-Some-clause-answer_value : goal.returns-in-Some-clause-answer_value
returns-in-Some-clause-answer_value c =
    let a = c.args in
    (run_told_law a.first a.n a.s a.mem.now a.tables.now _ (returns-in-Some-clause-tables_after c)).1

-- refused
pub returns-in-Err-clause-tables_after : goal.returns-in-Err-clause-tables_after
unfolding run_call
returns-in-Err-clause-tables_after c =
    let a = c.args in
    let whole = parts_state a.s c.control_words-k.ensures in
    let answered : c.parts_answer.result ≡ state_answer a.s a.mem.now a.tables.now =
    c.parts_answer.ensures ∙ ap (λ (x : State). state_answer x a.mem.now a.tables.now) whole in
    ap (λ (x : Answered Ran). call_of x a.mem.now a.tables.now) c.refused-in-Err.ensures
    ∙ ap (λ (x : Answer). run_call_by x a.first a.n a.s a.mem.now a.tables.now) (sym c.in-Err.is ∙ answered)

pub returns-in-Err-clause-answer_value : goal.returns-in-Err-clause-answer_value
returns-in-Err-clause-answer_value c =
    let a = c.args in
    (run_told_law a.first a.n a.s a.mem.now a.tables.now _ (returns-in-Err-clause-tables_after c)).1
