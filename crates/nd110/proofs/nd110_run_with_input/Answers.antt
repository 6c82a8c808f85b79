-- A run of the words' state with device input: the call was made.
use Rattle.std.proofs.Common.{◌≡◌, ℕ, sym, ap, ◌∙◌, false, cond, ◌&&◌, List, [], ◌∷◌, ◌++◌, length, take, eqb, eq-eqb, length-take-le, arith}
use Rattle.std.proofs.Math.Seq.{take_all}
use Rattle.isa.specs.DeviceInput.{InputRunCall, input_run_call, given_of}
use Rattle.isa.specs.declared.machine.State.{State}
use Rattle.operations.specs.Calls.{input_run_of}
use Rattle.nd110.specs.Calls.{left_of, bad_call, input_run_end}
use Rattle.nd110.proofs.Laws.{called_well, input_ended, refused_tells_none}
use Rattle.nd110.proofs.nd110_run_with_input.Goals as goal

pub returns : goal.returns
returns c =
    let a = c.args in
    let w = a.state.now in
    let m = a.mem.now in
    let t = a.tables.now in
    let y = a.handed.now ∷ a.steps.now ∷ a.reason.now ∷ a.references.now ∷ [] in
    let r = c.run_with_input-r in
    let told = c.tell_input in
    let words = r.new.told in
    let call = input_run_of r.result words r.new.mem r.new.tables in
    let same : length a.at.now ≡ length a.what.now = c.if-at-what.false in
    let also : length a.told.now ≡ length a.what.now = c.if-told-what.false in
    let all : take (length a.told.now) a.at.now ≡ a.at.now =
    take_all (length a.told.now) a.at.now (omega (arith, same, also)) in
    let whole : call ≡ input_run_call a.n (given_of a.at.now a.what.now) c.state_in.result m t =
    r.ensures.tables_after
    ∙ ap (λ (l : List ℕ). input_run_call a.n (given_of l a.what.now) c.state_in.result m t) all in
    let number = told.ensures.value in
    let counted : length call.told ≡ r.result.handed =
    length-take-le r.result.handed words (omega (arith, r.ensures.handed_in_bounds, r.auto.told)) in
    let none : eqb told.result 0 ≡ false → call.told ≡ [] =
    λ q. refused_tells_none a.n (given_of a.at.now a.what.now) c.state_in.result m t call whole
    (ap (λ (n : ℕ). eqb n 0) (sym number) ∙ q) in
    let ended = input_ended call w a.told.now words y _ _ _ r.result.handed number
    told.ensures.state_after told.ensures.references_after r.ensures.told_after counted none in
    called_well (λ (s : State). input_run_call a.n (given_of a.at.now a.what.now) s m t)
    (λ (x : InputRunCall). cond (eqb (length a.at.now) (length a.what.now)
    && eqb (length a.told.now) (length a.what.now)) (input_run_end w a.told.now y x)
    (left_of bad_call w m t (a.told.now ++ y))) w m t (a.told.now ++ y) _ call _
    c.if-state-ne-STATE_WORDS.false c.state_in.ensures whole
    (ended ∙ simp (eq-eqb _ _ same, eq-eqb _ _ also))
