-- A level that is not refused; what is said of two machines; what calls tell.
-- Assumes nothing.
use Prim.Native.Nat.{ℕ}
use mathlib.Core.Path.{◌≡◌, sym, ap, subst, ◌∙◌}
use mathlib.Core.Bool.{Bool}
use mathlib.Core.List.{List}
use Rattle.isa.specs.Answers.{StepCall, step_call, RunCall, run_call, StateCall}
use Rattle.isa.specs.Answers.{raise_call, LoadCall, load_call, answer_numbers, step_numbers, run_numbers, step_told, run_told}
use Rattle.isa.specs.Answers.{raise_told, load_told, ReadOutCall, tick_call, type_call, read_out_call, sent_numbers, tick_told}
use Rattle.isa.specs.Answers.{type_told, read_out_told}
use Rattle.isa.specs.DeviceInput.{Given, InputRunCall, input_run_call, input_run_told}
use Rattle.laws.proofs.Numbers.{calls_tell}
use Rattle.isolation.specs.Statement.{Isolated}
use Rattle.isolation.proofs.Theorem.{isolation, refused_alike}
use Rattle.operations.specs.Pair.{SideBySide}
use Rattle.isa.specs.declared.machine.State.{State}

-- two runs to the first interrupt with device input, side by side
pub side_by_side : (s : State) (k : ℕ) (gs hs : List Given) (m t n u : List ℕ) (r q : InputRunCall)
    → r ≡ input_run_call k gs s m t → q ≡ input_run_call k hs s n u → SideBySide s k gs hs m t n u r q
side_by_side s k gs hs m t n u r q left right = record {
  left = left;
  right = right;
  isolated = λ same given h.
      both gs (λ x y. Isolated s t m n x y) left (right-as same given) (isolation k gs s t m n h);
  refused = λ same h x e.
      let alike = refused_alike k gs s t m n x h e in
      let other = refused_alike k hs s t m n x h e in
      record { left = left ∙ alike.left; right = right ∙ ap (input_run_call k hs s n) same ∙ other.right };
}
  where
    right-as : u ≡ t → hs ≡ gs → q ≡ input_run_call k gs s n t
    right-as same given = right ∙ (λ i. input_run_call k (given i) s n (same i))

    both : (is : List Given) (C : InputRunCall → InputRunCall → Type 0) → r ≡ input_run_call k is s m t
        → q ≡ input_run_call k is s n t → C (input_run_call k is s m t) (input_run_call k is s n t) → C r q
    both is C d e c =
        subst (λ (x : InputRunCall). C x q) (sym d) (subst (C (input_run_call k is s m t)) (sym e) c)

-- ---- a call as the definition has it tells what document 01 has

pub step_told_law : (s : State) (m t : List ℕ) (q : StepCall) → q ≡ step_call s m t
    → (q ≡ step_call s m t) × (step_numbers q.answer ≡ step_told s m t)
step_told_law s m t q e = (e, ap (λ (x : StepCall). step_numbers x.answer) e ∙ calls_tell.step s m t)

pub run_told_law : (first : Bool) (n : ℕ) (s : State) (m t : List ℕ) (q : RunCall) → q ≡ run_call first n s m t
    → (q ≡ run_call first n s m t) × (run_numbers q.answer ≡ run_told first n s m t)
run_told_law first n s m t q e = (e, ap (λ (x : RunCall). run_numbers x.answer) e ∙ calls_tell.run first n s m t)

pub raise_told_law : (s : State) (l : ℕ) (m t : List ℕ) (q : StateCall) → q ≡ raise_call s l m t
    → (q ≡ raise_call s l m t) × (answer_numbers q.answer ≡ raise_told s l m t)
raise_told_law s l m t q e = (e, ap (λ (x : StateCall). answer_numbers x.answer) e ∙ calls_tell.raise s l m t)

pub tick_told_law : (s : State) (m t : List ℕ) (q : StateCall) → q ≡ tick_call s m t
    → (q ≡ tick_call s m t) × (answer_numbers q.answer ≡ tick_told s m t)
tick_told_law s m t q e = (e, ap (λ (x : StateCall). answer_numbers x.answer) e ∙ calls_tell.tick s m t)

pub type_told_law : (s : State) (w : ℕ) (m t : List ℕ) (q : StateCall) → q ≡ type_call s w m t
    → (q ≡ type_call s w m t) × (answer_numbers q.answer ≡ type_told s m t)
type_told_law s w m t q e = (e, ap (λ (x : StateCall). answer_numbers x.answer) e ∙ calls_tell.typed s w m t)

pub read_out_told_law : (s : State) (m t : List ℕ) (q : ReadOutCall) → q ≡ read_out_call s m t
    → (q ≡ read_out_call s m t) × (sent_numbers q.answer ≡ read_out_told s m t)
read_out_told_law s m t q e = (e, ap (λ (x : ReadOutCall). sent_numbers x.answer) e ∙ calls_tell.read_out s m t)

pub input_run_told_law : (n : ℕ) (gs : List Given) (s : State) (m t : List ℕ) (q : InputRunCall)
    → q ≡ input_run_call n gs s m t → run_numbers q.answer ≡ input_run_told n gs s m t
input_run_told_law n gs s m t q e =
    ap (λ (x : InputRunCall). run_numbers x.answer) e ∙ calls_tell.input_run n gs s m t

pub load_told_law : (s : State) (i m t : List ℕ) (q : LoadCall) → q ≡ load_call s i m t
    → (q ≡ load_call s i m t) × (answer_numbers q.answer ≡ load_told i m t)
load_told_law s i m t q e = (e, ap (λ (x : LoadCall). answer_numbers x.answer) e ∙ calls_tell.load s i m t)
