-- Words put in front, and what a call leaves by its number.
-- Assumes nothing.
use Prim.Native.Nat.{ℕ, ◌+◌, ◌≤◌}
use mathlib.Core.Path.{◌≡◌, refl, sym, ap, ◌∙◌}
use mathlib.Core.Bool.{Bool, true, false, cond}
use mathlib.Core.List.{List, [], ◌∷◌, ◌++◌, append-nil, append_assoc}
use native.Mathlib.Omega.{arith}
use native.Mathlib.Nat.{le_of_eq, zero-add}
use lib.ListN.{length, get_or, take, drop, length-append, length-take, length-drop, take-append-drop, drop_of_length-le}
use lib.Seq.{paste, take_all, take_at, length-take-le, get_or-take, get_or-drop}
use lib.Dec.{eqb}
use borrow.Author.Tests.{eq-eqb}
use Rattle.isa.specs.Machine.{register_words, control_count, state_words, control_of, state_with, state_in, state_ordered}
use Rattle.isa.specs.Answers.{Answer, answer_number, state_answer, StepCall, step_call_by, step_call, view_answer}
use Rattle.isa.specs.Answers.{viewed_by, viewed, target_of}
use Rattle.isa.specs.declared.machine.Control.{Control}
use Rattle.isa.specs.declared.machine.State.{State}
use Rattle.isa.specs.declared.answer.Target.{Target}
use Rattle.std.specs.declared.result.Result.TheVariants.{Ok, Err}
use Rattle.isa.specs.DeviceInput.{Given, InputRunCall, input_run_call_by, input_run_call}
use Rattle.isa.proofs.Tests.{no_both}
use Rattle.run.specs.Runs.{step_called}
use Rattle.run_input.specs.Inputs.{onto}
use Rattle.run.specs.declared.step.StepEnd.{StepEnd}
use Rattle.nd110.specs.Calls.{Left, left_of, call_end, called, bad_call, step_end, host_step, ran_values}
use Rattle.nd110.specs.Calls.{input_run_end}

-- ---- words put in front of others

pub put_front : (d w : List ℕ) (n : ℕ) → length w ≡ n → paste d 0 w n ≡ w ++ drop n d
put_front d w n h = (λ i. take_all n w (le_of_eq h) i ++ drop (zero-add n i) d)

-- .. and behind them, up to the end
pub put_behind : (d w : List ℕ) (a n : ℕ) → length d ≡ a + n → length w ≡ n → paste d a w n ≡ take a d ++ w
put_behind d w a n h e =
    (λ i. take a d ++ take_all n w (le_of_eq e) i ++ drop_of_length-le d {i = a + n} (le_of_eq h) i)
    ∙ append-nil (take a d ++ w)

-- .. and two, one behind the other, up to the end
pub put_two : (d v w : List ℕ) (a n k : ℕ) → length d ≡ a + n + k → length v ≡ n → length w ≡ k
    → paste (paste d a v n) (a + n) w k ≡ take a d ++ (v ++ w)
put_two d v w a n k h hv hw =
    let front : length (take a d ++ take n v) ≡ a + n =
    length-append (take a d) (take n v)
    ∙ (λ i. length-take-le a d (omega (arith, h)) i + length-take-le n v (omega (arith, hv)) i) in
    let size : length (paste d a v n) ≡ a + n + k =
    length-append (take a d ++ take n v) (drop (a + n) d)
    ∙ (λ i. front i + length-drop (a + n) d i) ∙ omega (arith, h) in
    put_behind (paste d a v n) w (a + n) k size hw
    ∙ ap (λ (l : List ℕ). l ++ w) (take_at (take a d ++ take n v) (drop (a + n) d) (a + n) front)
    ∙ ap (λ (l : List ℕ). take a d ++ l ++ w) (take_all n v (le_of_eq hv))
    ∙ append_assoc (take a d) v w

-- a view is no longer than asked
pub viewed_most : (k : Target) (a n : ℕ) (m t : List ℕ) → length (viewed k a n m t) ≤ n
unfolding viewed
viewed_most k a n m t = go (view_answer k a n m t)
  where
    go : (x : Answer) → length (viewed_by x (target_of k m t) a n) ≤ n
    go (Ok _) = rw (length-take n (drop a (target_of k m t))) (omega arith)
    go (Err r) = omega arith

-- ---- what a call leaves

-- an operation that was done, by the number k that the code has as n
module _ (n k : ℕ) (s : State) (m t x w y : List ℕ) (e : n ≡ k) where
  pub ended_done : (v z : List ℕ) → n ≡ 0 → v ≡ state_ordered s → z ≡ x → left_of 0 v m t z ≡ call_end k s m t x w y
  unfolding call_end
  ended_done v z h hv hz =
      (λ i. left_of (sym h i) (hv i) m t (hz i))
      ∙ (λ i. left_of n (cond (sym (eq-eqb n 0 h) i) (state_ordered s) w) m t (cond (sym (eq-eqb n 0 h) i) x y))
      ∙ ap (λ (j : ℕ). call_end j s m t x w y) e

-- the words' state s, an operation that gave r, and what was left by it
pub called_well : {C : Type 0} (call : State → C) (end : C → Left) (w m t y : List ℕ) (s : State) (r : C) (l : Left)
    → length w ≡ state_words → s ≡ state_in w → r ≡ call s → l ≡ end r → l ≡ called w m t y (end (call (state_in w)))
unfolding called
called_well call end w m t y s r l h given gave left =
    let x = end (call (state_in w)) in
    left
    ∙ ap end (gave ∙ ap call given)
    ∙ ap (λ (b : Bool). cond b x (left_of bad_call w m t y)) (sym (eq-eqb (length w) state_words h))

-- ---- a run with device input

-- what it leaves, by the number n: the words told begin with those of the inputs handed in, h of them; a refused run
-- has none
pub input_ended : (r : InputRunCall) (w told told' y v z : List ℕ) (n h : ℕ) → n ≡ answer_number r.answer
    → v ≡ cond (eqb n 0) (state_ordered r.state) w
    → z ≡ cond (eqb n 0) (h ∷ ran_values r.answer) y
    → told' ≡ onto r.told told → length r.told ≡ h → (eqb n 0 ≡ false → r.told ≡ [])
    → left_of n v r.memory r.tables (told' ++ z) ≡ input_run_end w told y r
unfolding call_end
input_ended r w told told' y v z n h e hv hz ht hl none =
    (λ i. left_of n (hv i) r.memory r.tables (told' ++ hz i))
    ∙ ap (λ (l : List ℕ). left_of n (cond (eqb n 0) (state_ordered r.state) w) r.memory r.tables l)
    (words (eqb n 0) refl)
    ∙ ap (λ (k : ℕ). call_end k r.state r.memory r.tables
    (onto r.told told ++ (length r.told ∷ ran_values r.answer)) w (told ++ y)) e
  where
    words : (b : Bool) → eqb n 0 ≡ b
        → told' ++ cond b (h ∷ ran_values r.answer) y
        ≡ cond b
        (onto r.told told ++ (length r.told ∷ ran_values r.answer))
        (told ++ y)
    words true q = λ i. ht i ++ (sym hl i ∷ ran_values r.answer)
    words false q =
        ap (λ (l : List ℕ). l ++ y) (ht ∙ ap (λ (l : List ℕ). onto l told) (none q))

pub refused_tells_none : (n : ℕ) (gs : List Given) (s : State) (m t : List ℕ) (r : InputRunCall)
    → r ≡ input_run_call n gs s m t → eqb (answer_number r.answer) 0 ≡ false → r.told ≡ []
unfolding input_run_call
refused_tells_none n gs s m t r e = go (state_answer s m t) e
  where
    go : (x : Answer) → r ≡ input_run_call_by x n gs s m t → eqb (answer_number r.answer) 0 ≡ false → r.told ≡ []
    go (Ok _) q h = absurd (no_both (sym h ∙ ap (λ (c : InputRunCall). eqb (answer_number c.answer) 0) q))
    go (Err x) q h = ap (λ (c : InputRunCall). c.told) q

-- ---- a step of the words themselves: the registers b that it left stand in front of the other words

-- a refused step left the registers, so the words are as they came; one that was done leaves none of the old words
step_ends : (s : State) (w m t y : List ℕ) → s.regs ≡ take register_words w
    → step_end ((step_call s m t).state.regs ++ drop register_words w) y (step_call s m t)
    ≡ step_end w y (step_call s m t)
unfolding step_call call_end
step_ends s w m t y e = go (state_answer s m t)
  where
    go : (x : Answer) → step_end ((step_call_by x s m t).state.regs ++ drop register_words w) y (step_call_by x s m t)
        ≡ step_end w y (step_call_by x s m t)
    go (Ok _) = refl
    go (Err r) =
        ap (λ (v : List ℕ). step_end v y (step_call_by (Err r) s m t))
        (ap (λ (v : List ℕ). v ++ drop register_words w) e ∙ take-append-drop register_words w)

pub step_on_words : (w m t y : List ℕ) (k : Control) (p : List ℕ) (r : StepEnd) (b q m' t' : List ℕ) (l : Left)
    → length w ≡ state_words
    → k ≡ control_of (state_in w)
    → p ≡ (state_in w).pcr
    → length b ≡ register_words
    → step_called r b q m' t' ≡ step_call (state_with (get_or w register_words 0) k (take register_words w) p) m t
    → l ≡ step_end (b ++ drop register_words w) y
    (step_called r (take register_words (b ++ drop register_words w)) q m' t')
    → l ≡ host_step w m t y
step_on_words w m t y k p r b q m' t' l h hk hp hb e left =
    let c : StepCall = step_call (state_in w) m t in
    let rest : List ℕ = drop register_words w in
    let level = get_or-take control_count rest 0 0 (omega arith) ∙ get_or-drop register_words w 0 0 in
    let entered : state_with (get_or w register_words 0) k (take register_words w) p ≡ state_in w =
    λ i. state_with (sym level i) (hk i) (take register_words w) (hp i) in
    let done : step_called r b q m' t' ≡ c = e ∙ ap (λ (s : State). step_call s m t) entered in
    let front : take register_words (b ++ rest) ≡ b = take_at b rest register_words hb in
    called_well (λ (s : State). step_call s m t) (step_end w y) w m t y (state_in w) c l h refl refl
    (left
    ∙ ap (λ (v : List ℕ). step_end (b ++ rest) y (step_called r v q m' t')) front
    ∙ (λ i. step_end ((done i).state.regs ++ rest) y (done i))
    ∙ step_ends (state_in w) w m t y refl)
