-- Answers in document 01's numbers.
-- Assumes nothing.
use Prim.Native.Nat.{ℕ, ◌+◌}
use mathlib.Core.Path.{◌≡◌, refl, ap, ◌∙◌}
use mathlib.Core.Bool.{Bool, true, false, cond, not}
use mathlib.Core.List.{List, [], ◌∷◌, ◌++◌}
use lib.ListN.{get_or, length}
use lib.Dec.{ltb, eqb}
use Rattle.isa.specs.Machine.{sizes_fit, in_range}
use Rattle.isa.specs.Step.{step}
use Rattle.isa.specs.Run.{Run, run_from}
use Rattle.isa.specs.Images.{ImageEntry, contents, bodies, contents_fit, known_kind, size_of, meets_any, entries_answer}
use Rattle.isa.specs.Images.{named_words}
use Rattle.isa.specs.Images.{loaded_state, image_size}
use Rattle.isa.specs.Answers.{refusal_number, reason_number, state_answer, step_call_by, step_call, run_call_by, run_call}
use Rattle.isa.specs.Answers.{device_level, level_answer, raise_call_by, raise_call, bodies_answer, load_answer, load_call_by}
use Rattle.isa.specs.Answers.{load_call, output_answer, write_answer, target_of, view_answer, Told, answer_numbers}
use Rattle.isa.specs.Answers.{step_numbers}
use Rattle.isa.specs.Answers.{run_numbers, tells_by, state_tests, step_told, run_told, raise_told, entry_tests, load_told}
use Rattle.isa.specs.Answers.{write_told, view_told, sent_numbers, tick_call_by, tick_call, tick_told, is_unread}
use Rattle.isa.specs.Answers.{unread_answer, type_call_by, type_call, type_told, waits, read_out_call_by, read_out_call}
use Rattle.isa.specs.Answers.{read_out_told}
use Rattle.isa.specs.DeviceInput.{Given, input_run_from, input_run_call_by, input_run_call, input_run_told}
use Rattle.isa.specs.declared.machine.State.{State}
use Rattle.isa.specs.declared.answer.Reason.{Reason}
use Rattle.isa.specs.declared.answer.Reason.TheVariants.{Stopped, Level, Spent, Interrupt}
use Rattle.isa.specs.declared.answer.Target.{Target}
use Rattle.isa.specs.declared.answer.Refusal.{Refusal}
use Rattle.isa.specs.declared.answer.Refusal.TheVariants.{Sizes, State as StateRange, RaiseLevel, Contents, Kind}
use Rattle.isa.specs.declared.answer.Refusal.TheVariants.{Target as TargetSize, Overlap, Bodies, View, Output}
use Rattle.isa.specs.declared.answer.Refusal.TheVariants.{Unread}
use Rattle.isa.proofs.Refusals.{refusal_at, refusal_again, refusal_above, decides}
use Rattle.laws.specs.Statement.{NumbersDecide, CallsTell}
use Rattle.std.specs.declared.result.Result.TheVariants.{Ok, Err}
use Rattle.std.specs.declared.option.Option.TheVariants.{Some, None}
use Rattle.isa.specs.Answers.{Answer, StepAnswer, RunAnswer, SentAnswer}

-- ---- number and values determine the answer: it can be made of them again

abbrev reason_at : ℕ → Reason
reason_at n = get_or (Stopped ∷ Level ∷ Spent ∷ Interrupt ∷ []) n Stopped

reason_again : (w : Reason) → reason_at (reason_number w) ≡ w
reason_again Stopped = refl
reason_again Level = refl
reason_again Spent = refl
reason_again Interrupt = refl

abbrev answer_at : Told → Answer
answer_at r = cond (eqb r.number 0) (Ok tt) (Err (refusal_at r.number))

answer_again : (a : Answer) → answer_at (answer_numbers a) ≡ a
answer_again (Ok _) = refl
answer_again (Err x) = rw (refusal_above x) (ap Err (refusal_again x))

abbrev step_at : Told → StepAnswer
step_at r = cond (eqb r.number 0) (Ok (get_or r.values 0 0)) (Err (refusal_at r.number))

step_again : (a : StepAnswer) → step_at (step_numbers a) ≡ a
step_again (Ok n) = refl
step_again (Err x) = rw (refusal_above x) (ap Err (refusal_again x))

abbrev run_at : Told → RunAnswer
run_at r =
    let v = r.values in
    cond (eqb r.number 0)
    (Ok (record { steps = get_or v 0 0; reason = reason_at (get_or v 1 0); references = get_or v 2 0 }))
    (Err (refusal_at r.number))

run_again : (a : RunAnswer) → run_at (run_numbers a) ≡ a
run_again (Ok r) =
    ap (λ (w : Reason). Ok (record { steps = r.steps; reason = w; references = r.references })) (reason_again r.reason)
run_again (Err x) = rw (refusal_above x) (ap Err (refusal_again x))

-- of a read out, none is told apart from a character by having no value
abbrev sent_at : Told → SentAnswer
sent_at r =
    cond (eqb r.number 0) (cond (eqb (length r.values) 0) (Ok None) (Ok (Some (get_or r.values 0 0))))
    (Err (refusal_at r.number))

sent_again : (a : SentAnswer) → sent_at (sent_numbers a) ≡ a
sent_again (Ok (Some w)) = refl
sent_again (Ok None) = refl
sent_again (Err x) = rw (refusal_above x) (ap Err (refusal_again x))

pub numbers_decide : NumbersDecide
numbers_decide = record {
  refusal = decides refusal_number refusal_at refusal_again;
  reason = decides reason_number reason_at reason_again;
  answer = decides answer_numbers answer_at answer_again;
  step = decides step_numbers step_at step_again;
  run = decides run_numbers run_at run_again;
  sent = decides sent_numbers sent_at sent_again;
}

-- ---- each operation's tests

-- what is told after an answer: its refusal, or what comes after it
abbrev after : Answer → Told → Told
after (Ok _) r = r
after (Err x) r = answer_numbers (Err x)

-- the tests 1 and 2, and others after them
state_tells : (s : State) (m t : List ℕ) (xs : List (Bool × ℕ)) (vs : List ℕ)
    → after (state_answer s m t) (tells_by xs vs) ≡ tells_by (state_tests s m t ++ xs) vs
unfolding state_answer
state_tells s m t xs vs = go (sizes_fit m t) (in_range s)
  where
    go : (x y : Bool) → after (cond (not x) (Err Sizes) (cond (not y) (Err StateRange) (Ok tt))) (tells_by xs vs)
        ≡ tells_by ((not x, 1) ∷ (not y, 2) ∷ xs) vs
    go true true = refl
    go true false = refl
    go false y = refl

step_tells : (s : State) (m t : List ℕ) → step_numbers (step_call s m t).answer ≡ step_told s m t
unfolding step_call step_told
step_tells s m t = go (state_answer s m t) ∙ state_tells s m t [] ((step s m t).gave ∷ [])
  where
    go : (a : Answer) → step_numbers (step_call_by a s m t).answer ≡ after a (tells_by [] ((step s m t).gave ∷ []))
    go (Ok _) = refl
    go (Err x) = refl

run_tells : (first : Bool) (n : ℕ) (s : State) (m t : List ℕ)
    → run_numbers (run_call first n s m t).answer ≡ run_told first n s m t
unfolding run_call run_told
run_tells first n s m t = go (state_answer s m t) ∙ state_tells s m t [] values
  where
    r : Run
    r = run_from first n 0 s m t

    values : List ℕ
    values = r.steps ∷ reason_number r.reason ∷ r.references ∷ []

    go : (a : Answer) → run_numbers (run_call_by a first n s m t).answer ≡ after a (tells_by [] values)
    go (Ok _) = refl
    go (Err x) = refl

-- one test more, by an answer
one_more : (b : Bool) (x : Refusal)
    → answer_numbers (cond b (Err x) (Ok tt)) ≡ tells_by ((b, refusal_number x) ∷ []) []
one_more true x = refl
one_more false x = refl

raise_tells : (s : State) (l : ℕ) (m t : List ℕ) → answer_numbers (raise_call s l m t).answer ≡ raise_told s l m t
unfolding raise_call raise_told
raise_tells s l m t = go (state_answer s m t) ∙ state_tells s m t ((not (device_level l), 3) ∷ []) []
  where
    level : (b : Bool) → answer_numbers (raise_call_by (cond b (Ok tt) (Err RaiseLevel)) s l).answer
        ≡ tells_by ((not b, 3) ∷ []) []
    level true = refl
    level false = refl

    go : (a : Answer) → answer_numbers (raise_call_by (level_answer l a) s l).answer
        ≡ after a (tells_by ((not (device_level l), 3) ∷ []) [])
    go (Ok _) = level (device_level l)
    go (Err x) = refl

tick_tells : (s : State) (m t : List ℕ) → answer_numbers (tick_call s m t).answer ≡ tick_told s m t
unfolding tick_call tick_told
tick_tells s m t = go (state_answer s m t) ∙ state_tells s m t [] []
  where
    go : (a : Answer) → answer_numbers (tick_call_by a s).answer ≡ after a (tells_by [] [])
    go (Ok _) = refl
    go (Err x) = refl

type_tells : (s : State) (w : ℕ) (m t : List ℕ) → answer_numbers (type_call s w m t).answer ≡ type_told s m t
unfolding type_call type_told
type_tells s w m t = go (state_answer s m t) ∙ state_tells s m t ((is_unread s, 11) ∷ []) []
  where
    unread : (b : Bool) → answer_numbers (type_call_by (cond b (Err Unread) (Ok tt)) s w).answer
        ≡ tells_by ((b, 11) ∷ []) []
    unread true = refl
    unread false = refl

    go : (a : Answer) → answer_numbers (type_call_by (unread_answer s a) s w).answer
        ≡ after a (tells_by ((is_unread s, 11) ∷ []) [])
    go (Ok _) = unread (is_unread s)
    go (Err x) = refl

read_out_tells : (s : State) (m t : List ℕ) → sent_numbers (read_out_call s m t).answer ≡ read_out_told s m t
unfolding read_out_call read_out_told
read_out_tells s m t = go (state_answer s m t) ∙ state_tells s m t [] (values (waits s))
  where
    w : ℕ
    w = s.devices.output.character

    values : Bool → List ℕ
    values b = cond b (w ∷ []) []

    sent : (b : Bool) → sent_numbers (cond b (Ok (Some w)) (Ok None)) ≡ tells_by [] (values b)
    sent true = refl
    sent false = refl

    go : (a : Answer) → sent_numbers (read_out_call_by a s).answer ≡ after a (tells_by [] (values (waits s)))
    go (Ok _) = sent (waits s)
    go (Err x) = refl

input_run_tells : (n : ℕ) (gs : List Given) (s : State) (m t : List ℕ)
    → run_numbers (input_run_call n gs s m t).answer ≡ input_run_told n gs s m t
unfolding input_run_call input_run_told
input_run_tells n gs s m t = go (state_answer s m t) ∙ state_tells s m t [] values
  where
    r : Run
    r = (input_run_from n gs 0 s m t).run

    values : List ℕ
    values = r.steps ∷ reason_number r.reason ∷ r.references ∷ []

    go : (a : Answer) → run_numbers (input_run_call_by a n gs s m t).answer ≡ after a (tells_by [] values)
    go (Ok _) = refl
    go (Err x) = refl

write_tells : (s : State) (m t out : List ℕ) → answer_numbers (write_answer s m t out) ≡ write_told s m t out
unfolding write_answer write_told
write_tells s m t out = go (state_answer s m t) ∙ state_tells s m t ((ltb (length out) (image_size m), 10) ∷ []) []
  where
    go : (a : Answer) → answer_numbers (output_answer m out a)
        ≡ after a (tells_by ((ltb (length out) (image_size m), 10) ∷ []) [])
    go (Ok _) = one_more (ltb (length out) (image_size m)) Output
    go (Err x) = refl

view_tells : (k : Target) (a n : ℕ) (m t : List ℕ) → answer_numbers (view_answer k a n m t) ≡ view_told k a n m t
unfolding view_answer view_told
view_tells k a n m t = go (sizes_fit m t) (ltb (length (target_of k m t)) (a + n))
  where
    go : (x y : Bool) → answer_numbers (cond (not x) (Err Sizes) (cond y (Err View) (Ok tt)))
        ≡ tells_by ((not x, 1) ∷ (y, 9) ∷ []) []
    go true y = one_more y View
    go false y = refl

-- the tests of entries, and others after them
entries_tell : (words : ℕ) (seen es : List ImageEntry) (xs : List (Bool × ℕ))
    → after (entries_answer words seen es) (tells_by xs []) ≡ tells_by (entry_tests words seen es ++ xs) []
entries_tell words seen [] xs = refl
entries_tell words seen (e ∷ es) xs =
    go (not (known_kind e.kind)) (ltb (size_of words e.kind) (e.start + e.count)) (meets_any e seen)
    (entries_tell words (e ∷ seen) es xs)
  where
    a : Answer
    a = entries_answer words (e ∷ seen) es

    ys : List (Bool × ℕ)
    ys = entry_tests words (e ∷ seen) es ++ xs

    go : (x y z : Bool) → after a (tells_by xs []) ≡ tells_by ys []
        → after (cond x (Err Kind) (cond y (Err TargetSize) (cond z (Err Overlap) a))) (tells_by xs [])
        ≡ tells_by ((x, 5) ∷ (y, 6) ∷ (z, 7) ∷ ys) []
    go true y z h = refl
    go false true z h = refl
    go false false true h = refl
    go false false false h = h

load_tells : (s : State) (i m t : List ℕ) → answer_numbers (load_call s i m t).answer ≡ load_told i m t
unfolding load_call load_answer load_told
load_tells s i m t = by (load_answer i m t) ∙ go (sizes_fit m t) (contents_fit i)
  where
    by : (a : Answer) → answer_numbers (load_call_by a s i m t).answer ≡ answer_numbers a
    by (Ok _) = refl
    by (Err x) = refl

    last : List (Bool × ℕ)
    last = (not (eqb (named_words (contents i)) (length (bodies i))), 8) ∷ (not (in_range (loaded_state i)), 2) ∷ []

    -- 8, then 2
    bodies_tell : (x y : Bool) → answer_numbers (cond x (Err Bodies) (cond y (Err StateRange) (Ok tt)))
        ≡ tells_by ((x, 8) ∷ (y, 2) ∷ []) []
    bodies_tell true y = refl
    bodies_tell false true = refl
    bodies_tell false false = refl

    then : (a : Answer) → answer_numbers (bodies_answer i a) ≡ after a (tells_by last [])
    then (Ok _) = bodies_tell (not (eqb (named_words (contents i)) (length (bodies i)))) (not (in_range (loaded_state i)))
    then (Err x) = refl

    answer : Answer
    answer = entries_answer (length m) [] (contents i)

    go : (x y : Bool)
        → answer_numbers (cond (not x) (Err Sizes) (cond (not y) (Err Contents) (bodies_answer i answer)))
        ≡ tells_by ((not x, 1) ∷ (not y, 4) ∷ (entry_tests (length m) [] (contents i) ++ last)) []
    go true true = then answer ∙ entries_tell (length m) [] (contents i) last
    go true false = refl
    go false y = refl

pub calls_tell : CallsTell
calls_tell = record {
  step = step_tells;
  run = run_tells;
  raise = raise_tells;
  tick = tick_tells;
  typed = type_tells;
  read_out = read_out_tells;
  input_run = input_run_tells;
  load = load_tells;
  write = write_tells;
  view = view_tells;
}
