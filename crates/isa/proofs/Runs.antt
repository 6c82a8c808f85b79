-- Steps and reasons of a run, and runs of runs.
-- Assumes nothing.
use Rattle.std.proofs.Common.{◌≡◌, ℕ, zero, suc, ◌+◌, ◌%◌, ◌<◌, ◌≤◌, Bool, true, false, cond, not, ◌&&◌, eqb, List, sym, refl, ap, ◌∙◌, add-zero, add-suc, suc-add, zero-add, arith}
use Rattle.isa.specs.Step.{Turn, step, is_stopped, change_due}
use Rattle.isa.specs.Run.{Run, ended, sum_range, counted_run, after_step, run_from}
use Rattle.isa.specs.Answers.{reason_number}
use Rattle.isa.specs.DeviceInput.{is_spent}
use Rattle.isa.specs.declared.machine.State.{State}
use Rattle.isa.specs.declared.answer.Reason.{Reason}
use Rattle.isa.specs.declared.answer.Reason.TheVariants.{Stopped, Level, Spent, Interrupt}
use Rattle.isa.proofs.Counts.{counted_run_twice, counted_run_low, counted_run_none, run_sum_below}

-- after k steps, with n to go: at least k were taken, at most n more, and exactly n more where the run is spent (reason
-- 2)
pub record Taken (n k : ℕ) (r : Run) : Type 0 where
  pub least : k ≤ r.steps
  pub most : r.steps ≤ k + n
  pub spent : reason_number r.reason ≡ 2 → r.steps ≡ k + n

-- a run that ends at once, for another reason than that it is spent
at_once : (w : Reason) (n k : ℕ) (s : State) (m t : List ℕ) → (reason_number w ≡ 2 → ⊥) → Taken n k (ended w k s m t)
at_once w n k s m t h = record { least = omega arith; most = omega arith; spent = λ q. absurd (h q) }

-- one step more
one_more : (n k : ℕ) (r : Run) → Taken n (suc k) r → Taken (suc n) k r
one_more n k r h =
    record {
      least = omega (arith, h.least);
      most = omega (arith, h.most);
      spent = λ q. let e = h.spent q in omega (arith, e);
    }

after_taken : (first : Bool) (n k : ℕ) (rest : ℕ → State → List ℕ → List ℕ → Run) (r : Turn)
    → ((s : State) (m t : List ℕ) → Taken n (suc k) (rest (suc k) s m t)) → Taken (suc n) k (after_step first rest k r)
after_taken first n k rest r h =
    let q = go (first && not (eqb r.gave 0)) in
    one_more n k (after_step first rest k r) (record { least = q.least; most = q.most; spent = q.spent })
  where
    go : (x : Bool)
        → Taken n (suc k) (cond x (ended Interrupt (suc k) r.state r.memory r.tables)
        (rest (suc k) r.state r.memory r.tables))
    go true = at_once Interrupt n (suc k) r.state r.memory r.tables (λ q. omega (arith, q))
    go false = h r.state r.memory r.tables

before_taken : (x y : Bool) (n k : ℕ) (s : State) (m t : List ℕ) (r : Run) → Taken n k r
    → Taken n k (cond x (ended Stopped k s m t) (cond y (ended Level k s m t) r))
before_taken true y n k s m t r h = at_once Stopped n k s m t (λ q. omega (arith, q))
before_taken false true n k s m t r h = at_once Level n k s m t (λ q. omega (arith, q))
before_taken false false n k s m t r h = h

pub run_taken : (first : Bool) (n k : ℕ) (s : State) (m t : List ℕ) → Taken n k (run_from first n k s m t)
run_taken first zero k s m t =
    before_taken (is_stopped s) (first && change_due s) 0 k s m t (ended Spent k s m t)
    (record { least = omega arith; most = omega arith; spent = λ q. omega arith })
run_taken first (suc n) k s m t =
    before_taken (is_stopped s) (first && change_due s) (suc n) k s m t
    (after_step first (run_from first n) k (step s m t))
    (after_taken first n k (run_from first n) (step s m t) (run_taken first n (suc k)))

-- a stopped machine ends a run at once, whatever memory holds
pub run_stopped : (first : Bool) (n k : ℕ) (s : State) (m t : List ℕ) → is_stopped s ≡ true
    → run_from first n k s m t ≡ ended Stopped k s m t
run_stopped first zero k s m t h = rw h
run_stopped first (suc n) k s m t h = rw h

-- with none to go, one that is not stopped, with no change of level due, is spent, whatever memory holds
pub run_spent : (first : Bool) (k : ℕ) (s : State) (m t : List ℕ) → is_stopped s ≡ false → change_due s ≡ false
    → run_from first 0 k s m t ≡ ended Spent k s m t
run_spent true k s m t h d = rw (h, d)
run_spent false k s m t h d = rw h

-- ---- a run from a later step, and a run of a sum

-- the run with j steps before it
abbrev pub later : ℕ → Run → Run
later j r = record {
  state = r.state;
  steps = j + r.steps;
  reason = r.reason;
  memory = r.memory;
  tables = r.tables;
  references = r.references;
}

-- what came of the tests before a step, and the rest
before_later : (x y : Bool) (j k : ℕ) (s : State) (m t : List ℕ) (q r : Run) → q ≡ later j r
    → cond x (ended Stopped (j + k) s m t) (cond y (ended Level (j + k) s m t) q)
    ≡ later j (cond x (ended Stopped k s m t) (cond y (ended Level k s m t) r))
before_later true y j k s m t q r h = refl
before_later false true j k s m t q r h = refl
before_later false false j k s m t q r h = h

after_later : (first : Bool) (n j k : ℕ) (r : Turn)
    → ((s : State) (m t : List ℕ) → run_from first n (suc (j + k)) s m t ≡ later j (run_from first n (suc k) s m t))
    → after_step first (run_from first n) (j + k) r ≡ later j (after_step first (run_from first n) k r)
after_later first n j k r h = ap (counted_run r.references) (go (first && not (eqb r.gave 0)))
  where
    go : (x : Bool)
        → cond x (ended Interrupt (suc (j + k)) r.state r.memory r.tables)
        (run_from first n (suc (j + k)) r.state r.memory r.tables)
        ≡ later j (cond x (ended Interrupt (suc k) r.state r.memory r.tables)
        (run_from first n (suc k) r.state r.memory r.tables))
    go true = λ i. ended Interrupt (sym (add-suc j k) i) r.state r.memory r.tables
    go false = h r.state r.memory r.tables

run_later : (first : Bool) (n j k : ℕ) (s : State) (m t : List ℕ)
    → run_from first n (j + k) s m t ≡ later j (run_from first n k s m t)
run_later first zero j k s m t =
    before_later (is_stopped s) (first && change_due s) j k s m t (ended Spent (j + k) s m t) (ended Spent k s m t) refl
run_later first (suc n) j k s m t =
    before_later (is_stopped s) (first && change_due s) j k s m t
    (after_step first (run_from first n) (j + k) (step s m t)) (after_step first (run_from first n) k (step s m t))
    (after_later first n j k (step s m t)
    (λ u v w. ap (λ (i : ℕ). run_from first n i u v w) (sym (add-suc j k)) ∙ run_later first n j (suc k) u v w))

-- a run after k steps is the run from 0 with k steps before it
pub run_shift : (first : Bool) (n k : ℕ) (s : State) (m t : List ℕ)
    → run_from first n k s m t ≡ later k (run_from first n 0 s m t)
run_shift first n k s m t =
    ap (λ (i : ℕ). run_from first n i s m t) (sym (add-zero k)) ∙ run_later first n k 0 s m t

-- the run r, and if it is spent the rest from where it ended, with the references of both
abbrev pub onward : (ℕ → State → List ℕ → List ℕ → Run) → Run → Run
onward rest r =
    cond (is_spent r.reason) (counted_run r.references (rest r.steps r.state r.memory r.tables)) r

-- references before both
counted_onward : (rest : ℕ → State → List ℕ → List ℕ → Run) (g : ℕ) (r : Run)
    → counted_run g (onward rest r) ≡ onward rest (counted_run g r)
counted_onward rest g r = go (is_spent r.reason)
  where
    on : Run
    on = rest r.steps r.state r.memory r.tables

    go : (x : Bool)
        → counted_run g (cond x (counted_run r.references on) r)
        ≡ cond x (counted_run ((g + r.references) % sum_range) on) (counted_run g r)
    go true = counted_run_twice g r.references on ∙ sym (counted_run_low (g + r.references) on)
    go false = refl

-- what came of the tests before a step, and the rest
before_onward : (rest : ℕ → State → List ℕ → List ℕ → Run) (x y : Bool) (k : ℕ) (s : State) (m t : List ℕ) (q r : Run)
    → q ≡ onward rest r
    → cond x (ended Stopped k s m t) (cond y (ended Level k s m t) q)
    ≡ onward rest (cond x (ended Stopped k s m t) (cond y (ended Level k s m t) r))
before_onward rest true y k s m t q r h = refl
before_onward rest false true k s m t q r h = refl
before_onward rest false false k s m t q r h = h

after_onward : (first : Bool) (a b k : ℕ) (r : Turn)
    → ((s : State) (m t : List ℕ)
    → run_from first (a + b) (suc k) s m t ≡ onward (run_from first b) (run_from first a (suc k) s m t))
    → after_step first (run_from first (a + b)) k r
    ≡ onward (run_from first b) (after_step first (run_from first a) k r)
after_onward first a b k r h =
    let x = first && not (eqb r.gave 0) in
    let q =
    cond x (ended Interrupt (suc k) r.state r.memory r.tables)
    (run_from first a (suc k) r.state r.memory r.tables) in
    ap (counted_run r.references) (go x) ∙ counted_onward (run_from first b) r.references q
  where
    go : (x : Bool)
        → cond x (ended Interrupt (suc k) r.state r.memory r.tables)
        (run_from first (a + b) (suc k) r.state r.memory r.tables)
        ≡ onward (run_from first b) (cond x (ended Interrupt (suc k) r.state r.memory r.tables)
        (run_from first a (suc k) r.state r.memory r.tables))
    go true = refl
    go false = h r.state r.memory r.tables

-- with none to go before it, the rest makes the same tests again
tests_again : (rest : ℕ → State → List ℕ → List ℕ → Run) (x y : Bool) (k : ℕ) (s : State) (m t : List ℕ) (q : Run)
    → (rest k s m t).references < sum_range
    → rest k s m t ≡ cond x (ended Stopped k s m t) (cond y (ended Level k s m t) q)
    → rest k s m t ≡ onward rest (cond x (ended Stopped k s m t) (cond y (ended Level k s m t) (ended Spent k s m t)))
tests_again rest true y k s m t q below h = h
tests_again rest false true k s m t q below h = h
tests_again rest false false k s m t q below h = sym (counted_run_none (rest k s m t) below)

none_onward : (first : Bool) (b k : ℕ) (s : State) (m t : List ℕ)
    → run_from first b k s m t ≡ onward (run_from first b) (run_from first 0 k s m t)
none_onward first zero k s m t =
    tests_again (run_from first 0) (is_stopped s) (first && change_due s) k s m t (ended Spent k s m t)
    (run_sum_below first 0 k s m t) refl
none_onward first (suc b) k s m t =
    tests_again (run_from first (suc b)) (is_stopped s) (first && change_due s) k s m t
    (after_step first (run_from first b) k (step s m t)) (run_sum_below first (suc b) k s m t) refl

-- a run of a + b steps is the run of a and, if that is spent, of b from what it left; its references are those of both
pub run_sum : (first : Bool) (a b k : ℕ) (s : State) (m t : List ℕ)
    → run_from first (a + b) k s m t ≡ onward (run_from first b) (run_from first a k s m t)
run_sum first zero b k s m t =
    ap (λ (n : ℕ). run_from first n k s m t) (zero-add b) ∙ none_onward first b k s m t
run_sum first (suc a) b k s m t =
    ap (λ (n : ℕ). run_from first n k s m t) (suc-add a b)
    ∙ before_onward (run_from first b) (is_stopped s) (first && change_due s) k s m t
    (after_step first (run_from first (a + b)) k (step s m t)) (after_step first (run_from first a) k (step s m t))
    (after_onward first a b k (step s m t) (run_sum first a b (suc k)))
