-- Demand 3: the theorem.
-- Assumes nothing.
use Prim.Native.Nat.{ℕ, zero, suc, ◌/◌}
use mathlib.Core.Path.{◌≡◌, refl, sym, ap, subst, ◌∙◌}
use mathlib.Core.Bool.{Bool, true, false}
use mathlib.Core.List.{List, []}
use native.Mathlib.Nat.{le_refl, sub-zero}
use lib.ListN.{get_or, length}
use borrow.Author.Tests.{eq-eqb}
use Rattle.isa.specs.Machine.{sizes_fit, ring_of, normal_table_of, alternate_table_of}
use Rattle.isa.specs.Pages.{entry_at}
use Rattle.isa.specs.Run.{run_from}
use Rattle.isa.specs.Answers.{state_answer, run_call, run_call_by}
use Rattle.isa.specs.DeviceInput.{InputRun, InputRunCall, alone, input_run_from, input_ran_call, input_run_call_by}
use Rattle.isa.specs.DeviceInput.{input_run_call}
use Rattle.isa.specs.Isolation.{start_pcr, start_form, reachable, writable, differs, differing_below}
use Rattle.isa.specs.declared.machine.State.{State}
use Rattle.isa.specs.declared.answer.Refusal.{Refusal}
use Rattle.isolation.specs.Statement.{Starts, Isolated, RefusedAlike, IsolatedRuns, RefusedRuns, without_input}
use Rattle.isa.proofs.Tests.{no_both}
use Rattle.isa.proofs.Marks.{same_entry}
use Rattle.isa.proofs.Permits.{writing_permitted}
use Rattle.isolation.proofs.Memories.{Agree, EvenMemories}
use Rattle.isolation.proofs.Inputs.{EvenInputRun, input_run_even}
use Rattle.std.specs.declared.result.Result.TheVariants.{Ok, Err}
use Rattle.isa.specs.Answers.{Answer}

-- the answer to a start depends on memory's size alone
answer_same : (s : State) (t m n : List ℕ) → length m ≡ length n → state_answer s m t ≡ state_answer s n t
unfolding state_answer sizes_fit
answer_same s t m n h = rw h

-- ---- differing words

-- two words that are equal do not differ
equal_words : (m n : List ℕ) (k : ℕ) → get_or m k 0 ≡ get_or n k 0 → differs m n k ≡ false
equal_words m n k e = rw (eq-eqb (get_or m k 0) (get_or n k 0) e)

-- the count goes by the words that differ
count_same : (m n m' n' : List ℕ) → ((k : ℕ) → differs m' n' k ≡ differs m n k) → (k : ℕ)
    → differing_below k m' n' ≡ differing_below k m n
count_same m n m' n' h zero = refl
count_same m n m' n' h (suc k) = rw (h k, count_same m n m' n' h k)

module _ (s : State) (t : List ℕ) where
  abbrev AgreeFrom : List ℕ → List ℕ → Type 0
  AgreeFrom m n =
      let p = start_pcr s in Agree (start_form s) t (normal_table_of p) (alternate_table_of p) (ring_of p) m n

  abbrev MemoriesFrom : List ℕ → List ℕ → List ℕ → List ℕ → Type 0
  MemoriesFrom m n m' n' =
      let p = start_pcr s in
      EvenMemories (start_form s) t (normal_table_of p) (alternate_table_of p) (ring_of p) m n m' n'

  abbrev EvenFrom : List ℕ → List ℕ → InputRun → InputRun → Type 0
  EvenFrom m n r q =
      let p = start_pcr s in
      EvenInputRun (start_form s) t (normal_table_of p) (alternate_table_of p) (ring_of p) m n r q

  -- a page that is not permitted is not permitted for writing
  foreign_unwritten : (page : ℕ) → reachable s t page ≡ false → writable s t page ≡ false
  foreign_unwritten page f = go (writable s t page) refl
    where
      go : (x : Bool) → writable s t page ≡ x → writable s t page ≡ false
      go true q =
          let p = start_pcr s in
          absurd
          (no_both (sym f ∙ writing_permitted (start_form s) t (normal_table_of p) (alternate_table_of p)
          (ring_of p) page q))
      go false q = q

  -- from m and n to m' and n': a word of a foreign page is as it was in each, and of any other page is the same in both
  module _ (m n m' n' : List ℕ) (h : AgreeFrom m n) (e : MemoriesFrom m n m' n') where
    both_kept : (k : ℕ) → reachable s t (k / 1024) ≡ false
        → (get_or m' k 0 ≡ get_or m k 0) × (get_or n' k 0 ≡ get_or n k 0)
    both_kept k f =
        (e.left.same k (foreign_unwritten (k / 1024) f), e.right.same k (foreign_unwritten (k / 1024) f))

    differ_kept : (k : ℕ) → differs m n k ≡ true → (get_or m' k 0 ≡ get_or m k 0) × (get_or n' k 0 ≡ get_or n k 0)
    differ_kept k d = go (reachable s t (k / 1024)) refl
      where
        go : (x : Bool) → reachable s t (k / 1024) ≡ x → (get_or m' k 0 ≡ get_or m k 0) × (get_or n' k 0 ≡ get_or n k 0)
        go true q = absurd (no_both (sym (equal_words m n k (h.same k q)) ∙ d))
        go false q = both_kept k q

    differ_same : (k : ℕ) → differs m' n' k ≡ differs m n k
    differ_same k = go (reachable s t (k / 1024)) refl
      where
        go : (x : Bool) → reachable s t (k / 1024) ≡ x → differs m' n' k ≡ differs m n k
        go true q = equal_words m' n' k (e.agree.same k q) ∙ sym (equal_words m n k (h.same k q))
        go false q = let p = both_kept k q in rw (p.0, p.1)

  -- ---- the conclusions

  even_isolated : (m n : List ℕ) (r q : InputRun) → AgreeFrom m n → EvenFrom m n r q
      → Isolated s t m n (input_ran_call r) (input_ran_call q)
  even_isolated m n r q h e =
      let m' = r.run.memory in
      let n' = q.run.memory in
      let u = e.run in
      let w = u.memories in
      let d = differ_same m n m' n' h w in
      record {
        answer = rw (u.steps, u.reason, u.references);
        told = e.told;
        state = u.state;
        tables = u.tables;
        differing = differ_kept m n m' n' h w;
        no_other = λ k f. d k ∙ f;
        count = ap (λ (x : ℕ). differing_below x m' n') w.left.size ∙ count_same m n m' n' d (length m);
        left = record { size = w.left.size; unwritten = w.left.same; marks = u.marks };
        right = record { size = w.right.size; unwritten = w.right.same; marks = rw (← u.tables) u.marks };
      }

  -- a refused call leaves everything as it came
  refused_isolated : (m n : List ℕ) (x : Refusal)
      → Isolated s t m n (record { answer = Err x; told = []; state = s; memory = m; tables = t })
      (record { answer = Err x; told = []; state = s; memory = n; tables = t })
  refused_isolated m n x = record {
    answer = refl;
    told = refl;
    state = refl;
    tables = refl;
    differing = λ k f. (refl, refl);
    no_other = λ k f. f;
    count = refl;
    left = record { size = refl; unwritten = λ k f. refl; marks = λ i. same_entry (entry_at (start_form s) t i) };
    right = record { size = refl; unwritten = λ k f. refl; marks = λ i. same_entry (entry_at (start_form s) t i) };
  }

-- THE THEOREM: run to the first interrupt from two starts that are alike, with one device input, for any number of
-- steps, 0 included.
pub isolation : IsolatedRuns
unfolding input_run_call
isolation c gs s t m n h =
    subst (λ (x : Answer). Isolated s t m n (input_run_call c gs s m t) (input_run_call_by x c gs s n t))
    (answer_same s t m n h.alike.size) (go (state_answer s m t))
  where
    agree : AgreeFrom s t m n
    agree = record { size = h.alike.size; same = h.alike.same }

    go : (x : Answer) → Isolated s t m n (input_run_call_by x c gs s m t) (input_run_call_by x c gs s n t)
    go (Ok _) =
        even_isolated s t m n (input_run_from c gs 0 s m t) (input_run_from c gs 0 s n t) agree
        (input_run_even (start_form s) t (normal_table_of (start_pcr s)) (alternate_table_of (start_pcr s))
        (ring_of (start_pcr s)) h.ring_low c gs 0 s m n t
        (record { paging_on = h.paging_on; entries = refl; ring_low = le_refl _; normal = refl; alternate = refl })
        agree
        (λ i. same_entry (entry_at (start_form s) t i)))
    go (Err x) = refused_isolated s t m n x

-- Two starts that are refused, with equally much memory and equal in all but memory's words, get the same refusal and
-- stay.
pub refused_alike : RefusedRuns
unfolding input_run_call
refused_alike c gs s t m n x h e = record { left = rw e; right = rw (← answer_same s t m n h, e) }

-- ---- without device input: both at the empty list

without_input_law : (c : ℕ) (s : State) (m t : List ℕ)
    → input_run_call c [] s m t ≡ without_input (run_call true c s m t)
unfolding input_run_call run_call
without_input_law c s m t = go (state_answer s m t)
  where
    go : (x : Answer) → input_run_call_by x c [] s m t ≡ without_input (run_call_by x true c s m t)
    go (Ok _) = ap (λ (k : ℕ). input_ran_call (alone (run_from true k 0 s m t))) (sub-zero c)
    go (Err x) = refl

pub isolation_without_input : (c : ℕ) (s : State) (t m n : List ℕ) → Starts s t m n
    → Isolated s t m n (without_input (run_call true c s m t)) (without_input (run_call true c s n t))
isolation_without_input c s t m n h =
    subst (λ (x : InputRunCall). Isolated s t m n x (without_input (run_call true c s n t))) (without_input_law c s m t)
    (subst (Isolated s t m n (input_run_call c [] s m t)) (without_input_law c s n t) (isolation c [] s t m n h))

pub refused_without_input : (c : ℕ) (s : State) (t m n : List ℕ) (x : Refusal) → length m ≡ length n
    → state_answer s m t ≡ Err x
    → RefusedAlike s t m n x (without_input (run_call true c s m t)) (without_input (run_call true c s n t))
refused_without_input c s t m n x h e =
    let r = refused_alike c [] s t m n x h e in
    record { left = sym (without_input_law c s m t) ∙ r.left; right = sym (without_input_law c s n t) ∙ r.right }
