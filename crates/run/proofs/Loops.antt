-- Where a run stands after so many steps, how it goes on, and how it ends.
-- Assumes nothing.
use Rattle.std.proofs.Common.{◌≡◌, ℕ, zero, suc, ◌+◌, ◌-◌, ◌%◌, ◌<◌, ◌≤◌, Bool, true, false, cond, not, ◌&&◌, eqb, List, sym, refl, ap, ◌∙◌, add-zero, mod-lt, mod-eq_of_lt, zero-add, arith, lit<}
use Rattle.isa.specs.Machine.{control_of}
use Rattle.isa.specs.Step.{Turn, turn, step, is_stopped}
use Rattle.isa.specs.Run.{Run, sum_range, ended, counted_run, run_from}
use Rattle.isa.proofs.Runs.{run_stopped}
use Rattle.isa.proofs.Counts.{counted_run_twice, counted_run_low}
use Rattle.isa.proofs.References.{nine_at_most}
use Rattle.isa.proofs.Tests.{no_both, and_left}
use Rattle.isa.specs.declared.answer.Reason.{Reason}
use Rattle.isa.specs.declared.answer.Reason.TheVariants.{Stopped, Level, Spent, Interrupt}
use Rattle.isa.specs.declared.machine.State.{State}
use Rattle.levels.specs.Changes.{due_at}
use Rattle.levels.specs.declared.change.Advanced.{Advanced}
use Rattle.levels.proofs.Changes.{due_pack}
use Rattle.run_slice.specs.Advances.{Advance}
use Rattle.run.specs.Runs.{ran_with, turn_with, reason_at_rest}

-- a run of n steps from s stands at r, behind k of them; r has their references, the sum's low 64 bits
pub record Going (first : Bool) (n : ℕ) (s : State) (m t : List ℕ) (k : ℕ) (r : Turn) : Type 0 where
  pub most : k ≤ n
  pub low : r.references < sum_range
  pub total :
      run_from first n 0 s m t ≡ counted_run r.references (run_from first (n - k) k r.state r.memory r.tables)
  pub none : k ≡ 0 → r ≡ turn s 0 m t
  pub one : k ≡ 1 → r ≡ step s m t

-- .. and ends there for the reason w; a run through of one step is the step
abbrev pub Ended : Bool → ℕ → State → List ℕ → List ℕ → Reason → ℕ → Turn → Type 0
Ended first n s m t w k r =
    (ran_with r.references w k r.state r.memory r.tables ≡ run_from first n 0 s m t)
    × (n ≡ 1 → first ≡ false → r ≡ step s m t)

-- a run to the first interrupt is not a run through
not_through : (first y : Bool) → (first && y) ≡ true → first ≡ false → ⊥
not_through first y h e = no_both (sym e ∙ and_left first y h)

stopped_step : (s : State) (m t : List ℕ) → is_stopped s ≡ true → turn s 0 m t ≡ step s m t
unfolding step
stopped_step s m t h = rw h

-- a run that ends, with the references before
ended_with : (g : ℕ) (w : Reason) (k : ℕ) (s : State) (m t : List ℕ) → g < sum_range
    → ran_with g w k s m t ≡ counted_run g (ended w k s m t)
ended_with g w k s m t h =
    ap (λ (n : ℕ). ran_with n w k s m t) (sym (ap (λ (n : ℕ). n % sum_range) (add-zero g) ∙ mod-eq_of_lt h))

-- before a step
level_run : (first : Bool) (n k : ℕ) (s : State) (m t : List ℕ) → is_stopped s ≡ false
    → (first && due_at s.level (control_of s)) ≡ true
    → run_from first n k s m t ≡ ended Level k s m t
level_run first zero k s m t x d = rw (x, ap (first &&◌) (due_pack s) ∙ d)
level_run first (suc n) k s m t x d = rw (x, ap (first &&◌) (due_pack s) ∙ d)

rest_run : (first : Bool) (k : ℕ) (s : State) (m t : List ℕ)
    → run_from first 0 k s m t ≡ ended (reason_at_rest first s.level (control_of s)) k s m t
rest_run first k s m t =
    ap (λ (b : Bool). cond (is_stopped s) (ended Stopped k s m t) (cond b (ended Level k s m t) (ended Spent k s m t)))
    (ap (first &&◌) (due_pack s))
    ∙ go (is_stopped s) (first && due_at s.level (control_of s))
  where
    go : (x y : Bool) → cond x (ended Stopped k s m t) (cond y (ended Level k s m t) (ended Spent k s m t))
        ≡ ended (cond x Stopped (cond y Level Spent)) k s m t
    go true y = refl
    go false true = refl
    go false false = refl

module _ {first : Bool} {n : ℕ} {s : State} {m t : List ℕ} {k : ℕ} {r : Turn} (g : Going first n s m t k r) where
  pub ends_stopped : k < n → is_stopped r.state ≡ true → Ended first n s m t Stopped k r
  ends_stopped h x = (
    ended_with r.references Stopped k r.state r.memory r.tables g.low
        ∙ ap (counted_run r.references) (sym (run_stopped first (n - k) k r.state r.memory r.tables x))
        ∙ sym g.total,
    λ o f.
        let e : r ≡ turn s 0 m t = g.none (omega (arith, o, h)) in
        e ∙ stopped_step s m t (ap (λ (y : Turn). is_stopped y.state) (sym e) ∙ x),
  )

  pub ends_level : is_stopped r.state ≡ false → (first && due_at r.state.level (control_of r.state)) ≡ true
      → Ended first n s m t Level k r
  ends_level x d = (
    ended_with r.references Level k r.state r.memory r.tables g.low
        ∙ ap (counted_run r.references) (sym (level_run first (n - k) k r.state r.memory r.tables x d))
        ∙ sym g.total,
    λ o f. absurd (not_through first (due_at r.state.level (control_of r.state)) d f),
  )

  pub ends_at_rest : n ≤ k → Ended first n s m t (reason_at_rest first r.state.level (control_of r.state)) k r
  ends_at_rest h =
      let e : n - k ≡ 0 = omega (arith, h, g.most) in
      let w = reason_at_rest first r.state.level (control_of r.state) in (
        ended_with r.references w k r.state r.memory r.tables g.low
            ∙ ap (counted_run r.references)
            (sym (rest_run first k r.state r.memory r.tables)
            ∙ ap (λ (x : ℕ). run_from first x k r.state r.memory r.tables) (sym e))
            ∙ sym g.total,
        λ o f. g.one (omega (arith, h, g.most, o)),
      )

  -- behind the steps of an advance to q, whose references are added to those before
  module _ (a : Advanced) (q : Turn) (sum : ℕ) (added : sum ≡ (r.references + q.references) % sum_range)
      (h : k < n) (b : a.before < n - k)
      (v : Advance r.state r.memory r.tables (n - k) a q)
      (o : a.before ≡ 0 → step r.state r.memory r.tables ≡ q)
      (d : (first && due_at r.state.level (control_of r.state)) ≡ false) where
    -- what it leaves, with the sum
    abbrev pub there : Turn
    there = turn_with sum q.state q.gave q.memory q.tables

    below : sum < sum_range
    below = rw added (mod-lt (r.references + q.references) (lit< tt))

    -- the run behind its steps, where that is y
    behind : (y : Run)
        → cond (first && not (eqb q.gave 0))
        (ended Interrupt (suc (k + a.before)) q.state q.memory q.tables)
        (run_from first (n - k - suc a.before) (suc (k + a.before)) q.state q.memory q.tables) ≡ y
        → run_from first n 0 s m t ≡ counted_run sum y
    behind y e =
        g.total
        ∙ ap (counted_run r.references) (v first k d ∙ ap (counted_run q.references) e)
        ∙ counted_run_twice r.references q.references y
        ∙ sym (counted_run_low (r.references + q.references) y)
        ∙ ap (λ (x : ℕ). counted_run x y) (sym added)

    -- a first step's references are few, so that their sum is themselves
    only : k + a.before + 1 ≡ 1 → there ≡ step s m t
    only z =
        let e : r ≡ turn s 0 m t = g.none (omega (arith, z)) in
        let same : q ≡ step s m t =
        sym (o (omega (arith, z))) ∙ ap (λ (y : Turn). step y.state y.memory y.tables) e in
        let few : (step s m t).references < sum_range = omega (arith, nine_at_most s m t) in
        let whole : sum ≡ q.references =
        added
        ∙ ap (λ (y : Turn). (y.references + q.references) % sum_range) e
        ∙ ap (λ (y : ℕ). y % sum_range) (zero-add q.references)
        ∙ mod-eq_of_lt (rw same few) in
        ap (λ (y : ℕ). turn_with y q.state q.gave q.memory q.tables) whole ∙ same

    pub goes_on_law : (first && not (eqb q.gave 0)) ≡ false → Going first n s m t (k + a.before + 1) there
    goes_on_law x = record {
      most = omega (arith, b, h);
      low = below;
      total =
          let e : suc (k + a.before) ≡ k + a.before + 1 = omega arith in
          let i : n - k - suc a.before ≡ n - (k + a.before + 1) = omega arith in
          behind _ (rw x (λ z. run_from first (i z) (e z) q.state q.memory q.tables));
      none = λ z. absurd (omega (arith, z));
      one = only;
    }
