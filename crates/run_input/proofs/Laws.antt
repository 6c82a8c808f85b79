-- Where a run with device input stands behind so many inputs.
-- Assumes nothing.
use Rattle.std.proofs.Common.{◌≡◌, ℕ, zero, suc, ◌+◌, ◌-◌, ◌%◌, ◌<◌, ◌≤◌, Bool, true, false, cond, ltb, List, [], ◌∷◌, ◌++◌, length, get_or, take, drop, set, sym, refl, ap, ◌∙◌, subst, append-nil, mod-lt, arith, lit<, length-set, drop-drop, take-suc-set, drop-set-lt, le-ltb, lt-ltb}
use lib.Seq.{append_snoc}
use Rattle.isa.specs.Machine.{state_with}
use Rattle.isa.specs.Run.{Run, sum_range, counted_run, run_from}
use Rattle.isa.proofs.Tests.{either}
use Rattle.isa.proofs.Counts.{counted_run_twice, counted_run_low, counted_run_none, run_sum_below}
use Rattle.isa.specs.DeviceInput.{Given, InputCall, InputRun, input_call, alone, telling, is_spent, handed, input_run_from}
use Rattle.isa.specs.DeviceInput.{counted_input_run, input_of, given_of}
use Rattle.isa.specs.declared.machine.State.{State}
use Rattle.run.specs.Runs.{ran_with}
use Rattle.run.specs.declared.RunEnd.{RunEnd}

-- ---- the inputs of two lists

-- the input at i, where both lists, and the first up to c, have one
pub given_at : (i c : ℕ) (steps what : List ℕ) → i < c → i < length steps → i < length what
    → drop i (given_of (take c steps) what)
    ≡ record { at = get_or steps i 0; input = input_of (get_or what i 0) } ∷ drop (suc i) (given_of (take c steps) what)
given_at i zero steps what h j l = absurd (let no : ⊥ = omega arith in no)
given_at i (suc c) [] what h j l = absurd (let no : ⊥ = omega arith in no)
given_at i (suc c) (a ∷ steps) [] h j l = absurd (let no : ⊥ = omega arith in no)
given_at zero (suc c) (a ∷ steps) (w ∷ what) h j l = refl
given_at (suc i) (suc c) (a ∷ steps) (w ∷ what) h j l =
    given_at i c steps what (omega arith) (omega arith) (omega arith)

-- and none where one of them has not
pub given_past : (i c : ℕ) (steps what : List ℕ) → (i < c → i < length steps → i < length what → ⊥)
    → drop i (given_of (take c steps) what) ≡ []
given_past zero zero steps what h = refl
given_past (suc i) zero steps what h = refl
given_past zero (suc c) [] what h = refl
given_past (suc i) (suc c) [] what h = refl
given_past zero (suc c) (a ∷ steps) [] h = refl
given_past (suc i) (suc c) (a ∷ steps) [] h = refl
given_past zero (suc c) (a ∷ steps) (w ∷ what) h =
    absurd (h (omega arith) (omega arith) (omega arith))
given_past (suc i) (suc c) (a ∷ steps) (w ∷ what) h =
    given_past i c steps what (λ p q r. h (omega arith) (omega arith) (omega arith))

one_less : (i : ℕ) (l : List ℕ) → drop 1 (drop i l) ≡ drop (suc i) l
one_less i l =
    let e : i + 1 ≡ suc i = omega arith in
    drop-drop 1 i l ∙ ap (λ (j : ℕ). drop j l) e

-- ---- where the run stands

-- the run with what was told before it
abbrev pub after : List ℕ → InputRun → InputRun
after ws r = record { run = r.run; told = ws ++ r.told }

-- what a run answers has 64 bits
abbrev Below : InputRun → Type 0
Below y = y.run.references < sum_range

input_sum_below : (n : ℕ) (gs : List Given) (k : ℕ) (s : State) (m t : List ℕ)
    → Below (input_run_from n gs k s m t)
input_sum_below n [] k s m t = run_sum_below true (n - k) k s m t
input_sum_below n (g ∷ gs) k s m t =
    let r = run_from true (g.at - k) k s m t in
    let c = input_call g.input r.state in
    let on = input_run_from n gs r.steps c.state r.memory r.tables in
    either Below (ltb n g.at) (run_sum_below true (n - k) k s m t)
    (either Below (is_spent r.reason) (mod-lt (r.references + on.run.references) (lit< tt))
    (run_sum_below true (g.at - k) k s m t))

-- a run of at most n steps from s with the inputs gs stands behind i inputs and k steps, with the references `sum`, at
-- the state z, with the memory m', the tables t' and the words u for what inputs are told, of which u₀ were before
pub record Stands (n : ℕ) (gs : List Given) (s : State) (m t u₀ : List ℕ) (i k sum : ℕ) (z : State)
    (m' t' u : List ℕ) : Type 0 where
  pub total :
      input_run_from n gs 0 s m t ≡ after (take i u) (counted_input_run sum (input_run_from n (drop i gs) k z m' t'))
  pub size : length u ≡ length u₀
  pub rest : drop i u ≡ drop i u₀

pub at_start : (n : ℕ) (gs : List Given) (s : State) (m t u : List ℕ) → Stands n gs s m t u 0 0 0 s m t u
at_start n gs s m t u = record {
  total =
      let r = input_run_from n gs 0 s m t in
      ap (λ (y : Run). record { run = y; told = r.told })
      (sym (counted_run_none r.run (input_sum_below n gs 0 s m t)));
  size = refl;
  rest = refl;
}

module _ {n : ℕ} {gs : List Given} {s : State} {m t u₀ : List ℕ} {i k sum : ℕ} {z : State} {m' t' u : List ℕ}
    (h : Stands n gs s m t u₀ i k sum z m' t' u) where
  -- the run that is left takes no input: it ends as r
  ends : (r : Run) → input_run_from n (drop i gs) k z m' t' ≡ alone r
      → record { run = counted_run sum r; told = take i u } ≡ input_run_from n gs 0 s m t
  ends r e =
      ap (λ (w : List ℕ). record { run = counted_run sum r; told = w }) (sym (append-nil (take i u)))
      ∙ ap (λ (y : InputRun). after (take i u) (counted_input_run sum y)) (sym e)
      ∙ sym h.total

  -- .. as r, which has the references before
  ends_as : (r q : Run) → q ≡ counted_run sum r → input_run_from n (drop i gs) k z m' t' ≡ alone r
      → record { run = q; told = take i u } ≡ input_run_from n gs 0 s m t
  ends_as r q x e = ap (λ (y : Run). record { run = y; told = take i u }) x ∙ ends r e

  -- no input is left
  pub ends_past : (r : Run) → drop i gs ≡ [] → r ≡ counted_run sum (run_from true (n - k) k z m' t')
      → record { run = r; told = take i u } ≡ input_run_from n gs 0 s m t
  ends_past r e q =
      ends_as (run_from true (n - k) k z m' t') r q (ap (λ (x : List Given). input_run_from n x k z m' t') e)

  module _ (g : Given) (rest : List Given) (e : drop i gs ≡ g ∷ rest) where
    -- the run to the next input's step
    abbrev there : Run
    there = run_from true (g.at - k) k z m' t'

    -- by whether that is beyond n
    tested : (x : Bool) → ltb n g.at ≡ x
        → input_run_from n (drop i gs) k z m' t'
        ≡ cond x (alone (run_from true (n - k) k z m' t')) (handed (input_run_from n rest) g.input there)
    tested x b =
        ap (λ (y : List Given). input_run_from n y k z m' t') e
        ∙ ap (λ (y : Bool). cond y (alone (run_from true (n - k) k z m' t'))
        (handed (input_run_from n rest) g.input there)) b

    -- it is
    pub ends_beyond : (r : Run) → n < g.at → r ≡ counted_run sum (run_from true (n - k) k z m' t')
        → record { run = r; told = take i u } ≡ input_run_from n gs 0 s m t
    ends_beyond r b q = ends_as (run_from true (n - k) k z m' t') r q (tested true (lt-ltb n g.at b))

    module _ (b : g.at ≤ n) where
      -- it is not, and the run ended before it
      pub ends_before : (r : Run) → r ≡ counted_run sum there → is_spent r.reason ≡ false
          → record { run = r; told = take i u } ≡ input_run_from n gs 0 s m t
      ends_before r q x =
          let c = input_call g.input there.state in
          let on = input_run_from n rest there.steps c.state there.memory there.tables in
          ends_as there r q
          (tested false (le-ltb n g.at b)
          ∙ ap (λ (y : Bool). cond y (telling c.told (counted_input_run there.references on)) (alone there))
          (ap (λ (y : Run). is_spent y.reason) (sym q) ∙ x))

      -- behind the input, with the inputs left
      abbrev on : InputCall → List Given → InputRun
      on d left =
          telling d.told
          (counted_input_run there.references
          (input_run_from n left there.steps d.state there.memory there.tables))

      -- or is spent there, and the input is handed in
      handed_on : is_spent there.reason ≡ true → (c : InputCall) → input_call g.input there.state ≡ c
          → rest ≡ drop (suc i) gs → i < length u
          → Stands n gs s m t u₀ (suc i) there.steps ((sum + there.references) % sum_range) c.state
          there.memory there.tables (set u i c.told)
      handed_on x c f o l = record {
        total =
            h.total
            ∙ ap (λ (y : InputRun). after (take i u) (counted_input_run sum y))
            (tested false (le-ltb n g.at b)
            ∙ ap (λ (y : Bool). cond y (on (input_call g.input there.state) rest) (alone there)) x
            ∙ ap (λ (d : InputCall). on d rest) f
            ∙ ap (on c) o)
            ∙ told_on (input_run_from n (drop (suc i) gs) there.steps c.state there.memory there.tables);
        size = length-set u i c.told ∙ h.size;
        rest =
            drop-set-lt (suc i) u i c.told (omega arith)
            ∙ sym (one_less i u) ∙ ap (drop 1) h.rest ∙ one_less i u₀;
      }
        where
          sums : (y : Run) → counted_run sum (counted_run there.references y)
              ≡ counted_run ((sum + there.references) % sum_range) y
          sums y =
              counted_run_twice sum there.references y ∙ sym (counted_run_low (sum + there.references) y)

          told_on : (y : InputRun)
              → after (take i u) (counted_input_run sum (telling c.told (counted_input_run there.references y)))
              ≡ after (take (suc i) (set u i c.told)) (counted_input_run ((sum + there.references) % sum_range) y)
          told_on y =
              λ j. record {
                run = sums y.run j;
                told = (sym (append_snoc (take i u) c.told y.told)
                    ∙ ap (λ (ws : List ℕ). ws ++ y.told) (sym (take-suc-set u i c.told l))) j;
              }

      -- with the words for what inputs are told, and their number, as the loop has them
      pub goes_on_law : (r : Run) → r ≡ counted_run sum there → is_spent r.reason ≡ true → (c : InputCall)
          → input_call g.input r.state ≡ c → rest ≡ drop (suc i) gs → i < length u → (u' : List ℕ)
          → u' ≡ set u i c.told
          → Stands n gs s m t u₀ (i + 1) r.steps r.references c.state r.memory r.tables u'
      goes_on_law r q x c f o l u' v =
          let one : suc i ≡ i + 1 = omega arith in
          subst
          (λ (y : Run). Stands n gs s m t u₀ (i + 1) y.steps y.references c.state y.memory y.tables u')
          (sym q)
          (subst
          (λ (j : ℕ). Stands n gs s m t u₀ j there.steps ((sum + there.references) % sum_range) c.state
          there.memory there.tables u') one
          (subst
          (Stands n gs s m t u₀ (suc i) there.steps ((sum + there.references) % sum_range) c.state
          there.memory there.tables)
          (sym v)
          (handed_on (ap (λ (y : Run). is_spent y.reason) (sym q) ∙ x) c
          (ap (λ (y : Run). input_call g.input y.state) (sym q) ∙ f) o l)))

-- ---- what the loop answers

abbrev pub ended_run : RunEnd → List ℕ → List ℕ → List ℕ → List ℕ → Run
ended_run r regs pcrs m t =
    ran_with r.references r.reason r.steps (state_with r.level r.control regs pcrs) m t
