-- Numbers of references: added up through stages, steps and runs.
-- Assumes nothing.
use Rattle.std.proofs.Common.{◌≡◌, ℕ, zero, suc, ◌+◌, ◌%◌, ◌<◌, ◌≤◌, Bool, cond, not, ◌&&◌, eqb, List, [], ◌∷◌, length, sym, ap, ◌∙◌, add_assoc, mod-lt, mod-eq_of_lt, zero-add, arith, lit<}
use native.Mathlib.Nat.{mod-add-mod, add-mod-mod}
use Rattle.std.specs.declared.result.Result.{Result}
use Rattle.std.specs.declared.result.Result.TheVariants.{Ok, Err}
use Rattle.isa.specs.Pages.{Tested, tested_first, translate, marked, test_all}
use Rattle.isa.specs.Step.{Part, Turn, counted, counted_turn, step, is_stopped, change_due}
use Rattle.isa.specs.Run.{Run, ended, sum_range, counted_run, run_from}
use Rattle.isa.specs.declared.machine.State.{State}
use Rattle.isa.specs.declared.access.Access.{Access}
use Rattle.isa.specs.declared.access.Rights.{Rights}
use Rattle.isa.specs.declared.access.Place.{Place}
use Rattle.isa.specs.declared.access.Fault.{Fault}
use Rattle.isa.specs.declared.answer.Reason.TheVariants.{Interrupt}
use Rattle.isa.proofs.Tests.{either}

-- ---- accesses

-- no more are made than there are
pub first_most : (t : List ℕ) (y : Result Place Fault) (q : Tested) (n : ℕ) → q.made ≤ n
    → (tested_first t y q).made ≤ suc n
first_most t (Ok p) q n h = omega (arith, h)
first_most t (Err f) q n h = omega arith

pub made_most : (t : List ℕ) (words : ℕ) (r : Rights) (xs : List Access) → (test_all t words r xs).made ≤ length xs
made_most t words r [] = omega arith
made_most t words r (x ∷ xs) = first_most t (translate t words r x) _ _ (made_most (marked t words r x) words r xs)

-- ---- stages and steps

-- the part p with the number n of references in place of its own
abbrev numbered : Part → ℕ → Part
numbered p n = record {
  near = record { core = p.near.core; gave = p.near.gave; far = p.near.far; references = n };
  memory = p.memory;
  tables = p.tables;
}

pub counted_twice : (a b : ℕ) (p : Part) → counted a (counted b p) ≡ counted (a + b) p
counted_twice a b p = ap (numbered p) (sym (add_assoc a b p.near.references))

pub counted_none : (p : Part) → counted 0 p ≡ p
counted_none p = ap (numbered p) (zero-add p.near.references)

abbrev numbered_turn : Turn → ℕ → Turn
numbered_turn r n =
    record { state = r.state; gave = r.gave; memory = r.memory; tables = r.tables; references = n }

pub counted_turn_twice : (a b : ℕ) (r : Turn) → counted_turn a (counted_turn b r) ≡ counted_turn (a + b) r
counted_turn_twice a b r = ap (numbered_turn r) (sym (add_assoc a b r.references))

pub counted_turn_none : (r : Turn) → counted_turn 0 r ≡ r
counted_turn_none r = ap (numbered_turn r) (zero-add r.references)

-- ---- runs

abbrev numbered_run : Run → ℕ → Run
numbered_run r n = record {
  state = r.state;
  steps = r.steps;
  reason = r.reason;
  memory = r.memory;
  tables = r.tables;
  references = n;
}

pub counted_run_twice : (a b : ℕ) (r : Run) → counted_run a (counted_run b r) ≡ counted_run (a + b) r
counted_run_twice a b r =
    ap (numbered_run r)
    (add-mod-mod a (b + r.references) sum_range
    ∙ ap (λ (n : ℕ). n % sum_range) (sym (add_assoc a b r.references)))

-- of the number before a run, its low 64 bits alone count
pub counted_run_low : (a : ℕ) (r : Run) → counted_run (a % sum_range) r ≡ counted_run a r
counted_run_low a r = ap (numbered_run r) (mod-add-mod a sum_range r.references)

pub counted_run_none : (r : Run) → r.references < sum_range → counted_run 0 r ≡ r
counted_run_none r h =
    ap (numbered_run r) (ap (λ (n : ℕ). n % sum_range) (zero-add r.references) ∙ mod-eq_of_lt h)

-- what a run answers has 64 bits
pub run_sum_below : (first : Bool) (n k : ℕ) (s : State) (m t : List ℕ)
    → (run_from first n k s m t).references < sum_range
run_sum_below first n k s m t = by_steps n
  where
    Below : Run → Type 0
    Below r = r.references < sum_range

    by_steps : (n : ℕ) → Below (run_from first n k s m t)
    by_steps zero =
        either Below (is_stopped s) (lit< tt) (either Below (first && change_due s) (lit< tt) (lit< tt))
    by_steps (suc n) =
        let r = step s m t in
        let q =
        cond (first && not (eqb r.gave 0)) (ended Interrupt (suc k) r.state r.memory r.tables)
        (run_from first n (suc k) r.state r.memory r.tables) in
        either Below (is_stopped s) (lit< tt)
        (either Below (first && change_due s) (lit< tt) (mod-lt (r.references + q.references) (lit< tt)))
