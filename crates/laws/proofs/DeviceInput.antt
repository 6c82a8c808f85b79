-- An input within a run, a run with no input, and a run taken in two parts.
-- Assumes nothing.
use Prim.Native.Nat.{ℕ, ◌-◌}
use mathlib.Core.Path.{◌≡◌, refl, ap}
use mathlib.Core.Bool.{true}
use mathlib.Core.List.{List, []}
use native.Mathlib.Omega.{arith}
use lib.ListN.{length}
use Rattle.isa.specs.Machine.{sizes_fit}
use Rattle.isa.specs.Run.{Run, run_from}
use Rattle.isa.specs.Answers.{state_answer, raise_call, tick_call, type_call, read_out_call, run_call_by, run_call}
use Rattle.isa.specs.DeviceInput.{alone, input_ran_call, input_run_call_by, input_run_call}
use Rattle.isa.proofs.Runs.{run_sum}
use Rattle.ranges.proofs.Run.{run_sound, run_size}
use Rattle.laws.specs.Statement.{InputAsOperation, InputWithinRun, NoInputRun, RunInTwo}
use Rattle.std.specs.declared.result.Result.TheVariants.{Ok, Err}
use Rattle.isa.specs.Answers.{Answer}

-- no test refuses
pub input_as_operation : InputAsOperation
unfolding raise_call tick_call type_call read_out_call state_answer
input_as_operation s m t sizes range = record {
  raise = λ l. rw (sizes, range);
  tick = rw (sizes, range);
  typed = λ w. rw (sizes, range);
  read_out = rw (sizes, range);
}

-- a run keeps the machine sound, and the sizes
same_sizes : (m t n u : List ℕ) → length n ≡ length m → length u ≡ length t → sizes_fit m t ≡ true
    → sizes_fit n u ≡ true
unfolding sizes_fit
same_sizes m t n u a b h = rw (a, b) h

pub input_within_run : InputWithinRun
input_within_run n k s m t h sizes =
    let r : Run = run_from true n k s m t in
    let z = run_size true n k s m t in
    input_as_operation r.state r.memory r.tables
    (same_sizes m t r.memory r.tables z.memory z.tables sizes) (run_sound true n k s m t h).range

pub no_input_run : NoInputRun
unfolding input_run_call run_call
no_input_run n s m t = go (state_answer s m t)
  where
    whole : n - 0 ≡ n
    whole = omega arith

    go : (a : Answer) → input_run_call_by a n [] s m t
        ≡ (let r = run_call_by a true n s m t in
        record { answer = r.answer; told = []; state = r.state; memory = r.memory; tables = r.tables })
    go (Ok _) = ap (λ (j : ℕ). input_ran_call (alone (run_from true j 0 s m t))) whole
    go (Err x) = refl

pub run_in_two : RunInTwo
run_in_two = run_sum
