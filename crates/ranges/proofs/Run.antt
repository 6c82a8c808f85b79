-- A step and a run keep a machine sound, and memory and tables their sizes.
-- Assumes nothing.
use Prim.Native.Nat.{ℕ, zero, suc}
use mathlib.Core.Path.{refl}
use mathlib.Core.Bool.{Bool, not, ◌&&◌}
use mathlib.Core.List.{List}
use native.Mathlib.Omega.{arith}
use lib.ListN.{length, replicate}
use lib.Dec.{eqb}
use Rattle.isa.specs.Machine.{register_words, control_count, table_words, Words, state_of, in_range}
use Rattle.isa.specs.Devices.{device_count}
use Rattle.isa.specs.Step.{Turn, step, is_stopped, change_due}
use Rattle.isa.specs.Run.{Run, run_from}
use Rattle.isa.specs.declared.machine.State.{State}
use Rattle.ranges.specs.Sound.{Sound, Sized}
use Rattle.isa.proofs.Tests.{either}
use Rattle.ranges.proofs.Places.{nil_words, cons_words}
use Rattle.ranges.proofs.States.{state_fits, state_typed, state_range}
use Rattle.ranges.proofs.Step.{step_fits}
use Rattle.ranges.proofs.Sizes.{step_sized}

-- ---- a machine that is sound

-- zeros are words
zeros_words : (n : ℕ) → Words (replicate n 0)
zeros_words zero = nil_words
zeros_words (suc n) = cons_words 0 (replicate n 0) (omega arith) (zeros_words n)

-- a cleared machine with memory of any size is sound, so the laws below speak of some machines
pub cleared_sound : (n : ℕ)
    → Sound (state_of (replicate register_words 0) (replicate control_count 0) (replicate device_count 0))
    (replicate n 0)
    (replicate table_words 0)
unfolding in_range
cleared_sound n = record {
  typed = record {
    regs_length = refl;
    pcr_length = refl;
    regs_words = zeros_words register_words;
    control_words_law = zeros_words control_count;
    device_words_law = zeros_words device_count;
  };
  range = refl;
  memory = zeros_words n;
  tables = zeros_words table_words;
  size = refl;
}

-- ---- one step

-- a step keeps a machine sound, for every word, whatever memory and tables hold
pub step_sound : (s : State) (m t : List ℕ) → Sound s m t
    → Sound (step s m t).state (step s m t).memory (step s m t).tables
step_sound s m t h =
    let r = step_fits (state_fits s h.typed h.range) m t (record { memory = h.memory; tables = h.tables }) in
    record {
      typed = state_typed (step s m t).state r.state;
      range = state_range (step s m t).state r.state;
      memory = r.lent.memory;
      tables = r.lent.tables;
      size = (step_sized (length m) table_words s m t (record { memory = refl; tables = h.size })).tables;
    }

-- a step keeps the sizes of memory and tables, in every state
pub step_size : (s : State) (m t : List ℕ) → Sized (length m) (length t) (step s m t).memory (step s m t).tables
step_size s m t = step_sized (length m) (length t) s m t (record { memory = refl; tables = refl })

-- ---- a run, of either form

-- what each step keeps, a run keeps
module _ (K : State → List ℕ → List ℕ → Type 0)
    (one : (s : State) (m t : List ℕ) → K s m t → K (step s m t).state (step s m t).memory (step s m t).tables) where
  -- .. where it ends
  abbrev pub RunKeeps : Run → Type 0
  RunKeeps r = K r.state r.memory r.tables

  -- .. after any number of steps
  pub run_keeps : (first : Bool) (n k : ℕ) (s : State) (m t : List ℕ) → K s m t → RunKeeps (run_from first n k s m t)
  run_keeps first zero k s m t h = either RunKeeps (is_stopped s) h (either RunKeeps (first && change_due s) h h)
  run_keeps first (suc n) k s m t h =
      let r : Turn = step s m t in
      let q : K r.state r.memory r.tables = one s m t h in
      either RunKeeps (is_stopped s) h
      (either RunKeeps (first && change_due s) h
      (either RunKeeps (first && not (eqb r.gave 0)) q
      (run_keeps first n (suc k) r.state r.memory r.tables q)))

-- a run keeps a machine sound
pub run_sound : (first : Bool) (n k : ℕ) (s : State) (m t : List ℕ) → Sound s m t
    → Sound (run_from first n k s m t).state (run_from first n k s m t).memory (run_from first n k s m t).tables
run_sound = run_keeps Sound step_sound

-- a run keeps the sizes of memory and tables, from every state
pub run_size : (first : Bool) (n k : ℕ) (s : State) (m t : List ℕ)
    → Sized (length m) (length t) (run_from first n k s m t).memory (run_from first n k s m t).tables
run_size first n k s m t =
    let j : ℕ = length m in
    let i : ℕ = length t in
    run_keeps (λ (x : State). Sized j i) (step_sized j i) first n k s m t (record { memory = refl; tables = refl })
