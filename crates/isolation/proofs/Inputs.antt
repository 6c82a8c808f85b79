-- A run with device input, from two memories.
-- Assumes nothing.
use Prim.Native.Nat.{ℕ, ◌-◌, ◌≤◌}
use mathlib.Core.Path.{◌≡◌, refl, subst, ◌∙◌}
use mathlib.Core.Bool.{Bool, true, false, cond}
use mathlib.Core.List.{List, [], ◌∷◌}
use lib.Dec.{ltb}
use Rattle.isa.specs.Machine.{with_bit, control_of, core_of, with_control_words}
use Rattle.isa.specs.System.{with_pid}
use Rattle.isa.specs.InputOutput.{ticked, typed, read_out}
use Rattle.isa.specs.Run.{Run, counted_run, run_from}
use Rattle.isa.specs.Answers.{device_level, raise_call_by, is_unread, type_call_by, waits}
use Rattle.isa.specs.DeviceInput.{Given, InputRun, input_call, alone, telling, is_spent, counted_input_run}
use Rattle.isa.specs.DeviceInput.{handed, input_run_from}
use Rattle.isa.specs.declared.machine.Control.{Control}
use Rattle.isa.specs.declared.machine.State.{State}
use Rattle.isa.specs.declared.device.DeviceInput.{DeviceInput}
use Rattle.isa.specs.declared.device.DeviceInput.TheVariants.{Raise, Tick, Typed, ReadOut}
use Rattle.isa.specs.declared.answer.Reason.{Reason}
use Rattle.isa.specs.declared.answer.Refusal.TheVariants.{RaiseLevel, Unread}
use Rattle.isolation.proofs.Accesses.{Held}
use Rattle.isolation.proofs.Runs.{EvenRun, EvenRest, counted_run_law, later, run_even}
use Rattle.std.specs.declared.result.Result.TheVariants.{Ok, Err}

module _ (form : Bool) (t₀ : List ℕ) (a b ρ : ℕ) where
  -- other control words with the same switches for paging and extended mode confine the level as before
  words_held : (s : State) (k : Control) → k.paging ≡ s.control.paging → k.extended ≡ s.added.extended
      → Held form t₀ a b ρ (core_of s)
      → Held form t₀ a b ρ (core_of (with_control_words s k))
  words_held s k p x h = record {
    paging_on = p ∙ h.paging_on;
    entries = rw x h.entries;
    ring_low = h.ring_low;
    normal = h.normal;
    alternate = h.alternate;
  }

  -- no input, refused or not, changes what confines the level
  input_held : (i : DeviceInput) (s : State) → Held form t₀ a b ρ (core_of s)
      → Held form t₀ a b ρ (core_of (input_call i s).state)
  input_held (Raise l) s h = go (device_level l)
    where
      go : (x : Bool) → Held form t₀ a b ρ (core_of (raise_call_by (cond x (Ok tt) (Err RaiseLevel)) s l).state)
      go true = words_held s (with_pid (control_of s) (with_bit l 1 s.control.pid)) refl refl h
      go false = h
  input_held Tick s h = words_held s (ticked (control_of s)) refl refl h
  input_held (Typed w) s h = go (is_unread s)
    where
      go : (x : Bool) → Held form t₀ a b ρ (core_of (type_call_by (cond x (Err Unread) (Ok tt)) s w).state)
      go true = h
      go false = words_held s (typed (control_of s) w) refl refl h
  input_held ReadOut s h = go (waits s)
    where
      go : (x : Bool) → Held form t₀ a b ρ (core_of (cond x (with_control_words s (read_out (control_of s))) s))
      go true = words_held s (read_out (control_of s)) refl refl h
      go false = h

  -- what a run with device input leaves
  pub record EvenInputRun (m n : List ℕ) (r q : InputRun) : Type 0 where
    pub run : EvenRun form t₀ a b ρ m n r.run q.run
    pub told : r.told ≡ q.told

  -- two runs up to an input's step: both are spent there and take it, or both have ended
  handed_even : (f : ℕ → State → List ℕ → List ℕ → InputRun) → EvenRest form t₀ a b ρ EvenInputRun f
      → (i : DeviceInput) (m n : List ℕ) (r q : Run) → EvenRun form t₀ a b ρ m n r q
      → EvenInputRun m n (handed f i r) (handed f i q)
  handed_even f hf i m n r q e =
      subst (λ (w : Reason). EvenInputRun m n (handed f i r) (right (is_spent w))) e.reason (go (is_spent r.reason))
    where
      -- what follows the input in each run
      on : InputRun
      on = f r.steps (input_call i r.state).state r.memory r.tables

      other : InputRun
      other = f q.steps (input_call i q.state).state q.memory q.tables

      rest : EvenInputRun r.memory q.memory on other
      rest =
          rw (← e.state, ← e.steps, ← e.tables)
          (hf r.steps (input_call i r.state).state r.memory q.memory r.tables
          (input_held i r.state e.held) e.memories.agree e.marks)

      -- each run, by whether it is spent
      left : Bool → InputRun
      left x = cond x (telling (input_call i r.state).told (counted_input_run r.references on)) (alone r)

      right : Bool → InputRun
      right x = cond x (telling (input_call i q.state).told (counted_input_run q.references other)) (alone q)

      go : (x : Bool) → EvenInputRun m n (left x) (right x)
      go true = record {
        run =
            later form t₀ a b ρ m n r.memory q.memory (counted_run r.references on.run)
            (counted_run q.references other.run) e.memories
            (counted_run_law form t₀ a b ρ e.references rest.run);
        told = rw (rest.told, e.state);
      }
      go false = record { run = e; told = refl }

  pub input_run_even : ρ ≤ 1 → (c : ℕ) (gs : List Given) → EvenRest form t₀ a b ρ EvenInputRun (input_run_from c gs)
  input_run_even low c [] k s m n t hs h hm =
      record { run = run_even form t₀ a b ρ low (c - k) k s m n t hs h hm; told = refl }
  input_run_even low c (g ∷ gs) k s m n t hs h hm = go (ltb c g.at) (input_run_even low c gs)
    where
      go : (x : Bool) → EvenRest form t₀ a b ρ EvenInputRun (input_run_from c gs)
          → EvenInputRun m n (cond x (alone (run_from true (c - k) k s m t))
          (handed (input_run_from c gs) g.input (run_from true (g.at - k) k s m t)))
          (cond x (alone (run_from true (c - k) k s n t))
          (handed (input_run_from c gs) g.input (run_from true (g.at - k) k s n t)))
      go true rest = record { run = run_even form t₀ a b ρ low (c - k) k s m n t hs h hm; told = refl }
      go false rest =
          handed_even (input_run_from c gs) rest g.input m n (run_from true (g.at - k) k s m t)
          (run_from true (g.at - k) k s n t) (run_even form t₀ a b ρ low (g.at - k) k s m n t hs h hm)
