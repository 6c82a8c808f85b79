-- What is handed in between steps keeps a machine sound; so does a run with device input, which keeps the sizes too.
-- Assumes nothing.
use Prim.Native.Nat.{ℕ, ◌+◌, ◌-◌, ◌<◌}
use mathlib.Core.Path.{refl}
use mathlib.Core.Bool.{true, ◌&&◌}
use mathlib.Core.List.{List, [], ◌∷◌}
use native.Mathlib.Omega.{arith}
use lib.ListN.{length}
use lib.Dec.{ltb, leb, eqb}
use borrow.Author.Tests.{ltb-true}
use Rattle.isa.specs.Machine.{control_of, with_control_words}
use Rattle.isa.specs.Devices.{character_range}
use Rattle.isa.specs.InputOutput.{ticked, typed, read_out}
use Rattle.isa.specs.Step.{step}
use Rattle.isa.specs.Run.{Run, run_from}
use Rattle.isa.specs.Answers.{StateCall, ReadOutCall, device_level, level_answer, raise_call_by, raise_call}
use Rattle.isa.specs.Answers.{state_answer, tick_call_by, tick_call, is_unread, unread_answer, type_call_by, type_call, waits}
use Rattle.isa.specs.Answers.{read_out_call_by, read_out_call}
use Rattle.isa.specs.DeviceInput.{Given, input_call, InputRun, is_spent, handed, input_run_from, tick_word, read_out_word}
use Rattle.isa.specs.DeviceInput.{typed_word, input_of, given_of}
use Rattle.isa.specs.declared.machine.Control.{Control}
use Rattle.isa.specs.declared.machine.State.{State}
use Rattle.isa.specs.declared.device.DeviceInput.{DeviceInput}
use Rattle.isa.specs.declared.device.DeviceInput.TheVariants.{Raise, Tick, Typed as TypedCharacter, ReadOut}
use Rattle.isa.specs.declared.answer.Refusal.TheVariants.{RaiseLevel, Unread}
use Rattle.ranges.specs.Sound.{Sound, Sized, CharacterFits, EachInput}
use Rattle.isa.proofs.Tests.{either, decided, and_right}
use Rattle.isa.proofs.Bits.{bit_below}
use Rattle.isa.proofs.Devices.{device_level_law}
use Rattle.ranges.proofs.Control.{ControlFits, pid_fits}
use Rattle.ranges.proofs.InputOutput.{ticked_fits, typed_fits, read_out_fits}
use Rattle.ranges.proofs.States.{words_fit, state_fits, state_typed, state_range}
use Rattle.ranges.proofs.Sizes.{step_sized}
use Rattle.ranges.proofs.Run.{RunKeeps, run_keeps, step_sound}
use Rattle.std.specs.declared.result.Result.TheVariants.{Ok, Err}
use Rattle.isa.specs.Answers.{Answer}

-- ---- raise, tick, a typed character, read out

-- other control words and devices, in range
words_sound : (s : State) (m t : List ℕ) → Sound s m t → (k : Control) → (ControlFits (control_of s) → ControlFits k)
    → Sound (with_control_words s k) m t
words_sound s m t h k q =
    let f = state_fits s h.typed h.range in
    let g = words_fit f (q f.control) in
    record {
      typed = state_typed (with_control_words s k) g;
      range = state_range (with_control_words s k) g;
      memory = h.memory;
      tables = h.tables;
      size = h.size;
    }

module _ (s : State) (m t : List ℕ) (h : Sound s m t) where
  abbrev CallSound : StateCall → Type 0
  CallSound r = Sound r.state m t

  abbrev SentSound : ReadOutCall → Type 0
  SentSound r = Sound r.state m t

  -- each by what its tests answer; a refusal changes nothing
  raise_by_sound : (l : ℕ) (a : Answer) → CallSound (raise_call_by (level_answer l a) s l)
  raise_by_sound l (Ok _) =
      decided (λ (a : Answer). CallSound (raise_call_by a s l)) (device_level l) {x = Ok tt} {y = Err RaiseLevel}
      (λ e. words_sound s m t h _
      (λ q. pid_fits q (bit_below 16 l 1 s.control.pid (device_level_law l e) (omega arith) q.pid)))
      (λ e. h)
  raise_by_sound l (Err r) = h

  tick_by_sound : (a : Answer) → CallSound (tick_call_by a s)
  tick_by_sound (Ok _) = words_sound s m t h (ticked (control_of s)) (λ q. ticked_fits q)
  tick_by_sound (Err r) = h

  type_by_sound : (w : ℕ) → w < character_range → (a : Answer) → CallSound (type_call_by (unread_answer s a) s w)
  type_by_sound w k (Ok _) =
      either (λ (a : Answer). CallSound (type_call_by a s w)) (is_unread s) {x = Err Unread} {y = Ok tt}
      h (words_sound s m t h (typed (control_of s) w) (λ q. typed_fits q k))
  type_by_sound w k (Err r) = h

  read_out_by_sound : (a : Answer) → SentSound (read_out_call_by a s)
  read_out_by_sound (Ok _) =
      either (λ (x : State). Sound x m t) (waits s)
      (words_sound s m t h (read_out (control_of s)) (λ q. read_out_fits q)) h
  read_out_by_sound (Err r) = h

  -- the operations
  pub raise_sound : (l : ℕ) → CallSound (raise_call s l m t)
  unfolding raise_call
  raise_sound l = raise_by_sound l (state_answer s m t)

  pub tick_sound : CallSound (tick_call s m t)
  unfolding tick_call
  tick_sound = tick_by_sound (state_answer s m t)

  pub type_sound : (w : ℕ) → w < character_range → CallSound (type_call s w m t)
  unfolding type_call
  type_sound w k = type_by_sound w k (state_answer s m t)

  pub read_out_sound : SentSound (read_out_call s m t)
  unfolding read_out_call
  read_out_sound = read_out_by_sound (state_answer s m t)

-- an input within a run
pub input_sound : (i : DeviceInput) → CharacterFits i → (s : State) (m t : List ℕ) → Sound s m t
    → Sound (input_call i s).state m t
input_sound (Raise l) k s m t h = raise_by_sound s m t h l (Ok tt)
input_sound Tick k s m t h = tick_by_sound s m t h (Ok tt)
input_sound (TypedCharacter w) k s m t h = type_by_sound s m t h w k (Ok tt)
input_sound ReadOut k s m t h = read_out_by_sound s m t h (Ok tt)

-- ---- inputs as words

pub input_of_fits : (w : ℕ) → CharacterFits (input_of w)
unfolding input_of
input_of_fits w =
    either CharacterFits (eqb w tick_word) {x = Tick} tt
    (either CharacterFits (eqb w read_out_word) {x = ReadOut} tt
    (decided CharacterFits (leb typed_word w && ltb w (typed_word + character_range)) {y = Raise w}
    (λ e.
    let below = ltb-true w (typed_word + character_range) (and_right (leb typed_word w) _ e) in
    omega (arith, below))
    (λ e. tt)))

pub given_fits : (steps ws : List ℕ) → EachInput CharacterFits (given_of steps ws)
given_fits [] ws = tt
given_fits (a ∷ steps) [] = tt
given_fits (a ∷ steps) (w ∷ ws) = (input_of_fits w, given_fits steps ws)

-- ---- a run with device input

-- what each step and each input keeps, a run with these inputs keeps
module _ (K : State → List ℕ → List ℕ → Type 0)
    (one : (s : State) (m t : List ℕ) → K s m t → K (step s m t).state (step s m t).memory (step s m t).tables)
    (Q : DeviceInput → Type 0)
    (input : (i : DeviceInput) → Q i → (s : State) (m t : List ℕ) → K s m t → K (input_call i s).state m t) where
  -- .. where it ends
  abbrev InputRunKeeps : InputRun → Type 0
  InputRunKeeps r = RunKeeps K one r.run

  -- .. at the step of an input
  handed_keeps : (rest : ℕ → State → List ℕ → List ℕ → InputRun)
      → ((k : ℕ) (s : State) (m t : List ℕ) → K s m t → InputRunKeeps (rest k s m t))
      → (i : DeviceInput) → Q i → (r : Run) → RunKeeps K one r → InputRunKeeps (handed rest i r)
  handed_keeps rest go i q r h =
      either InputRunKeeps (is_spent r.reason)
      (go r.steps (input_call i r.state).state r.memory r.tables
      (input i q r.state r.memory r.tables h)) h

  -- .. after any number of steps and inputs
  input_run_keeps : (n : ℕ) (gs : List Given) → EachInput Q gs → (k : ℕ) (s : State) (m t : List ℕ) → K s m t
      → InputRunKeeps (input_run_from n gs k s m t)
  input_run_keeps n [] q k s m t h = run_keeps K one true (n - k) k s m t h
  input_run_keeps n (g ∷ gs) q k s m t h =
      either InputRunKeeps (ltb n g.at) (run_keeps K one true (n - k) k s m t h)
      (handed_keeps (input_run_from n gs) (input_run_keeps n gs q.1) g.input q.0
      (run_from true (g.at - k) k s m t) (run_keeps K one true (g.at - k) k s m t h))

-- a run with device input keeps a machine sound
pub input_run_sound : (n : ℕ) (gs : List Given) → EachInput CharacterFits gs
    → (k : ℕ) (s : State) (m t : List ℕ) → Sound s m t
    → Sound (input_run_from n gs k s m t).run.state (input_run_from n gs k s m t).run.memory
    (input_run_from n gs k s m t).run.tables
input_run_sound = input_run_keeps Sound step_sound CharacterFits input_sound

-- .. and the sizes of memory and tables, from every state, with every input
any_input : (gs : List Given) → EachInput (λ i. Unit) gs
any_input [] = tt
any_input (g ∷ gs) = (tt, any_input gs)

pub input_run_size : (n : ℕ) (gs : List Given) (k : ℕ) (s : State) (m t : List ℕ)
    → Sized (length m) (length t) (input_run_from n gs k s m t).run.memory (input_run_from n gs k s m t).run.tables
input_run_size n gs k s m t =
    let j : ℕ = length m in
    let i : ℕ = length t in
    input_run_keeps (λ (x : State). Sized j i) (step_sized j i) (λ x. Unit) (λ x u y a b h. h) n gs (any_input gs)
    k s m t (record { memory = refl; tables = refl })
