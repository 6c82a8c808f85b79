-- Document 02, card 1: "gives them the same raises, ticks and typed characters and has sent ones read out at the same
-- steps in the same order (all this is the device input)": run to the first interrupt with device input (ruling 39).
use Rattle.std.specs.Prelude.{ℕ, ◌+◌, ◌-◌, Bool, true, false, cond, ◌&&◌, List, [], ◌∷◌, ◌==◌, nat_le, nat_lt}
use Rattle.isa.specs.Devices.{character_range}
use Rattle.isa.specs.Run.{Run, counted_run, run_from}
use Rattle.isa.specs.Answers.{StateCall, answer_number, reason_number, character_sent_of, state_answer, state_tests}
use Rattle.isa.specs.Answers.{level_answer, raise_call_by, tick_call_by, unread_answer, type_call_by, read_out_call_by}
use Rattle.isa.specs.Answers.{Told, tells_by}
use Rattle.isa.specs.declared.machine.State.{State}
use Rattle.isa.specs.declared.device.DeviceInput.{DeviceInput}
use Rattle.isa.specs.declared.device.DeviceInput.TheVariants.{Raise, Tick, Typed, ReadOut}
use Rattle.isa.specs.declared.answer.Reason.{Reason}
use Rattle.isa.specs.declared.answer.Reason.TheVariants.{Stopped, Level, Spent, Interrupt}
use Rattle.std.specs.declared.result.Result.TheVariants.{Ok, Err}
use Rattle.isa.specs.Answers.{Answer, RunAnswer}

-- an input, and the number of steps after which it is handed in
pub record Given : Type 0 where
  pub at : ℕ
  pub input : DeviceInput

-- ---- an input

-- what it is answered, as a word, and the state after it
pub record InputCall : Type 0 where
  pub told : ℕ
  pub state : State

abbrev pub input_done : StateCall → InputCall
input_done r = record { told = answer_number r.answer; state = r.state }

-- Each input is the operation of that name. The start was tested, and its sizes and ranges hold after every step and
-- input (crates/ranges), so that 1 and 2 do not come up: the test that they stand for is passed, `Ok tt`. A refused
-- input changes nothing. Told is 0 or the refusal; of a read out the character, or 256 for none.
abbrev pub input_call : DeviceInput → State → InputCall
input_call (Raise l) s = input_done (raise_call_by (level_answer l (Ok tt)) s l)
input_call Tick s = input_done (tick_call_by (Ok tt) s)
input_call (Typed w) s = input_done (type_call_by (unread_answer s (Ok tt)) s w)
input_call ReadOut s =
    let r = read_out_call_by (Ok tt) s in record { told = character_sent_of r.answer; state = r.state }

-- ---- the run

-- the run, and what the inputs handed in were told, in their order
pub record InputRun : Type 0 where
  pub run : Run
  pub told : List ℕ

-- a run that takes no further input
abbrev pub alone : Run → InputRun
alone r = record { run = r; told = [] }

abbrev pub telling : ℕ → InputRun → InputRun
telling w r = record { run = r.run; told = w ∷ r.told }

abbrev pub is_spent : Reason → Bool
is_spent Stopped = false
is_spent Level = false
is_spent Spent = true
is_spent Interrupt = false

-- .. with g references before it
abbrev pub counted_input_run : ℕ → InputRun → InputRun
counted_input_run g r = record { run = counted_run g r.run; told = r.told }

-- "if spent there takes the input", and the rest follows; "a run that has ended takes no further input"
abbrev pub handed : (ℕ → State → List ℕ → List ℕ → InputRun) → DeviceInput → Run → InputRun
handed rest i r =
    let c = input_call i r.state in
    let on = counted_input_run r.references (rest r.steps c.state r.memory r.tables) in
    cond (is_spent r.reason) (telling c.told on) (alone r)

-- "A run goes to the next input's step (at once if that is passed), tests stopped and level as ever"; "or, if that is
-- beyond n, to n without this input or any behind it". At most n steps in all, k of them taken; where the input's step
-- is passed, `g.at - k` is 0.
abbrev pub input_run_from : ℕ → List Given → ℕ → State → List ℕ → List ℕ → InputRun
input_run_from n [] k s m t = alone (run_from true (n - k) k s m t)
input_run_from n (g ∷ gs) k s m t =
    cond (nat_lt n g.at) (alone (run_from true (n - k) k s m t))
    (handed (input_run_from n gs) g.input (run_from true (g.at - k) k s m t))

-- ---- the call, with its refusals

pub record InputRunCall : Type 0 where
  pub answer : RunAnswer
  pub told : List ℕ
  pub state : State
  pub memory : List ℕ
  pub tables : List ℕ

abbrev pub input_ran_call : InputRun → InputRunCall
input_ran_call r = record {
  answer = Ok (record { steps = r.run.steps; reason = r.run.reason; references = r.run.references });
  told = r.told;
  state = r.run.state;
  memory = r.run.memory;
  tables = r.run.tables;
}

abbrev pub input_run_call_by : Answer → ℕ → List Given → State → List ℕ → List ℕ → InputRunCall
input_run_call_by (Ok _) n gs s m t = input_ran_call (input_run_from n gs 0 s m t)
input_run_call_by (Err r) n gs s m t =
    record { answer = Err r; told = []; state = s; memory = m; tables = t }

-- refusals 1 and 2, as of every run
unfoldable pub input_run_call : ℕ → List Given → State → List ℕ → List ℕ → InputRunCall
input_run_call n gs s m t = input_run_call_by (state_answer s m t) n gs s m t

-- the same in document 01's numbers
unfoldable pub input_run_told : ℕ → List Given → State → List ℕ → List ℕ → Told
input_run_told n gs s m t =
    let r = input_run_from n gs 0 s m t in
    tells_by (state_tests s m t) (r.run.steps ∷ reason_number r.run.reason ∷ r.run.references ∷ [])

-- ---- inputs as words

-- An input as one word: below 256 the level to raise, 256 a tick, 257 a read out, 512 and above a character; every
-- other word is a raise too, which is refused.
abbrev pub tick_word : ℕ
tick_word = 256

abbrev pub read_out_word : ℕ
read_out_word = 257

abbrev pub typed_word : ℕ
typed_word = 512

unfoldable pub input_of : ℕ → DeviceInput
input_of w =
    cond (w == tick_word) Tick
    (cond (w == read_out_word) ReadOut
    (cond (nat_le typed_word w && nat_lt w (typed_word + character_range)) (Typed (w - typed_word)) (Raise w)))

-- the device input of two lists, read in pairs; the shorter one counts
abbrev pub given_of : List ℕ → List ℕ → List Given
given_of [] ws = []
given_of (a ∷ steps) [] = []
given_of (a ∷ steps) (w ∷ ws) = record { at = a; input = input_of w } ∷ given_of steps ws
