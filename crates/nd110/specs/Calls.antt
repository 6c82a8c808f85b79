-- What a host's call answers and leaves: the operations of document 01 over a state lent as words in image order, or as
-- a record; and the conversions of document 02 over words.
use Rattle.std.specs.Prelude.{ℕ, Bool, cond, ◌&&◌, ◌||◌, List, [], ◌∷◌, ◌++◌, length, leb, eqb}
use Rattle.isa.specs.Machine.{state_words, state_in, state_ordered}
use Rattle.isa.specs.Answers.{Answer, RunAnswer, StepCall, RunCall, StateCall, ReadOutCall, LoadCall, answer_number}
use Rattle.isa.specs.Answers.{interrupt_given, character_sent_of, steps_taken, reason_number}
use Rattle.isa.specs.Answers.{references_made}
use Rattle.isa.specs.Answers.{step_call, run_call, raise_call, tick_call, type_call, read_out_call, load_call}
use Rattle.isa.specs.Answers.{write_answer, written_output, view_answer, viewed, Told}
use Rattle.isa.specs.DeviceInput.{InputRunCall, input_run_call, given_of}
use Rattle.run_input.specs.Inputs.{onto}
use Rattle.floating.specs.Conversions.{to_long, to_short, long_numbers, short_numbers}
use Rattle.isa.specs.declared.machine.State.{State}
use Rattle.isa.specs.declared.answer.Target.{Target}
use Rattle.isa.specs.declared.answer.Target.TheVariants.{Memory, Tables}
use Rattle.std.specs.declared.result.Result.TheVariants.{Ok, Err}

-- the number of a call that is no operation: a state of other than 168 words, a view of an unknown kind or into too few
-- words, a conversion into other than the words of its form, device input in lists of other lengths; document 02 gives
-- 11 to 18 to its requests
abbrev pub bad_call : ℕ
bad_call = 255

-- the reason's number of a run that was not refused
abbrev pub reason_given : RunAnswer → ℕ
reason_given (Ok r) = reason_number r.reason
reason_given (Err r) = 0

-- what a run that was performed tells
abbrev pub ran_values : RunAnswer → List ℕ
ran_values a = steps_taken a ∷ reason_given a ∷ references_made a ∷ []

-- what a call answers and leaves: its number, the state's words, memory, page tables, and the words that tell the rest
-- of the answer
pub record Left : Type 0 where
  pub number : ℕ
  pub state : List ℕ
  pub memory : List ℕ
  pub tables : List ℕ
  pub told : List ℕ

abbrev pub left_of : ℕ → List ℕ → List ℕ → List ℕ → List ℕ → Left
left_of n w m t x = record { number = n; state = w; memory = m; tables = t; told = x }

-- an operation that answers n, hands s back and tells x, called with the words w and y: a refusal leaves both
unfoldable pub call_end : ℕ → State → List ℕ → List ℕ → List ℕ → List ℕ → List ℕ → Left
call_end n s m t x w y = left_of n (cond (eqb n 0) (state_ordered s) w) m t (cond (eqb n 0) x y)

-- the call as a whole: words that are no state are refused, and nothing changes
unfoldable pub called : List ℕ → List ℕ → List ℕ → List ℕ → Left → Left
called w m t y l = cond (eqb (length w) state_words) l (left_of bad_call w m t y)

-- step tells the interrupt's number
abbrev pub step_end : List ℕ → List ℕ → StepCall → Left
step_end w y c =
    call_end (answer_number c.answer) c.state c.memory c.tables (interrupt_given c.answer ∷ []) w y

abbrev pub host_step : List ℕ → List ℕ → List ℕ → List ℕ → Left
host_step w m t y = called w m t y (step_end w y (step_call (state_in w) m t))

-- what a call on a lent record answers and leaves: as Left, with the record in place of words
pub record LentLeft : Type 0 where
  pub number : ℕ
  pub state : State
  pub memory : List ℕ
  pub tables : List ℕ
  pub told : List ℕ

abbrev pub lent_left : ℕ → State → List ℕ → List ℕ → List ℕ → LentLeft
lent_left n s m t x = record { number = n; state = s; memory = m; tables = t; told = x }

-- the record is as the call hands it back, and so are memory and page tables: a refused one hands back what came. Step
-- tells the interrupt's number; a refused one leaves the word for it.
abbrev pub lent_step_end : ℕ → StepCall → LentLeft
lent_step_end y c =
    lent_left (answer_number c.answer) c.state c.memory c.tables
    (cond (eqb (answer_number c.answer) 0) (interrupt_given c.answer) y ∷ [])

-- a run tells its steps, its reason's number and its references
abbrev pub run_end : List ℕ → List ℕ → RunCall → Left
run_end w y c =
    call_end (answer_number c.answer) c.state c.memory c.tables (ran_values c.answer) w y

abbrev pub host_run : Bool → ℕ → List ℕ → List ℕ → List ℕ → List ℕ → Left
host_run first n w m t y = called w m t y (run_end w y (run_call first n (state_in w) m t))

-- raise, tick, a typed character and load tell nothing
abbrev pub answer_end : List ℕ → Answer → State → List ℕ → List ℕ → Left
answer_end w a s m t = call_end (answer_number a) s m t [] w []

abbrev pub raise_end : List ℕ → List ℕ → List ℕ → StateCall → Left
raise_end w m t c = answer_end w c.answer c.state m t

-- raise of a lent record: memory and page tables are lent to be read
abbrev pub lent_raise_end : List ℕ → List ℕ → StateCall → LentLeft
lent_raise_end m t c = lent_left (answer_number c.answer) c.state m t []

abbrev pub host_raise : ℕ → List ℕ → List ℕ → List ℕ → Left
host_raise l w m t = called w m t [] (raise_end w m t (raise_call (state_in w) l m t))

abbrev pub host_tick : List ℕ → List ℕ → List ℕ → Left
host_tick w m t = called w m t [] (raise_end w m t (tick_call (state_in w) m t))

abbrev pub host_type : ℕ → List ℕ → List ℕ → List ℕ → Left
host_type x w m t = called w m t [] (raise_end w m t (type_call (state_in w) x m t))

-- a read out tells the character, or 256 for none
abbrev pub read_out_end : List ℕ → List ℕ → List ℕ → List ℕ → ReadOutCall → Left
read_out_end w y m t c =
    call_end (answer_number c.answer) c.state m t (character_sent_of c.answer ∷ []) w y

abbrev pub host_read_out : List ℕ → List ℕ → List ℕ → List ℕ → Left
host_read_out w m t y = called w m t y (read_out_end w y m t (read_out_call (state_in w) m t))

-- Run with device input tells, in the words for its inputs, what each that was handed in was told, the others staying;
-- then how many these are, the steps, the reason's number and the references. Lists of inputs of different lengths are
-- no device input.
abbrev pub input_run_end : List ℕ → List ℕ → List ℕ → InputRunCall → Left
input_run_end w told y c =
    call_end (answer_number c.answer) c.state c.memory c.tables
    (onto c.told told ++ (length c.told ∷ ran_values c.answer)) w (told ++ y)

abbrev pub host_input_run : ℕ → List ℕ → List ℕ → List ℕ → List ℕ → List ℕ → List ℕ → List ℕ → Left
host_input_run n steps what told w m t y =
    called w m t (told ++ y)
    (cond (eqb (length steps) (length what) && eqb (length told) (length what))
    (input_run_end w told y (input_run_call n (given_of steps what) (state_in w) m t))
    (left_of bad_call w m t (told ++ y)))

abbrev pub load_end : List ℕ → LoadCall → Left
load_end w c = answer_end w c.answer c.state c.memory c.tables

abbrev pub host_load : List ℕ → List ℕ → List ℕ → List ℕ → Left
host_load i w m t = called w m t [] (load_end w (load_call (state_in w) i m t))

-- write: its number, and the output after it
unfoldable pub host_write : List ℕ → List ℕ → List ℕ → List ℕ → ℕ
host_write w m t o = cond (eqb (length w) state_words) (answer_number (write_answer (state_in w) m t o)) bad_call

unfoldable pub host_written : List ℕ → List ℕ → List ℕ → List ℕ → List ℕ
host_written w m t o = cond (eqb (length w) state_words) (written_output (state_in w) m t o) o

-- what a view is of, by the number of an image's kind: 1 memory, 4 page tables
abbrev pub known_target : ℕ → Bool
known_target k = eqb k 1 || eqb k 4

unfoldable pub target_named : ℕ → Target
target_named k = cond (eqb k 1) Memory Tables

-- the call beside view; view into so many words; the output after it
unfoldable pub host_view_answer : ℕ → ℕ → ℕ → List ℕ → List ℕ → ℕ
host_view_answer k a n m t = cond (known_target k) (answer_number (view_answer (target_named k) a n m t)) bad_call

unfoldable pub host_view : ℕ → ℕ → ℕ → List ℕ → List ℕ → ℕ → ℕ
host_view k a n m t room = cond (leb n room) (host_view_answer k a n m t) bad_call

unfoldable pub host_viewed : ℕ → ℕ → ℕ → List ℕ → List ℕ → List ℕ → List ℕ
host_viewed k a n m t o = cond (leb n (length o)) (cond (known_target k) (onto (viewed (target_named k) a n m t) o) o) o

-- ---- the conversions of the floating forms, into a lent output of exactly the words of the other form

-- what a call answers and leaves of its output
pub record Output : Type 0 where
  pub number : ℕ
  pub words : List ℕ

abbrev pub output_left : ℕ → List ℕ → Output
output_left n o = record { number = n; words = o }

-- the output gets the words told, or stays if the call is refused
unfoldable pub convert_end : Told → List ℕ → Output
convert_end r o = output_left r.number (cond (eqb r.number 0) r.values o)

abbrev pub short_count : ℕ
short_count = 2

abbrev pub long_count : ℕ
long_count = 3

unfoldable pub host_to_long : ℕ → ℕ → List ℕ → Output
host_to_long a d o =
    cond (eqb (length o) long_count) (convert_end (long_numbers (to_long (record { a = a; d = d }))) o)
    (output_left bad_call o)

unfoldable pub host_to_short : ℕ → ℕ → ℕ → List ℕ → Output
host_to_short t a d o =
    cond (eqb (length o) short_count) (convert_end (short_numbers (to_short (record { t = t; a = a; d = d }))) o)
    (output_left bad_call o)
