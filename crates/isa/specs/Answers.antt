-- Document 01, "What is sent back": each operation with its refusals, what it answers and what it leaves.
use Rattle.std.specs.Prelude.{ℕ, ◌+◌, Bool, cond, not, ◌&&◌, ◌||◌, List, [], ◌∷◌, ◌++◌, length, take, drop, ◌==◌, nat_le, nat_lt}
use Rattle.isa.specs.Machine.{table_words, with_bit, control_of, in_range, sizes_fit, with_control_words}
use Rattle.isa.specs.Devices.{character_range}
use Rattle.isa.specs.System.{with_pid}
use Rattle.isa.specs.InputOutput.{ticked, typed, read_out}
use Rattle.isa.specs.Step.{step, Turn}
use Rattle.isa.specs.Run.{Run, run_from}
use Rattle.isa.specs.Images.{ImageEntry, contents, bodies, contents_fit, kind_memory, kind_tables, known_kind, size_of}
use Rattle.isa.specs.Images.{meets_any, entries_answer, named_words, loaded_words, loaded_state, image_of, image_size}
use Rattle.isa.specs.declared.machine.State.{State}
use Rattle.isa.specs.declared.answer.Reason.{Reason}
use Rattle.isa.specs.declared.answer.Reason.TheVariants.{Stopped, Level, Spent, Interrupt}
use Rattle.isa.specs.declared.answer.Target.{Target}
use Rattle.isa.specs.declared.answer.Target.TheVariants.{Memory, Tables}
use Rattle.isa.specs.declared.answer.Refusal.{Refusal}
use Rattle.isa.specs.declared.answer.Refusal.TheVariants.{Sizes, State as StateRange, RaiseLevel, Contents}
use Rattle.isa.specs.declared.answer.Refusal.TheVariants.{Kind, Target as TargetSize, Overlap, Bodies, View}
use Rattle.isa.specs.declared.answer.Refusal.TheVariants.{Output, Unread, Malformed, ExponentRange, Precision}
use Rattle.isa.specs.declared.answer.Ran.{Ran}
use Rattle.isa.specs.declared.answer.Answered.{Answered}
use Rattle.std.specs.declared.option.Option.{Option}
use Rattle.std.specs.declared.option.Option.TheVariants.{Some, None}
use Rattle.std.specs.declared.result.Result.{Result}
use Rattle.std.specs.declared.result.Result.TheVariants.{Ok, Err}

-- ---- the numbers and values of each answer

-- "A refusal gives its number"
abbrev pub refusal_number : Refusal → ℕ
refusal_number Sizes = 1
refusal_number StateRange = 2
refusal_number RaiseLevel = 3
refusal_number Contents = 4
refusal_number Kind = 5
refusal_number TargetSize = 6
refusal_number Overlap = 7
refusal_number Bodies = 8
refusal_number View = 9
refusal_number Output = 10
-- document 02, card 1: "Answers: 11, a character handed in while the last is unread"; card 12: "15 ..; 16 ..; 17 .."
refusal_number Unread = 11
refusal_number Malformed = 15
refusal_number ExponentRange = 16
refusal_number Precision = 17

-- 0 where nothing was refused
abbrev pub answer_number : {A : Type 0} → Result A Refusal → ℕ
answer_number (Ok _) = 0
answer_number (Err r) = refusal_number r

-- what operations answer, each or a refusal: raise, tick, a typed character, load, write and view nothing more; a step
-- the number of its interrupt or 0; a run the steps taken, the reason and the references made; a read out the character
-- sent last, or none
abbrev pub Answer : Type 0
Answer = Result (Unit {0}) Refusal

abbrev pub StepAnswer : Type 0
StepAnswer = Result ℕ Refusal

abbrev pub RunAnswer : Type 0
RunAnswer = Result Ran Refusal

abbrev pub SentAnswer : Type 0
SentAnswer = Result (Option ℕ) Refusal

-- the interrupt that a step gave, 0 if none
abbrev pub interrupt_given : StepAnswer → ℕ
interrupt_given (Ok n) = n
interrupt_given (Err r) = 0

abbrev pub steps_taken : RunAnswer → ℕ
steps_taken (Ok r) = r.steps
steps_taken (Err r) = 0

-- document 02, card 7: "run answers the sum"; ruling 7.4: "A refused run tells no sum", so that this 0 is never told
abbrev pub references_made : RunAnswer → ℕ
references_made (Ok r) = r.references
references_made (Err r) = 0

-- what a read out is answered: the character, or ruling 40's 256 for none; beside a refusal there is none
abbrev pub character_sent_of : SentAnswer → ℕ
character_sent_of (Ok (Some w)) = w
character_sent_of (Ok None) = character_range
character_sent_of (Err r) = character_range

-- "the reason is stopped, level, spent or interrupt": document 01 has no numbers for them; ours (docs/DECISIONS.md,
-- part 2, 13) are in the order of its tests
abbrev pub reason_number : Reason → ℕ
reason_number Stopped = 0
reason_number Level = 1
reason_number Spent = 2
reason_number Interrupt = 3

-- ---- step and run

-- "Every operation first refuses 1: memory or tables of another size than above."; "Step, and run .. 2, a state out of
-- the ranges above."
unfoldable pub state_answer : State → List ℕ → List ℕ → Answer
state_answer s m t = cond (not (sizes_fit m t)) (Err Sizes) (cond (not (in_range s)) (Err StateRange) (Ok tt))

-- what an operation answers and leaves
pub record Call (A : Type 0) : Type 0 where
  pub answer : Result A Refusal
  pub state : State
  pub memory : List ℕ
  pub tables : List ℕ

abbrev pub StepCall : Type 0
StepCall = Call ℕ

abbrev pub RunCall : Type 0
RunCall = Call Ran

abbrev pub stepped_call : Turn → StepCall
stepped_call r = record { answer = Ok r.gave; state = r.state; memory = r.memory; tables = r.tables }

abbrev pub ran_call : Run → RunCall
ran_call r = record {
  answer = Ok (record { steps = r.steps; reason = r.reason; references = r.references });
  state = r.state;
  memory = r.memory;
  tables = r.tables;
}

-- "A refusal gives its number and leaves state and lent words"
abbrev pub step_call_by : Answer → State → List ℕ → List ℕ → StepCall
step_call_by (Ok _) s m t = stepped_call (step s m t)
step_call_by (Err r) s m t = record { answer = Err r; state = s; memory = m; tables = t }

abbrev pub run_call_by : Answer → Bool → ℕ → State → List ℕ → List ℕ → RunCall
run_call_by (Ok _) first n s m t = ran_call (run_from first n 0 s m t)
run_call_by (Err r) first n s m t = record { answer = Err r; state = s; memory = m; tables = t }

unfoldable pub step_call : State → List ℕ → List ℕ → StepCall
step_call s m t = step_call_by (state_answer s m t) s m t

-- run "through, or to the first interrupt as in demand 3"; at most n steps
unfoldable pub run_call : Bool → ℕ → State → List ℕ → List ℕ → RunCall
run_call first n s m t = run_call_by (state_answer s m t) first n s m t

-- ---- raise

-- "3, a level other than 10 to 13 and 15"
abbrev pub device_level : ℕ → Bool
device_level l = nat_le 10 l && nat_le l 13 || l == 15

-- "Raise, by a device, sets the level's PID bit: 2; 3". Ruling 28: also of a stopped machine. Memory and tables are
-- looked at for refusal 1 alone. The bit is set for a level that was not refused, so PID stays a word.
abbrev pub raised : State → ℕ → State
raised s l = with_control_words s (with_pid (control_of s) (with_bit l 1 s.control.pid))

abbrev pub level_answer : ℕ → Answer → Answer
level_answer l (Ok _) = cond (device_level l) (Ok tt) (Err RaiseLevel)
level_answer l (Err r) = Err r

-- an operation that leaves memory and tables alone
abbrev pub StateCall : Type 0
StateCall = Answered (Unit {0})

abbrev pub raise_call_by : Answer → State → ℕ → StateCall
raise_call_by (Ok _) s l = record { answer = Ok tt; state = raised s l }
raise_call_by (Err r) s l = record { answer = Err r; state = s }

unfoldable pub raise_call : State → ℕ → List ℕ → List ℕ → StateCall
raise_call s l m t = raise_call_by (level_answer l (state_answer s m t)) s l

-- ---- tick, typed character, read out

-- Ruling 36: each "first refuses 1, then 2, allowed on a stopped machine too". Memory and tables are looked at for
-- refusal 1 alone.
abbrev pub tick_call_by : Answer → State → StateCall
tick_call_by (Ok _) s = record { answer = Ok tt; state = with_control_words s (ticked (control_of s)) }
tick_call_by (Err r) s = record { answer = Err r; state = s }

unfoldable pub tick_call : State → List ℕ → List ℕ → StateCall
tick_call s m t = tick_call_by (state_answer s m t) s

-- "11, a character handed in while the last is unread, tested after 2"
abbrev pub is_unread : State → Bool
is_unread s = s.devices.input.unread == 1

abbrev pub unread_answer : State → Answer → Answer
unread_answer s (Ok _) = cond (is_unread s) (Err Unread) (Ok tt)
unread_answer s (Err r) = Err r

-- the character w is below 256 by its type
abbrev pub type_call_by : Answer → State → ℕ → StateCall
type_call_by (Ok _) s w = record { answer = Ok tt; state = with_control_words s (typed (control_of s) w) }
type_call_by (Err r) s w = record { answer = Err r; state = s }

unfoldable pub type_call : State → ℕ → List ℕ → List ℕ → StateCall
type_call s w m t = type_call_by (unread_answer s (state_answer s m t)) s w

-- "the character sent last is read out between steps, once, and else the answer is none"
abbrev pub ReadOutCall : Type 0
ReadOutCall = Answered (Option ℕ)

abbrev pub waits : State → Bool
waits s = s.devices.output.waits == 1

abbrev pub read_out_call_by : Answer → State → ReadOutCall
read_out_call_by (Ok _) s = record {
  answer = cond (waits s) (Ok (Some s.devices.output.character)) (Ok None);
  state = cond (waits s) (with_control_words s (read_out (control_of s))) s;
}
read_out_call_by (Err r) s = record { answer = Err r; state = s }

unfoldable pub read_out_call : State → List ℕ → List ℕ → ReadOutCall
read_out_call s m t = read_out_call_by (state_answer s m t) s

-- ---- load

-- "Load: 4, contents short or over 32 entries; for each entry 5 .. 6 .. 7 .. 8, bodies other than exactly the rest; 2."
abbrev pub bodies_answer : List ℕ → Answer → Answer
bodies_answer i (Err r) = Err r
bodies_answer i (Ok _) =
    cond (not (named_words (contents i) == length (bodies i))) (Err Bodies)
    (cond (not (in_range (loaded_state i))) (Err StateRange) (Ok tt))

unfoldable pub load_answer : List ℕ → List ℕ → List ℕ → Answer
load_answer i m t =
    cond (not (sizes_fit m t)) (Err Sizes)
    (cond (not (contents_fit i)) (Err Contents) (bodies_answer i (entries_answer (length m) [] (contents i))))

-- s is the state that a refusal hands back
abbrev pub LoadCall : Type 0
LoadCall = Call (Unit {0})

abbrev pub load_call_by : Answer → State → List ℕ → List ℕ → List ℕ → LoadCall
load_call_by (Ok _) s i m t = record {
  answer = Ok tt;
  state = loaded_state i;
  memory = loaded_words kind_memory (length m) i;
  tables = loaded_words kind_tables table_words i;
}
load_call_by (Err r) s i m t = record { answer = Err r; state = s; memory = m; tables = t }

unfoldable pub load_call : State → List ℕ → List ℕ → List ℕ → LoadCall
load_call s i m t = load_call_by (load_answer i m t) s i m t

-- ---- write

-- "Write: 2; 10, the lent output is too short. Words past the image stay."
abbrev pub output_answer : List ℕ → List ℕ → Answer → Answer
output_answer m out (Ok _) = cond (nat_lt (length out) (image_size m)) (Err Output) (Ok tt)
output_answer m out (Err r) = Err r

unfoldable pub write_answer : State → List ℕ → List ℕ → List ℕ → Answer
write_answer s m t out = output_answer m out (state_answer s m t)

abbrev pub written_by : Answer → State → List ℕ → List ℕ → List ℕ → List ℕ
written_by (Ok _) s m t out = image_of s m t ++ drop (image_size m) out
written_by (Err r) s m t out = out

-- the output after it
unfoldable pub written_output : State → List ℕ → List ℕ → List ℕ → List ℕ
written_output s m t out = written_by (write_answer s m t out) s m t out

-- ---- view

-- "View: 9, start plus length beyond its target's size. It answers a part of the caller's memory or of the caller's
-- page tables." Ruling 28: the state is not tested.
abbrev pub target_of : Target → List ℕ → List ℕ → List ℕ
target_of Memory m t = m
target_of Tables m t = t

unfoldable pub view_answer : Target → ℕ → ℕ → List ℕ → List ℕ → Answer
view_answer k a n m t =
    cond (not (sizes_fit m t)) (Err Sizes) (cond (nat_lt (length (target_of k m t)) (a + n)) (Err View) (Ok tt))

-- "a refused view is empty"
abbrev pub viewed_by : Answer → List ℕ → ℕ → ℕ → List ℕ
viewed_by (Ok _) l a n = take n (drop a l)
viewed_by (Err r) l a n = []

unfoldable pub viewed : Target → ℕ → ℕ → List ℕ → List ℕ → List ℕ
viewed k a n m t = viewed_by (view_answer k a n m t) (target_of k m t) a n

-- ---- the same in this paper's numbers

-- "there is a definition that gives this paper's number and values for each of its cases": the number, 0 where the call
-- is performed, and the values beside it, none beside a refusal
pub record Told : Type 0 where
  pub number : ℕ
  pub values : List ℕ

abbrev pub answer_numbers : Answer → Told
answer_numbers a = record { number = answer_number a; values = [] }

-- a step's value is the number of its interrupt, 0 if none
abbrev pub step_values : StepAnswer → List ℕ
step_values (Ok n) = n ∷ []
step_values (Err r) = []

abbrev pub step_numbers : StepAnswer → Told
step_numbers a = record { number = answer_number a; values = step_values a }

-- a run's are the steps taken, the reason and the references made
abbrev pub run_values : RunAnswer → List ℕ
run_values (Ok r) = r.steps ∷ reason_number r.reason ∷ r.references ∷ []
run_values (Err r) = []

abbrev pub run_numbers : RunAnswer → Told
run_numbers a = record { number = answer_number a; values = run_values a }

-- a read out's is the character; where there is none it has no value
abbrev pub sent_values : SentAnswer → List ℕ
sent_values (Ok (Some w)) = w ∷ []
sent_values (Ok None) = []
sent_values (Err r) = []

abbrev pub sent_numbers : SentAnswer → Told
sent_numbers a = record { number = answer_number a; values = sent_values a }

-- what is told after tests in order, each with the number that it refuses with: that of the first that holds, else 0
-- and the values
abbrev pub tells_by : List (Bool × ℕ) → List ℕ → Told
tells_by [] vs = record { number = 0; values = vs }
tells_by (x ∷ xs) vs = cond x.0 (record { number = x.1; values = [] }) (tells_by xs vs)

-- "Every operation first refuses 1"; "Step, and run .. 2, a state out of the ranges above."
abbrev pub state_tests : State → List ℕ → List ℕ → List (Bool × ℕ)
state_tests s m t = (not (sizes_fit m t), 1) ∷ (not (in_range s), 2) ∷ []

unfoldable pub step_told : State → List ℕ → List ℕ → Told
step_told s m t = tells_by (state_tests s m t) ((step s m t).gave ∷ [])

unfoldable pub run_told : Bool → ℕ → State → List ℕ → List ℕ → Told
run_told first n s m t =
    let r = run_from first n 0 s m t in
    tells_by (state_tests s m t) (r.steps ∷ reason_number r.reason ∷ r.references ∷ [])

-- "Raise, by a device, sets the level's PID bit: 2; 3, a level other than 10 to 13 and 15."
unfoldable pub raise_told : State → ℕ → List ℕ → List ℕ → Told
raise_told s l m t = tells_by (state_tests s m t ++ ((not (device_level l), 3) ∷ [])) []

-- Document 02, card 1; ruling 36
unfoldable pub tick_told : State → List ℕ → List ℕ → Told
tick_told s m t = tells_by (state_tests s m t) []

-- "11, a character handed in while the last is unread, tested after 2"
unfoldable pub type_told : State → List ℕ → List ℕ → Told
type_told s m t = tells_by (state_tests s m t ++ ((is_unread s, 11) ∷ [])) []

unfoldable pub read_out_told : State → List ℕ → List ℕ → Told
read_out_told s m t =
    tells_by (state_tests s m t) (cond (waits s) (s.devices.output.character ∷ []) [])

-- "for each entry 5, unknown kind, 6, start plus length beyond its target's size, 7, covering a word already named"
abbrev pub entry_tests : ℕ → List ImageEntry → List ImageEntry → List (Bool × ℕ)
entry_tests words seen [] = []
entry_tests words seen (e ∷ es) =
    (not (known_kind e.kind), 5)
    ∷ (nat_lt (size_of words e.kind) (e.start + e.count), 6)
    ∷ (meets_any e seen, 7)
    ∷ entry_tests words (e ∷ seen) es

-- "Load: 4, contents short or over 32 entries; for each entry .. 8, bodies other than exactly the rest; 2."
unfoldable pub load_told : List ℕ → List ℕ → List ℕ → Told
load_told i m t =
    tells_by
    ((not (sizes_fit m t), 1)
    ∷ (not (contents_fit i), 4)
    ∷ (entry_tests (length m) [] (contents i)
    ++ ((not (named_words (contents i) == length (bodies i)), 8) ∷ (not (in_range (loaded_state i)), 2) ∷ [])))
    []

-- "Write: 2; 10, the lent output is too short"
unfoldable pub write_told : State → List ℕ → List ℕ → List ℕ → Told
write_told s m t out = tells_by (state_tests s m t ++ ((nat_lt (length out) (image_size m), 10) ∷ [])) []

-- "View: 9, start plus length beyond its target's size"
unfoldable pub view_told : Target → ℕ → ℕ → List ℕ → List ℕ → Told
view_told k a n m t = tells_by ((not (sizes_fit m t), 1) ∷ (nat_lt (length (target_of k m t)) (a + n), 9) ∷ []) []
