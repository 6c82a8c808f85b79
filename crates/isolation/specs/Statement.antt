-- Demand 3, document 01 "Two machines side by side", and document 02, card 1, on devices, and card 7, on references:
-- what is claimed of run to the first interrupt with device input from two starts.
use Rattle.std.specs.Prelude.{ℕ, ◌/◌, ◌≤◌, ◌≡◌, true, false, List, [], get_or, length}
use Rattle.isa.specs.Machine.{ring_of}
use Rattle.isa.specs.Pages.{entry_at}
use Rattle.isa.specs.Answers.{RunCall, state_answer}
use Rattle.isa.specs.DeviceInput.{Given, InputRunCall, input_run_call}
use Rattle.isa.specs.Isolation.{AlikeStarts, MarksAlone, start_pcr, start_form, writable, differs}
use Rattle.isa.specs.Isolation.{differing_words}
use Rattle.isa.specs.declared.machine.State.{State}
use Rattle.isa.specs.declared.answer.Refusal.{Refusal}
use Rattle.std.specs.declared.result.Result.TheVariants.{Err}

-- The starts: one state s, devices included, and one set of page tables t, with the memories m and n. Document 02, card
-- 1: "A comparison of two runs now starts with both devices alike, gives them the same raises, ticks and typed
-- characters and has sent ones read out at the same steps in the same order (all this is the device input), and ends
-- with the devices alike".
pub record Starts (s : State) (t m n : List ℕ) : Type 0 where
  -- "Two machines with paging on, on one ring 0 or 1"
  pub paging_on : s.control.paging ≡ 1
  pub ring_low : ring_of (start_pcr s) ≤ 1
  -- "equally much memory and .. equal in .. each memory word outside the pages that no entry of the two tables permits
  -- to the ring"
  pub alike : AlikeStarts s t m n

-- What one run from the memory m leaves.
pub record Confined (s : State) (t m : List ℕ) (r : InputRunCall) : Type 0 where
  -- as much memory as before
  pub size : length r.memory ≡ length m
  -- "in each run every word of a page not permitted for writing is as it was"; past the end there is none, and `get_or`
  -- gives 0
  pub unwritten : (k : ℕ) → writable s t (k / 1024) ≡ false → get_or r.memory k 0 ≡ get_or m k 0
  -- the entries, in the form of the start, are changed in their marks alone, so that permits, rings and pages are
  -- those of the start
  pub marks : (i : ℕ) → MarksAlone (entry_at (start_form s) r.tables i) (entry_at (start_form s) t i)

-- What the two runs r, from m, and q, from n, leave.
pub record Isolated (s : State) (t m n : List ℕ) (r q : InputRunCall) : Type 0 where
  -- "steps and reason differ in nothing", nor does a refusal; document 02, card 7: "run answers the sum (its low 64
  -- bits), the same in demand 3's two runs", beside steps and reason
  pub answer : r.answer ≡ q.answer
  -- what each input was answered, the character read out included
  pub told : r.told ≡ q.told
  -- "equal in every register, control word and page table word, marks too"; "ends with the devices alike"
  pub state : r.state ≡ q.state
  pub tables : r.tables ≡ q.tables
  -- "The same words differ afterwards with the same two values": a word that differed at the start is in each run as it
  -- was ..
  pub differing : (k : ℕ) → differs m n k ≡ true
      → (get_or r.memory k 0 ≡ get_or m k 0) × (get_or q.memory k 0 ≡ get_or n k 0)
  -- .. and no other word differs
  pub no_other : (k : ℕ) → differs m n k ≡ false → differs r.memory q.memory k ≡ false
  -- "as many as before"
  pub count : differing_words r.memory q.memory ≡ differing_words m n
  -- each run by itself
  pub left : Confined s t m r
  pub right : Confined s t n q

-- "Two starts that are refused, with equally much memory and equal in all but memory's words, get the same refusal, and
-- each stays as it came": the calls r and q with the refusal x. No input was handed in; ruling 7.4: "A refused run
-- tells no sum."
pub record RefusedAlike (s : State) (t m n : List ℕ) (x : Refusal) (r q : InputRunCall) : Type 0 where
  pub left : r ≡ record { answer = Err x; told = []; state = s; memory = m; tables = t }
  pub right : q ≡ record { answer = Err x; told = []; state = s; memory = n; tables = t }

-- THE CLAIM, of two whole runs: for any number of steps c, 0 included, and any device input gs, one for both
abbrev pub IsolatedRuns : Type 0
IsolatedRuns =
    (c : ℕ) (gs : List Given) (s : State) (t m n : List ℕ) → Starts s t m n
    → Isolated s t m n (input_run_call c gs s m t) (input_run_call c gs s n t)

-- the claim of two starts that are refused
abbrev pub RefusedRuns : Type 0
RefusedRuns =
    (c : ℕ) (gs : List Given) (s : State) (t m n : List ℕ) (x : Refusal) → length m ≡ length n
    → state_answer s m t ≡ Err x
    → RefusedAlike s t m n x (input_run_call c gs s m t) (input_run_call c gs s n t)

-- a run without device input: nothing was handed in, so nothing told
abbrev pub without_input : RunCall → InputRunCall
without_input r = record {
  answer = r.answer;
  told = [];
  state = r.state;
  memory = r.memory;
  tables = r.tables;
}
