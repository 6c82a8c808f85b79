-- Demand 3 of what is shipped: two machines of one state side by side, both asked for one number of steps and given
-- device input.
use Rattle.std.specs.Prelude.{ℕ, ◌≡◌, List, length}
use Rattle.isa.specs.Answers.{state_answer}
use Rattle.isa.specs.DeviceInput.{Given, InputRunCall, input_run_call}
use Rattle.isa.specs.declared.machine.State.{State}
use Rattle.isa.specs.declared.answer.Refusal.{Refusal}
use Rattle.isolation.specs.Statement.{Starts, Isolated, RefusedAlike}
use Rattle.std.specs.declared.result.Result.TheVariants.{Err}

-- From the state s: the call r with the device input gs, the memory m and the page tables t, the call q with hs, n and
-- u, k steps asked of both. Both inputs are of one list, as far as each side has words for what they are told.
pub record SideBySide (s : State) (k : ℕ) (gs hs : List Given) (m t n u : List ℕ) (r q : InputRunCall) : Type 0 where
  -- each is run to the first interrupt, from its own start
  pub left : r ≡ input_run_call k gs s m t
  pub right : q ≡ input_run_call k hs s n u
  -- "equal in .. all page tables, and each memory word outside the pages that no entry of the two tables permits to the
  -- ring": the ends are isolated
  pub isolated : u ≡ t → hs ≡ gs → Starts s t m n → Isolated s t m n r q
  -- "Two starts that are refused, with equally much memory and equal in all but memory's words, get the same refusal,
  -- and each stays as it came."
  pub refused : u ≡ t → length m ≡ length n → (x : Refusal) → state_answer s m t ≡ Err x
      → RefusedAlike s t m n x r q
