-- Demand 2 of what is shipped, its last sentence: a machine written as an image, and the image loaded into another one.
use Rattle.std.specs.Prelude.{ℕ, ◌≡◌, List, length}
use Rattle.isa.specs.Images.{image_of}
use Rattle.isa.specs.Answers.{LoadCall, load_call, write_answer, written_output}
use Rattle.isa.specs.declared.machine.State.{State}
use Rattle.isa.specs.declared.answer.Refusal.{Refusal}
use Rattle.std.specs.declared.result.Result.TheVariants.{Ok, Err}
use Rattle.isa.specs.Answers.{Answer}

-- The machine s with the memory m and the page tables t is written to the output o, and loaded into the machine s₀ with
-- m₀ and t₀: write answers a and leaves o₁, load answers and leaves r.
pub record WrittenAndLoaded (s : State) (m t o : List ℕ) (s₀ : State) (m₀ t₀ : List ℕ)
    (a : Answer) (o₁ : List ℕ) (r : LoadCall) : Type 0 where
  -- as write has it, refusals included
  pub answer : a ≡ write_answer s m t o
  pub output : o₁ ≡ written_output s m t o
  -- where write is refused, nothing is loaded
  pub refused : (x : Refusal) → a ≡ Err x → r ≡ record { answer = Err x; state = s₀; memory = m₀; tables = t₀ }
  -- else the image is, as load has it, refusals included
  pub loaded : a ≡ Ok tt → r ≡ load_call s₀ (image_of s m t) m₀ t₀
  -- "Writing an image and loading it into as much memory gives the same machine."
  pub same : a ≡ Ok tt → length m₀ ≡ length m → length t₀ ≡ length t
      → r ≡ record { answer = Ok tt; state = s; memory = m; tables = t }
