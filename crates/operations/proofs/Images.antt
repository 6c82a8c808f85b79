-- A machine written and loaded, by what write answered.
-- Assumes nothing.
use Prim.Native.Nat.{ℕ, ◌≤◌}
use mathlib.Core.Path.{◌≡◌, refl, sym, ap, ◌∙◌}
use mathlib.Core.Bool.{Bool, true, false, cond}
use mathlib.Core.List.{List}
use lib.ListN.{take, length}
use lib.Dec.{ltb}
use borrow.Author.Tests.{ltb-false}
use Rattle.isa.specs.Machine.{Typed}
use Rattle.isa.specs.Images.{image_of, image_size}
use Rattle.isa.specs.Answers.{LoadCall, load_call, state_answer, output_answer, write_answer, written_output}
use Rattle.isa.specs.declared.machine.State.{State}
use Rattle.isa.specs.declared.answer.Refusal.TheVariants.{Output}
use Rattle.checks.proofs.Passed.{sizes_of, range_of}
use Rattle.roundtrip.specs.Statement.{Machine}
use Rattle.roundtrip.proofs.Theorem.{written_image, round_trip}
use Rattle.operations.specs.Reload.{WrittenAndLoaded}
use Rattle.std.specs.declared.result.Result.TheVariants.{Ok, Err}
use Rattle.isa.specs.Answers.{Answer}

-- a write that is not refused was of a state that is not, to an output that is long enough
module _ (s : State) (m t o : List ℕ) (d : write_answer s m t o ≡ Ok tt) where
  state_done : state_answer s m t ≡ Ok tt
  unfolding write_answer
  state_done = go (state_answer s m t) d
    where
      go : (a : Answer) → output_answer m o a ≡ Ok tt → a ≡ Ok tt
      go (Ok _) e = refl
      go (Err x) e = e

  pub write_room : image_size m ≤ length o
  unfolding write_answer
  write_room = ltb-false (length o) (image_size m) (go (ltb (length o) (image_size m)) (rw state_done at d))
    where
      go : (b : Bool) → ◌≡◌ {A = Answer} (cond b (Err Output) (Ok tt)) (Ok tt) → b ≡ false
      go true e = cc
      go false e = refl

  write_machine : Typed s → Machine s m t
  write_machine h = record { typed = h; range = range_of s m t state_done; sizes = sizes_of s m t state_done }

-- the machine s, m, t written to the output o, which becomes o₁, for the machine s₀, m₀, t₀
module _ (s : State) (m t o : List ℕ) (s₀ : State) (m₀ t₀ o₁ : List ℕ) (e : o₁ ≡ written_output s m t o) where
  -- the image, the first j words of the output, is loaded
  pub write_loaded : Typed s → Ok tt ≡ write_answer s m t o → (j : ℕ) → j ≡ image_size m
      → (r : LoadCall) → r ≡ load_call s₀ (take j o₁) m₀ t₀ → WrittenAndLoaded s m t o s₀ m₀ t₀ (Ok tt) o₁ r
  write_loaded h a j n r l = record {
    answer = a;
    output = e;
    refused = λ x q. cc;
    loaded = λ q. loads;
    same = λ q hm ht. loads ∙ (round_trip s m t machine).image.loads s₀ m₀ t₀ hm ht;
  }
    where
      machine : Machine s m t
      machine = write_machine s m t o (sym a) h

      image : take j o₁ ≡ image_of s m t
      image =
          ap (λ (i : ℕ). take i o₁) n
          ∙ ap (take (image_size m)) e
          ∙ written_image s m t machine o (write_room s m t o (sym a))

      loads : r ≡ load_call s₀ (image_of s m t) m₀ t₀
      loads = l ∙ ap (λ (i : List ℕ). load_call s₀ i m₀ t₀) image
