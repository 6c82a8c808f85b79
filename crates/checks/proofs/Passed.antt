-- What a test says that is passed: of sizes, of a state.
-- Assumes nothing.
use Rattle.isa.specs.Machine.{level_count, largest_memory, page_words, table_words, control_of}
use Prim.Native.Nat.{ℕ, ◌%◌, ◌<◌, ◌≤◌}
use mathlib.Core.Path.{◌≡◌, refl}
use mathlib.Core.Bool.{Bool, true, false, cond, not, ◌&&◌}
use mathlib.Core.List.{List}
use lib.ListN.{length}
use lib.Dec.{ltb, leb, eqb}
use borrow.Author.Tests.{ltb-true, leb-true, eqb-true}
use Rattle.isa.specs.Machine.{sizes_fit, in_range, memory_size, control_in_range, all_pcr_bits, flags_fit}
use Rattle.isa.specs.Answers.{Answer, state_answer}
use Rattle.isa.specs.declared.machine.State.{State}
use Rattle.isa.specs.declared.answer.Refusal.TheVariants.{Sizes, State as StateRange}
use Rattle.isa.proofs.Tests.{and_left, and_right}
use Rattle.std.specs.declared.result.Result.TheVariants.{Ok, Err}

-- what sizes that fit say
module _ (m t : List ℕ) (h : sizes_fit m t ≡ true) where
  pub memory_most : length m ≤ largest_memory
  unfolding sizes_fit
  memory_most =
      leb-true (length m) largest_memory
      (and_right (eqb (length m % page_words) 0 && leb page_words (length m)) (leb (length m) largest_memory)
      (and_left (memory_size (length m)) (eqb (length t) table_words) h))

  pub tables_all : length t ≡ table_words
  unfolding sizes_fit
  tables_all = eqb-true (length t) table_words (and_right (memory_size (length m)) (eqb (length t) table_words) h)

pub sizes_of : (s : State) (m t : List ℕ) → state_answer s m t ≡ Ok tt → sizes_fit m t ≡ true
unfolding state_answer
sizes_of s m t = go (sizes_fit m t)
  where
    go : (b : Bool)
        → ◌≡◌ {A = Answer} (cond (not b) (Err Sizes) (cond (not (in_range s)) (Err StateRange) (Ok tt))) (Ok tt)
        → b ≡ true
    go true e = refl
    go false e = cc

-- a state in range
pub range_of : (s : State) (m t : List ℕ) → state_answer s m t ≡ Ok tt → in_range s ≡ true
unfolding state_answer
range_of s m t = go (sizes_fit m t) (in_range s)
  where
    go : (x y : Bool)
        → ◌≡◌ {A = Answer} (cond (not x) (Err Sizes) (cond (not y) (Err StateRange) (Ok tt))) (Ok tt)
        → y ≡ true
    go true true e = refl
    go true false e = cc
    go false y e = cc

-- so a level from 0 to 15
level_of : (s : State) (m t : List ℕ) → state_answer s m t ≡ Ok tt → s.level < level_count
unfolding in_range
level_of s m t e =
    ltb-true s.level 16 (and_left l k (and_left (l && k) p (and_left (l && k && p) f (range_of s m t e))))
  where
    l : Bool
    l = ltb s.level 16

    k : Bool
    k = control_in_range (control_of s)

    p : Bool
    p = all_pcr_bits s.pcr

    f : Bool
    f = flags_fit 16 s.regs

-- what a run asks of it
pub run_needs : (s : State) (m t : List ℕ) → state_answer s m t ≡ Ok tt
    → (s.level < level_count) × (length t ≡ table_words)
run_needs s m t e = (level_of s m t e, tables_all m t (sizes_of s m t e))
