-- What a view answers stands at its start in the words named.
-- Assumes nothing.
use Prim.Native.Nat.{ℕ, ◌+◌, ◌≤◌}
use native.Mathlib.Omega.{arith}
use mathlib.Core.Path.{◌≡◌, refl, ◌∙◌}
use mathlib.Core.Bool.{Bool, true, false, cond, not}
use mathlib.Core.List.{List}
use lib.ListN.{take, drop, length, length-drop}
use lib.Seq.{length-take-le, get_or-take, get_or-drop}
use lib.Dec.{ltb}
use borrow.Author.Tests.{ltb-false}
use Rattle.isa.specs.Machine.{sizes_fit}
use Rattle.isa.specs.Answers.{Answer, target_of, view_answer, viewed}
use Rattle.isa.specs.declared.answer.Target.{Target}
use Rattle.isa.specs.declared.answer.Refusal.TheVariants.{Sizes, View}
use Rattle.laws.specs.Statement.{PartAt, ViewIsPart, RefusedViewEmpty}
use Rattle.std.specs.declared.result.Result.TheVariants.{Ok, Err}

-- a part of a list
part_at : (l : List ℕ) (a n : ℕ) → a + n ≤ length l → PartAt l a n (take n (drop a l))
part_at l a n h = record {
  within = h;
  count = length-take-le n (drop a l) (rw (length-drop a l) (omega arith));
  words = λ i k. get_or-take n (drop a l) i 0 k ∙ get_or-drop a l i 0;
}

-- a view that is not refused lies in the words named
view_within : (k : Target) (a n : ℕ) (m t : List ℕ) → view_answer k a n m t ≡ Ok tt → a + n ≤ length (target_of k m t)
unfolding view_answer
view_within k a n m t e =
    ltb-false (length (target_of k m t)) (a + n) (go (sizes_fit m t) (ltb (length (target_of k m t)) (a + n)) e)
  where
    go : (x y : Bool) → ◌≡◌ {A = Answer} (cond (not x) (Err Sizes) (cond y (Err View) (Ok tt))) (Ok tt) → y ≡ false
    go true true e = cc
    go true false e = refl
    go false y e = cc

pub view_is_part : ViewIsPart
unfolding viewed
view_is_part k a n m t e = rw e (part_at (target_of k m t) a n (view_within k a n m t e))

pub refused_view_empty : RefusedViewEmpty
unfolding viewed
refused_view_empty k a n m t x e = rw e
