-- Lists copied one behind the other.
-- Assumes nothing.
use Prim.Native.Nat.{ℕ, ◌+◌}
use mathlib.Core.Path.{◌≡◌, sym, ap, ◌∙◌}
use mathlib.Core.List.{List, ◌++◌}
use native.Mathlib.Omega.{arith}
use lib.ListN.{length, take, drop}
use lib.Seq.{paste, take_at, drop_at, take_all, drop-drop}

-- a whole list, behind what stands at the front already
pub joined : (p w o d : List ℕ) (at n : ℕ) → length p ≡ at → length w ≡ n → d ≡ p ++ drop at o
    → paste d at w n ≡ (p ++ w) ++ drop (at + n) o
joined p w o d at n hp hw e =
    ap (λ (x : List ℕ). paste x at w n) e
    ∙ ap (λ (x : List ℕ). x ++ take n w ++ drop (at + n) (p ++ drop at o)) (take_at p (drop at o) at hp)
    ∙ ap (λ (x : List ℕ). p ++ x ++ drop (at + n) (p ++ drop at o)) (take_all n w (omega arith))
    ∙ ap (λ (x : List ℕ). p ++ w ++ x)
    (sym (drop-drop n at (p ++ drop at o)) ∙ ap (drop n) (drop_at p (drop at o) at hp) ∙ drop-drop n at o)
