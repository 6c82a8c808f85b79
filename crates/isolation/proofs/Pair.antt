-- What the theorem says of the worked pair, in both modes, with any control words and devices but that paging is on,
-- from every address P, for any number of steps and any device input.
-- Assumes nothing.
use Prim.Native.Nat.{ℕ, ◌/◌, ◌<◌, ◌≤◌}
use mathlib.Core.Path.{◌≡◌, refl, sym, subst, ◌∙◌}
use mathlib.Core.Bool.{Bool, true, false}
use mathlib.Core.List.{List, ◌∷◌, ◌++◌}
use native.Mathlib.Omega.{arith}
use native.Mathlib.Decide.{dec_lt}
use lib.ListN.{get_or, replicate, length, get_or-append, get_or-eq_default}
use lib.Dec.{lit≤}
use Rattle.isa.specs.Isolation.{in_either, reachable}
use Rattle.isa.specs.DeviceInput.{Given, input_run_call}
use Rattle.isa.specs.Cases.{quiet}
use Rattle.isa.specs.declared.machine.Control.{Control}
use Rattle.isa.proofs.Tests.{no_both}
use Rattle.isolation.specs.Statement.{Starts, Isolated, without_input}
use Rattle.isolation.specs.Example.{own, left, right, tables, pair_start, run, in_use, device_input, run_with_input}
use Rattle.isolation.proofs.Theorem.{isolation, isolation_without_input}

-- page 2 is not permitted
foreign : (form : Bool) (k : Control) (p : ℕ) → reachable (pair_start form k p) (tables form) 2 ≡ false
unfolding in_either
foreign true k p = refl
foreign false k p = refl

-- two memories that begin alike are equal below the first word of page 2, and past the third page
begin_same : (xs ys zs : List ℕ) (k : ℕ) → k < length xs → get_or (xs ++ ys) k 0 ≡ get_or (xs ++ zs) k 0
begin_same xs ys zs k l = get_or-append xs ys 0 k l ∙ sym (get_or-append xs zs 0 k l)

pub pair_alike : (form : Bool) (k : Control) (p : ℕ) → k.paging ≡ 1
    → Starts (pair_start form k p) (tables form) left right
pair_alike form k p on = record {
  paging_on = on;
  ring_low = lit≤ tt;
  alike = record { size = refl; same = λ i q. go i q (dec_lt i 2048) (dec_lt i 3072) };
}
  where
    go : (i : ℕ) → reachable (pair_start form k p) (tables form) (i / 1024) ≡ true → Dec (i < 2048) → Dec (i < 3072)
        → get_or left i 0 ≡ get_or right i 0
    go i q (yes l) d =
        begin_same own (0o111111 ∷ 0o000001 ∷ replicate 1022 0) (0o022222 ∷ 0o000002 ∷ replicate 1022 0) i l
    go i q (no l) (yes u) =
        let reached : ℕ → Bool = reachable (pair_start form k p) (tables form) in
        absurd (no_both (sym (foreign form k p) ∙ subst (λ (x : ℕ). reached x ≡ true) page q))
      where
        page : i / 1024 ≡ 2
        page = omega arith
    go i q (no l) (no u) =
        get_or-eq_default left 0 (beyond u) ∙ sym (get_or-eq_default right 0 (beyond u))
      where
        beyond : (i < 3072 → ⊥) → 3072 ≤ i
        beyond n = omega arith

pub pair_isolated : (form : Bool) (c : ℕ) (gs : List Given) (k : Control) (p : ℕ) → k.paging ≡ 1
    → Isolated (pair_start form k p) (tables form) left right
    (input_run_call c gs (pair_start form k p) left (tables form))
    (input_run_call c gs (pair_start form k p) right (tables form))
pair_isolated form c gs k p on =
    isolation c gs (pair_start form k p) (tables form) left right (pair_alike form k p on)

-- the runs that the example computes: with device input, and without
pub pair_with_input_law : (form : Bool) (interrupts : ℕ)
    → Isolated (pair_start form (in_use interrupts) 0) (tables form) left right (run_with_input form interrupts left)
    (run_with_input form interrupts right)
pair_with_input_law form interrupts = pair_isolated form 100 device_input (in_use interrupts) 0 refl

pub pair_without_input : (form : Bool) (p : ℕ)
    → Isolated (pair_start form (quiet 1) p) (tables form) left right (without_input (run form p left))
    (without_input (run form p right))
pair_without_input form p =
    isolation_without_input 100 (pair_start form (quiet 1) p) (tables form) left right
    (pair_alike form (quiet 1) p refl)
