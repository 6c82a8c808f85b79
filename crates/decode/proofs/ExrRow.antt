-- EXR: no word is an EXR but those of its row.
-- Assumes nothing.
use Prim.Native.Nat.{ℕ, ◌/◌, ◌%◌, ◌≤◌, ◌<◌, zero-le}
use mathlib.Core.Path.{◌≡◌, refl, sym, ap, ◌∙◌}
use mathlib.Core.Bool.{Bool, true, false, ◌&&◌, ◌||◌}
use mathlib.Core.List.{List, [], ◌∷◌}
use native.Mathlib.Omega.{arith}
use lib.Dec.{ltb, eqb}
use borrow.Author.Tests.{ltb-true, ltb-false, eqb-true}
use Rattle.isa.proofs.Tests.{no_both, either, decided, and_left, and_right}
use Rattle.isa.specs.Machine.{bit}
use Rattle.isa.specs.Decode.{decode, rows, by_code, by_number, source_of, tra_of, trr_of, masked_of, switch_of, srb_of}
use Rattle.isa.specs.Decode.{lrb_of, shift_of, transfer_of}
use Rattle.isa.specs.declared.instruction.ControlOp.{ControlOp}
use Rattle.isa.specs.declared.instruction.Instruction.{Instruction}
use Rattle.isa.specs.declared.instruction.Instruction.TheVariants.{Unprivileged, Privileged, Execute, Monitor, Illegal}
use Rattle.isa.specs.declared.instruction.Maskable.{Maskable}
use Rattle.isa.specs.declared.machine.Register.{Register}
use Rattle.word_class.specs.Classes.{class_of, by_class}
use Rattle.word_class.proofs.Classes.{by_class_law}

-- an instruction that is not EXR
abbrev plain : Instruction → Bool
plain (Unprivileged u) = true
plain (Privileged q) = true
plain (Execute s) = false
plain (Monitor n) = true
plain Illegal = true

-- In a table from the code b on, whose value there is d, all values are plain but that of the row from c to e.
module _ (c e : ℕ) where
  abbrev plain_but : ℕ → Instruction → List (ℕ × Instruction) → Bool
  plain_but b d [] = plain d
  plain_but b d (r ∷ rs) = (plain d || (eqb b c && eqb r.0 e)) && plain_but r.0 r.1 rs

  plain_other : (b : ℕ) (d : Instruction) (rs : List (ℕ × Instruction)) (n : ℕ)
      → plain_but b d rs ≡ true → b ≤ n → (c ≤ n → n < e → ⊥) → plain (by_code d rs n) ≡ true
  unfolding by_code
  plain_other b d [] n h l o = h
  plain_other b d (r ∷ rs) n h l o =
      decided (λ (i : Instruction). plain i ≡ true) (ltb n r.0)
      (λ q. here _ _ _ (and_left first (plain_but r.0 r.1 rs) h) (alone q))
      (λ q. plain_other r.0 r.1 rs n (and_right first (plain_but r.0 r.1 rs) h) (ltb-false n r.0 q) o)
    where
      first : Bool
      first = plain d || (eqb b c && eqb r.0 e)

      here : (x y z : Bool) → (x || (y && z)) ≡ true → (y ≡ true → z ≡ true → ⊥) → x ≡ true
      here true y z h f = refl
      here false true true h f = absurd (f refl refl)
      here false true false h f = h
      here false false z h f = h

      alone : ltb n r.0 ≡ true → eqb b c ≡ true → eqb r.0 e ≡ true → ⊥
      alone q x y =
          let k : n < r.0 = ltb-true n r.0 q in
          let i : b ≡ c = eqb-true b c x in
          let j : r.0 ≡ e = eqb-true r.0 e y in
          o (omega arith) (omega arith)

-- a table with no EXR at all
plain_table : (rs : List (ℕ × Instruction)) (n : ℕ)
    → plain_but 1 0 0 Illegal rs ≡ true → plain (by_code Illegal rs n) ≡ true
plain_table rs n h = plain_other 1 0 0 Illegal rs n h zero-le (λ a b. omega arith)

plain_tra : (n : ℕ) → plain (tra_of n) ≡ true
unfolding tra_of
plain_tra n = plain_table _ n refl

plain_trr : (n : ℕ) → plain (trr_of n) ≡ true
unfolding trr_of
plain_trr n = plain_table _ n refl

plain_masked : (f : Maskable → ControlOp) (n : ℕ) → plain (masked_of f n) ≡ true
unfolding masked_of
plain_masked f n = plain_table _ n refl

plain_switch : (n : ℕ) → plain (switch_of n) ≡ true
unfolding switch_of
plain_switch n = plain_table _ n refl

plain_transfer : (w : ℕ) → plain (transfer_of w) ≡ true
unfolding transfer_of
plain_transfer w = plain_table _ (w % 8) refl

plain_srb : (w : ℕ) → plain (srb_of w) ≡ true
unfolding srb_of
plain_srb w = either (λ (i : Instruction). plain i ≡ true) (eqb (w % 8) 2) refl refl

plain_lrb : (w : ℕ) → plain (lrb_of w) ≡ true
unfolding lrb_of
plain_lrb w = either (λ (i : Instruction). plain i ≡ true) (eqb (w % 8) 0) refl refl

plain_shift : (w : ℕ) → plain (shift_of w) ≡ true
unfolding shift_of
plain_shift w = either (λ (i : Instruction). plain i ≡ true) (eqb (bit 6 w) 0) refl refl

pub not_exr : (w : ℕ) → (w / 64 ≡ 0o1406 → ⊥) → (s : Register) → decode w ≡ Execute s → ⊥
unfolding decode
not_exr w o s e =
    let h : plain_but 0o140600 0o140700 0 Illegal (rows w) ≡ true =
    simp (plain_transfer, plain_tra, plain_trr, plain_masked, plain_switch, plain_srb, plain_lrb, plain_shift) in
    no_both (sym (ap plain e) ∙ plain_other 0o140600 0o140700 0 Illegal (rows w) w h zero-le (λ a b. o (omega arith)))

-- .. and each of its row is
pub exr : (w : ℕ) → w / 64 ≡ 0o1406 → decode w ≡ Execute (source_of w)
unfolding class_of by_code by_number
exr w h = by_class_law w ∙ ap (λ (n : ℕ). by_class (class_of n) w) h
