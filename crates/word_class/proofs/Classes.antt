-- The classes by their first codes, and the decoder's rows by the classes.
-- Assumes nothing.
use Prim.Native.Nat.{ℕ, ◌+◌, ◌*◌, ◌/◌, ◌≤◌, ◌<◌}
use native.Mathlib.Decide.{dec_lt}
use native.Mathlib.Omega.{arith}
use mathlib.Core.Path.{◌≡◌, refl, sym, ap, ◌∙◌}
use mathlib.Core.List.{List, [], ◌∷◌}
use mathlib.Core.Bool.{Bool, true}
use lib.ListN.{get_or}
use lib.Dec.{eqb}
use borrow.Author.Tests.{lt-ltb, le-ltb, eqb-true}
use Rattle.isa.specs.Decode.{by_code, decode}
use Rattle.word_class.specs.declared.Class.{Class}
use Rattle.isa.specs.declared.instruction.MemoryOp.TheVariants.{Stz, Sta, Stt, Stx, Std, Ldd, Stf, Ldf, Min, Lda, Ldt}
use Rattle.isa.specs.declared.instruction.MemoryOp.TheVariants.{Ldx, Add, Sub, And, Ora, Mpy, Jmp, Jpl}
use Rattle.isa.specs.declared.instruction.Relation.TheVariants.{Eql, Geq, Gre, Mgre, Ueq, Lss, Lst, Mlst}
use Rattle.isa.specs.declared.instruction.LogicOp.TheVariants.{Swap, Rand, Rexo, Rora}
use Rattle.isa.specs.declared.instruction.CarryIn.TheVariants.{NoCarry, One, Previous}
use Rattle.word_class.specs.declared.Class.TheVariants.{Memory, ConditionalJump, Skip, Exr, Rmpy, Rdiv, Lbyt, Sbyt}
use Rattle.word_class.specs.declared.Class.TheVariants.{Mix3, Transfer, Ident, Logic, RegisterAdd, NoOperation, Tra}
use Rattle.word_class.specs.declared.Class.TheVariants.{Trr, Mcl, Mst, Switch, Wait, Srb, Lrb, Mon, Irw, Irr, Shift}
use Rattle.word_class.specs.declared.Class.TheVariants.{Iox, SetArgument, AddArgument, Bit, Illegal}
use Rattle.word_class.specs.Classes.{number, illegal_class, class_rows, class_of, by_class, DecodesByClass}
use Rattle.word_class.proofs.Codes.{lookup, computed, unbroken, same, Excluded, unserved, no_code}

-- the class of the numbers from lo to e
pub class_from : (lo e n : ℕ) → unbroken class_rows lo e ≡ true → lo ≤ n → n < e
    → lookup illegal_class class_rows lo ≡ class_of n
unfolding class_of
class_from lo e n p l h = computed illegal_class class_rows lo ∙ same lo e illegal_class class_rows n p l h

-- ---- the numbers tell the classes apart

-- the classes in the order of their numbers
abbrev classes : List Class
classes =
    Memory Stz ∷ Memory Sta ∷ Memory Stt ∷ Memory Stx ∷ Memory Std ∷ Memory Ldd ∷ Memory Stf ∷ Memory Ldf
    ∷ Memory Min ∷ Memory Lda ∷ Memory Ldt ∷ Memory Ldx ∷ Memory Add ∷ Memory Sub ∷ Memory And ∷ Memory Ora
    ∷ Memory Mpy ∷ Memory Jmp ∷ ConditionalJump ∷ Memory Jpl ∷ Skip Eql ∷ Skip Geq ∷ Exr ∷ Skip Gre ∷ Rmpy
    ∷ Skip Mgre ∷ Rdiv ∷ Skip Ueq ∷ Lbyt ∷ Skip Lss ∷ Sbyt ∷ Skip Lst ∷ Mix3 ∷ Transfer ∷ Skip Mlst ∷ Ident
    ∷ Logic Swap ∷ Logic Rand ∷ Logic Rexo ∷ Logic Rora ∷ RegisterAdd NoCarry ∷ RegisterAdd One
    ∷ RegisterAdd Previous ∷ NoOperation ∷ Tra ∷ Trr ∷ Mcl ∷ Mst ∷ Switch ∷ Wait ∷ Srb ∷ Lrb ∷ Mon ∷ Irw ∷ Irr
    ∷ Shift ∷ Iox ∷ SetArgument ∷ AddArgument ∷ Bit ∷ Illegal ∷ []

numbered : (c : Class) → get_or classes (number c) Illegal ≡ c
numbered (Memory Stz) = refl
numbered (Memory Sta) = refl
numbered (Memory Stt) = refl
numbered (Memory Stx) = refl
numbered (Memory Std) = refl
numbered (Memory Ldd) = refl
numbered (Memory Stf) = refl
numbered (Memory Ldf) = refl
numbered (Memory Min) = refl
numbered (Memory Lda) = refl
numbered (Memory Ldt) = refl
numbered (Memory Ldx) = refl
numbered (Memory Add) = refl
numbered (Memory Sub) = refl
numbered (Memory And) = refl
numbered (Memory Ora) = refl
numbered (Memory Mpy) = refl
numbered (Memory Jmp) = refl
numbered ConditionalJump = refl
numbered (Memory Jpl) = refl
numbered (Skip Eql) = refl
numbered (Skip Geq) = refl
numbered Exr = refl
numbered (Skip Gre) = refl
numbered Rmpy = refl
numbered (Skip Mgre) = refl
numbered Rdiv = refl
numbered (Skip Ueq) = refl
numbered Lbyt = refl
numbered (Skip Lss) = refl
numbered Sbyt = refl
numbered (Skip Lst) = refl
numbered Mix3 = refl
numbered Transfer = refl
numbered (Skip Mlst) = refl
numbered Ident = refl
numbered (Logic Swap) = refl
numbered (Logic Rand) = refl
numbered (Logic Rexo) = refl
numbered (Logic Rora) = refl
numbered (RegisterAdd NoCarry) = refl
numbered (RegisterAdd One) = refl
numbered (RegisterAdd Previous) = refl
numbered NoOperation = refl
numbered Tra = refl
numbered Trr = refl
numbered Mcl = refl
numbered Mst = refl
numbered Switch = refl
numbered Wait = refl
numbered Srb = refl
numbered Lrb = refl
numbered Mon = refl
numbered Irw = refl
numbered Irr = refl
numbered Shift = refl
numbered Iox = refl
numbered SetArgument = refl
numbered AddArgument = refl
numbered Bit = refl
numbered Illegal = refl

pub same_number : (c d : Class) → eqb (number c) (number d) ≡ true → c ≡ d
same_number c d h =
    sym (numbered c)
    ∙ ap (λ (n : ℕ). get_or classes n Illegal) (eqb-true (number c) (number d) h)
    ∙ numbered d

abbrev is_illegal : Class → Bool
is_illegal c = eqb (number illegal_class) (number c)

-- no class: the k numbers from lo that are not among xs
pub no_class : (xs : List ℕ) (lo k n : ℕ) (Known : Type 0)
    → unserved illegal_class is_illegal class_rows xs lo k ≡ true → Excluded Known xs n
    → lo ≤ n → n < lo + k → illegal_class ≡ class_of n
unfolding class_of
no_class = no_code illegal_class is_illegal class_rows (same_number illegal_class)

-- A table whose codes are 64 times as large and whose values are made by g gives for n what g makes of the value for
-- n / 64.
module _ {A B : Type 0} (g : A → B) where
  abbrev scaled : List (ℕ × A) → List (ℕ × B)
  scaled [] = []
  scaled (r ∷ rs) = (r.0 * 64, g r.1) ∷ scaled rs

  scaled_code : (d : A) (rs : List (ℕ × A)) (n : ℕ) → by_code (g d) (scaled rs) n ≡ g (by_code d rs (n / 64))
  unfolding by_code
  scaled_code d [] n = refl
  scaled_code d (r ∷ rs) n = go (dec_lt (n / 64) r.0) (scaled_code r.1 rs n)
    where
      go : Dec (n / 64 < r.0) → by_code (g r.1) (scaled rs) n ≡ g (by_code r.1 rs (n / 64))
          → by_code (g d) (scaled (r ∷ rs)) n ≡ g (by_code d (r ∷ rs) (n / 64))
      go (yes b) q =
          let below : n < r.0 * 64 = omega arith in
          simp (lt-ltb n (r.0 * 64) below, lt-ltb (n / 64) r.0 b)
      go (no b) q =
          let above : r.0 * 64 ≤ n = omega arith in
          let from : r.0 ≤ n / 64 = omega arith in
          simp (le-ltb n (r.0 * 64) above, le-ltb (n / 64) r.0 from) q

-- the decoder's rows are those of the classes
pub by_class_law : DecodesByClass
unfolding decode class_of
by_class_law w = scaled_code (λ (c : Class). by_class c w) illegal_class class_rows w
