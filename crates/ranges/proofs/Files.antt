-- A level's registers in range: eight words, of which STS is below 256; and what keeps them so.
-- Assumes nothing.
use Prim.Native.Nat.{ℕ, ◌%◌, ◌<◌}
use native.Mathlib.Omega.{arith}
use mathlib.Core.Path.{◌≡◌, refl, sym, subst}
use mathlib.Core.Bool.{Bool, true, false, ◌&&◌}
use mathlib.Core.List.{[]}
use lib.Dec.{eqb, leb}
use borrow.Author.Tests.{eqb-true, eqb-false, leb-false}
use Rattle.isa.specs.Machine.{bit, with_bit, number, reg, with_reg, file_words, with_flag, next}
use Rattle.isa.specs.Flags.{Sum, adder, with_sum, with_overflow}
use Rattle.isa.specs.Instructions.{is_zero, operand, with_result, takes, put_bit, skip_if}
use Rattle.isa.specs.declared.machine.File.{File}
use Rattle.isa.specs.declared.machine.Register.{Register}
use Rattle.isa.specs.declared.machine.Register.TheVariants.{Sts, D, P, B, L, A, T, X}
use Rattle.isa.proofs.Packing.{words_with, word_of}
use Rattle.isa.proofs.Tests.{either, decided}
use Rattle.ranges.proofs.Places.{Each, set_each}
use Rattle.isa.proofs.Bits.{bit_below}

-- a word at its place among registers: every eighth is an STS
pub record Fits (i v : ℕ) : Type 0 where
  pub word : v < 65536
  pub flags : i % 8 ≡ 0 → v < 256

-- words that fit their places
pub record FileFits (f : File) : Type 0 where
  pub each : Each Fits (file_words f)

-- ---- what is read

-- a register is a word
pub reg_word : {f : File} → FileFits f → (r : Register) → reg f r < 65536
reg_word {f} h r = subst (λ (v : ℕ). v < 65536) (word_of f [] r) (h.each (number r)).word

-- STS holds eight flags
pub sts_flags : {f : File} → FileFits f → reg f Sts < 256
sts_flags h = (h.each 0).flags refl

-- a bit is 0 or 1
pub bit_two : (n w : ℕ) → bit n w < 2
bit_two n w = omega arith

-- an operand is a word, operand 0 too
pub operand_word : {f : File} → FileFits f → (r : Register) → operand f r < 65536
operand_word h r = either (λ (v : ℕ). v < 65536) (is_zero r) (omega arith) (reg_word h r)

-- ---- what is written

-- a register's number has three bits
number_below : (r : Register) → number r < 8
number_below Sts = omega arith
number_below D = omega arith
number_below P = omega arith
number_below B = omega arith
number_below L = omega arith
number_below A = omega arith
number_below T = omega arith
number_below X = omega arith

-- a register takes what fits its place
pub with_fits : {f : File} → FileFits f → (r : Register) {v : ℕ} → Fits (number r) v → FileFits (with_reg f r v)
with_fits {f} h r {v} q =
    record { each = subst (Each Fits) (sym (words_with f r v)) (set_each Fits (file_words f) (number r) v h.each q) }

-- a register other than STS takes any word
pub with_word : {f : File} → FileFits f → (r : Register) {v : ℕ} → is_zero r ≡ false → v < 65536
    → FileFits (with_reg f r v)
with_word h r {v} z q =
    let n : number r ≡ 0 → ⊥ = eqb-false (number r) 0 z in
    with_fits h r (record { word = q; flags = λ e. absurd (n (omega (arith, number_below r))) })

-- STS takes what is below 256
pub with_sts_law : {f : File} → FileFits f → {v : ℕ} → v < 256 → FileFits (with_reg f Sts v)
with_sts_law h q = with_fits h Sts (record { word = omega arith; flags = λ e. q })

-- a flag may be set or cleared
pub flag_fits : {f : File} → FileFits f → (n v : ℕ) → n < 8 → v < 2 → FileFits (with_flag n v f)
flag_fits {f} h n v l q = with_sts_law h (bit_below 8 n v (reg f Sts) l q (sts_flags h))

-- P may go one further
pub next_fits : {f : File} → FileFits f → FileFits (next f)
next_fits h = with_word h P refl (omega arith)

-- .. and again where a skip is taken
pub skip_fits : {f : File} → FileFits f → (b : Bool) → FileFits (skip_if b f)
skip_fits h b = either FileFits b (next_fits h) h

-- a result goes to no register where the destination is 0
pub result_fits : {f : File} → FileFits f → (r : Register) {v : ℕ} → v < 65536 → FileFits (with_result f r v)
result_fits h r q = decided FileFits (is_zero r) (λ e. h) (λ e. with_word h r e q)

-- bit n of a register, of STS below bit 8
pub put_bit_fits : {f : File} → FileFits f → (r : Register) (n v : ℕ) → n < 16 → v < 2 → FileFits (put_bit f r n v)
put_bit_fits {f} h r n v l q = decided FileFits (is_zero r && leb 8 n) (λ e. h) (λ e. go (is_zero r) refl e)
  where
    go : (z : Bool) → is_zero r ≡ z → (z && leb 8 n) ≡ false → FileFits (with_reg f r (with_bit n v (reg f r)))
    go true z e =
        let k : n < 8 = leb-false 8 n e in
        let w : reg f r < 256 =
        subst (λ (v : ℕ). v < 256) (word_of f [] r)
        ((h.each (number r)).flags (omega (arith, eqb-true (number r) 0 z))) in
        let b : with_bit n v (reg f r) < 256 = bit_below 8 n v (reg f r) k q w in
        with_fits h r (record { word = omega arith; flags = λ i. b })
    go false z e = with_word h r z (bit_below 16 n v (reg f r) l q (reg_word h r))

-- ---- sums

-- a sum is a word
pub sum_value : (a b c : ℕ) → (adder a b c).value < 65536
unfolding adder
sum_value a b c = omega arith

-- O and Q leave STS eight flags
pub overflow_flags : (o w : ℕ) → w < 256 → with_overflow o w < 256
unfolding with_overflow
overflow_flags o w h =
    either (λ (v : ℕ). v < 256) (eqb o 1)
    (bit_below 8 5 1 _ (omega arith) (omega arith) (bit_below 8 4 1 w (omega arith) (omega arith) h))
    (bit_below 8 5 0 w (omega arith) (omega arith) h)

-- so do C, O and Q of a sum
pub sum_flags : (s : Sum) (w : ℕ) → s.carry < 2 → w < 256 → with_sum s w < 256
unfolding with_sum
sum_flags s w c h = bit_below 8 6 s.carry _ (omega arith) c (overflow_flags s.overflow w h)

-- a register that takes a sum, and STS its flags
pub takes_fits : {f : File} → FileFits f → (r : Register) (s : Sum)
    → is_zero r ≡ false → s.value < 65536 → s.carry < 2 → FileFits (takes f r s)
takes_fits {f} h r s z v c = with_word (with_sts_law h (sum_flags s (reg f Sts) c (sts_flags h))) r z v
