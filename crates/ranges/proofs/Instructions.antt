-- An unprivileged instruction completes with registers in range, and with words to store.
-- Assumes nothing.
use Prim.Native.Nat.{ℕ, ◌-◌, ◌%◌, ◌<◌, min, max}
use native.Mathlib.Omega.{arith}
use mathlib.Core.Path.{◌≡◌, refl}
use mathlib.Core.Bool.{Bool, false, not, ◌&&◌}
use mathlib.Core.List.{List, [], ◌∷◌}
use lib.ListN.{get_or}
use lib.Dec.{eqb}
use lib.Bits.{and_lt, or_lt, xor_lt}
use lib.IntN.{ℤ}
use Rattle.isa.specs.Machine.{Words, reg, flag, next, flag_m}
use Rattle.isa.specs.Flags.{bits_of, complement, adder, product, product_overflow, quotient, remainder, division_fails}
use Rattle.isa.specs.Flags.{negative, shift_by, compares}
use Rattle.isa.specs.Address.{sum, first_address, effective_address}
use Rattle.isa.specs.Instructions
use Rattle.isa.specs.Instructions.{argument_register, Completed, loads, memory_completion, complete, is_zero, operand}
use Rattle.isa.specs.Instructions.{destination_operand, source_operand, carry_in, jump_if, count_x, jumped}
use Rattle.isa.specs.Instructions.{combined, added, multiplied, shift_in, shift_double, shifted, bit_completion, even_x}
use Rattle.isa.specs.Instructions.{loaded_byte, stored_byte, register_product, divided, double_of}
use Rattle.isa.specs.declared.machine.File.{File}
use Rattle.isa.specs.declared.machine.Register.{Register}
use Rattle.isa.specs.declared.machine.Register.TheVariants.{Sts, D, P, L, A, T, X}
use Rattle.isa.specs.declared.instruction.Mode.{Mode}
use Rattle.isa.specs.declared.instruction.Mode.TheVariants.{PRelative, BRelative, PIndirect, BIndirect, XRelative}
use Rattle.isa.specs.declared.instruction.Mode.TheVariants.{BIndexed, PIndirectIndexed, BIndirectIndexed}
use Rattle.isa.specs.declared.instruction.MemoryOp.{MemoryOp}
use Rattle.isa.specs.declared.instruction.MemoryOp.TheVariants.{Stz, Sta, Stt, Stx, Std, Ldd, Stf, Ldf, Min, Lda}
use Rattle.isa.specs.declared.instruction.MemoryOp.TheVariants.{Ldt, Ldx, Add, Sub, And, Ora, Mpy, Jmp, Jpl}
use Rattle.isa.specs.declared.instruction.Condition.{Condition}
use Rattle.isa.specs.declared.instruction.Condition.TheVariants.{Jap, Jan, Jaz, Jaf, Jpc, Jnc, Jxz, Jxn}
use Rattle.isa.specs.declared.instruction.LogicOp.{LogicOp}
use Rattle.isa.specs.declared.instruction.LogicOp.TheVariants.{Swap, Rand, Rexo, Rora}
use Rattle.isa.specs.declared.instruction.CarryIn.{CarryIn}
use Rattle.isa.specs.declared.instruction.CarryIn.TheVariants.{NoCarry, One, Previous}
use Rattle.isa.specs.declared.instruction.ShiftKind.{ShiftKind}
use Rattle.isa.specs.declared.instruction.Shiftable.{Shiftable}
use Rattle.isa.specs.declared.instruction.Shiftable.TheVariants.{Sht, Shd, Sha, Sad}
use Rattle.isa.specs.declared.instruction.Argument.{Argument}
use Rattle.isa.specs.declared.instruction.Argument.TheVariants.{ArgumentB, ArgumentA, ArgumentT, ArgumentX}
use Rattle.isa.specs.declared.instruction.BitOp.{BitOp}
use Rattle.isa.specs.declared.instruction.BitOp.TheVariants.{SetZero, SetOne, SetComplement, SetK, SkipZero, SkipOne}
use Rattle.isa.specs.declared.instruction.BitOp.TheVariants.{SkipComplement, SkipK, Bstc, Bsta, Bldc, Blda, Banc}
use Rattle.isa.specs.declared.instruction.BitOp.TheVariants.{Band, Borc, Bora}
use Rattle.isa.specs.declared.instruction.User.{User}
use Rattle.isa.specs.declared.instruction.User.TheVariants.{Memory, Jump, Skip, Logic, RegisterAdd, NoOperation}
use Rattle.isa.specs.declared.instruction.User.TheVariants.{Shift, SetArgument, AddArgument, Bit, LoadByte}
use Rattle.isa.specs.declared.instruction.User.TheVariants.{StoreByte, Mix3, Multiply, Divide}
use Rattle.isa.proofs.Tests.{either, decided}
use Rattle.ranges.proofs.Places.{nil_words, cons_words}
use Rattle.isa.proofs.Signed.{bits_below}
use Rattle.isa.proofs.Signs.{sum_carry}
use Rattle.isa.proofs.Shifts.{Narrow, shift_narrow}
use Rattle.ranges.proofs.Files.{FileFits, reg_word, sts_flags, bit_two, operand_word, with_word, with_sts_law}
use Rattle.ranges.proofs.Files.{flag_fits, next_fits, skip_fits, result_fits, put_bit_fits, sum_value}
use Rattle.ranges.proofs.Files.{overflow_flags, takes_fits}

-- what an instruction completes with
pub record Completes (d : Completed) : Type 0 where
  pub file : FileFits d.file
  pub stores : Words d.stores

-- one word to store
abbrev one_word : (x : ℕ) → x < 65536 → Words (x ∷ [])
one_word x h = cons_words x [] h nil_words

-- no word to store
loads_completes : {f : File} → FileFits f → Completes (loads f)
loads_completes h = record { file = h; stores = nil_words }

-- ---- memory operations

-- an effective address is a word
effective_word : (m : Mode) (d : ℤ) (f : File) (i : ℕ) → i < 65536 → effective_address m d f i < 65536
unfolding first_address
effective_word PRelative d f i h = omega arith
effective_word BRelative d f i h = omega arith
effective_word PIndirect d f i h = h
effective_word BIndirect d f i h = h
effective_word XRelative d f i h = omega arith
effective_word BIndexed d f i h = omega arith
effective_word PIndirectIndexed d f i h = omega arith
effective_word BIndirectIndexed d f i h = omega arith

-- A takes its sum with a word
add_fits : {f : File} → FileFits f → (b c : ℕ) → b < 65536 → c < 2
    → FileFits (Instructions.takes f A (adder (reg f A) b c))
add_fits {f} h b c p q =
    takes_fits h A (adder (reg f A) b c) refl (sum_value (reg f A) b c) (sum_carry (reg f A) b c (reg_word h A) p q)

-- A takes the low bits of a product
multiply_fits : {f : File} → FileFits f → (w : ℕ) → FileFits (multiplied f w)
multiply_fits {f} h w =
    with_word (with_sts_law h (overflow_flags (product_overflow (reg f A) w) (reg f Sts) (sts_flags h))) A refl
    (bits_below 16 (product (reg f A) w))

-- a memory operation at the address a, with the words read
memory_completes : (o : MemoryOp) {f : File} → FileFits f → (a : ℕ) (ws : List ℕ)
    → a < 65536 → Words ws → Completes (memory_completion o f a ws)
memory_completes Stz h a ws p w = record { file = h; stores = one_word 0 (omega arith) }
memory_completes Sta h a ws p w = record { file = h; stores = one_word _ (reg_word h A) }
memory_completes Stt h a ws p w = record { file = h; stores = one_word _ (reg_word h T) }
memory_completes Stx h a ws p w = record { file = h; stores = one_word _ (reg_word h X) }
memory_completes Std {f} h a ws p w =
    record { file = h; stores = cons_words _ (reg f D ∷ []) (reg_word h A) (one_word _ (reg_word h D)) }
memory_completes Ldd h a ws p w = loads_completes (with_word (with_word h A refl (w 0)) D refl (w 1))
memory_completes Stf {f} h a ws p w =
    let d : Words (reg f D ∷ []) = one_word _ (reg_word h D) in
    record {
      file = h;
      stores = cons_words _ (reg f A ∷ reg f D ∷ []) (reg_word h T) (cons_words _ (reg f D ∷ []) (reg_word h A) d);
    }
memory_completes Ldf h a ws p w =
    loads_completes (with_word (with_word (with_word h T refl (w 0)) A refl (w 1)) D refl (w 2))
memory_completes Min h a ws p w =
    record {
      file = skip_fits h (eqb (sum (get_or ws 0 0) 1) 0);
      stores = one_word (sum (get_or ws 0 0) 1) (omega arith);
    }
memory_completes Lda h a ws p w = loads_completes (with_word h A refl (w 0))
memory_completes Ldt h a ws p w = loads_completes (with_word h T refl (w 0))
memory_completes Ldx h a ws p w = loads_completes (with_word h X refl (w 0))
memory_completes Add h a ws p w = loads_completes (add_fits h _ 0 (w 0) (omega arith))
memory_completes Sub h a ws p w =
    loads_completes (add_fits h (complement (get_or ws 0 0)) 1 (omega arith) (omega arith))
memory_completes And h a ws p w = loads_completes (with_word h A refl (and_lt 16 _ _ (reg_word h A) (w 0)))
memory_completes Ora h a ws p w = loads_completes (with_word h A refl (or_lt 16 _ _ (reg_word h A) (w 0)))
memory_completes Mpy h a ws p w = loads_completes (multiply_fits h (get_or ws 0 0))
memory_completes Jmp h a ws p w = loads_completes (with_word h P refl p)
memory_completes Jpl h a ws p w = loads_completes (with_word (with_word h L refl (reg_word h P)) P refl p)

-- ---- jumps and register operations

-- a jump to a word, taken or not
jump_if_fits : {f : File} → FileFits f → (b : Bool) (a : ℕ) → a < 65536 → FileFits (jump_if b a f)
jump_if_fits h b a p = either FileFits b (with_word h P refl p) h

-- X counted
count_fits : {f : File} → FileFits f → FileFits (count_x f)
count_fits h = with_word h X refl (omega arith)

-- the conditional jumps
jump_fits : (c : Condition) {f : File} → FileFits f → (a : ℕ) → a < 65536 → FileFits (jumped c a f)
jump_fits Jap {f} h a p = jump_if_fits h (not (negative (reg f A))) a p
jump_fits Jan {f} h a p = jump_if_fits h (negative (reg f A)) a p
jump_fits Jaz {f} h a p = jump_if_fits h (eqb (reg f A) 0) a p
jump_fits Jaf {f} h a p = jump_if_fits h (not (eqb (reg f A) 0)) a p
jump_fits Jpc {f} h a p = jump_if_fits (count_fits h) (not (negative (sum (reg f X) 1))) a p
jump_fits Jnc {f} h a p = jump_if_fits (count_fits h) (negative (sum (reg f X) 1)) a p
jump_fits Jxz {f} h a p = jump_if_fits h (eqb (reg f X) 0) a p
jump_fits Jxn {f} h a p = jump_if_fits h (negative (reg f X)) a p

-- CLD's operand and CM1's are words
destination_word : {f : File} → FileFits f → (b : Bool) (d : Register) → destination_operand f b d < 65536
destination_word h b d = either (λ (v : ℕ). v < 65536) b (omega arith) (operand_word h d)

source_word : {f : File} → FileFits f → (b : Bool) (s : Register) → source_operand f b s < 65536
source_word h b s = either (λ (v : ℕ). v < 65536) b (omega arith) (operand_word h s)

-- SWAP, RAND, REXO and RORA
combine_fits : (o : LogicOp) {f : File} → FileFits f → (x y : ℕ) (s d : Register)
    → x < 65536 → y < 65536 → FileFits (combined o f x y s d)
combine_fits Swap h x y s d p q = either FileFits (is_zero d) h (result_fits (result_fits h d p) s q)
combine_fits Rand h x y s d p q = result_fits h d (and_lt 16 y x q p)
combine_fits Rexo h x y s d p q = result_fits h d (xor_lt 16 y x q p)
combine_fits Rora h x y s d p q = result_fits h d (or_lt 16 y x q p)

-- a carry in is a bit
carry_two : (c : CarryIn) (f : File) → carry_in c f < 2
carry_two NoCarry f = omega arith
carry_two One f = omega arith
carry_two Previous f = bit_two 6 (reg f Sts)

-- the adding register operations
added_fits : {f : File} → FileFits f → (d : Register) (a b c : ℕ)
    → a < 65536 → b < 65536 → c < 2 → FileFits (added f d (adder a b c))
added_fits h d a b c p q r =
    decided FileFits (is_zero d) (λ e. flag_fits h 6 0 (omega arith) (omega arith))
    (λ e. takes_fits h d (adder a b c) e (sum_value a b c) (sum_carry a b c p q r))

-- ---- shifts, bits, bytes, products and quotients

-- a register other than STS shifted, in 16 bits
shift_in_fits : {f : File} → FileFits f → (r : Register) (k : ShiftKind) (n : ℤ) → is_zero r ≡ false
    → FileFits (shift_in f r k n)
shift_in_fits {f} h r k n z =
    let s : Narrow 16 (shift_by 16 k n (record { value = reg f r; m = flag flag_m f })) =
    shift_narrow 16 (omega arith) k n _ (record { value = reg_word h r; m = bit_two 7 (reg f Sts) }) in
    with_word (flag_fits h 7 _ (omega arith) s.m) r z s.value

-- A and D shifted, in 32
shift_double_fits : {f : File} → FileFits f → (k : ShiftKind) (n : ℤ) → FileFits (shift_double f k n)
shift_double_fits {f} h k n =
    let a = reg_word h A in
    let d = reg_word h D in
    let s : Narrow 32 (shift_by 32 k n (record { value = double_of f; m = flag flag_m f })) =
    shift_narrow 32 (omega arith) k n _ (record { value = omega arith; m = bit_two 7 (reg f Sts) }) in
    let v = s.value in
    with_word (with_word (flag_fits h 7 _ (omega arith) s.m) A refl (omega arith)) D refl (omega arith)

-- the shifts
shift_fits : {f : File} → FileFits f → (t : Shiftable) (k : ShiftKind) (n : ℤ) → FileFits (shifted f t k n)
shift_fits h Sht k n = shift_in_fits h T k n refl
shift_fits h Shd k n = shift_in_fits h D k n refl
shift_fits h Sha k n = shift_in_fits h A k n refl
shift_fits h Sad k n = shift_double_fits h k n

-- the bit instructions, with bit n of r and the flag K
bit_fits : (o : BitOp) {f : File} → FileFits f → (r : Register) (n b k : ℕ)
    → n < 16 → b < 2 → k < 2 → FileFits (bit_completion o f r n b k)
bit_fits SetZero h r n b k l p q = put_bit_fits h r n 0 l (omega arith)
bit_fits SetOne h r n b k l p q = put_bit_fits h r n 1 l (omega arith)
bit_fits SetComplement h r n b k l p q = put_bit_fits h r n (1 - b) l (omega arith)
bit_fits SetK h r n b k l p q = put_bit_fits h r n k l q
bit_fits SkipZero h r n b k l p q = skip_fits h (eqb b 0)
bit_fits SkipOne h r n b k l p q = skip_fits h (eqb b 1)
bit_fits SkipComplement h r n b k l p q = h
bit_fits SkipK h r n b k l p q = skip_fits h (eqb b k)
bit_fits Bstc h r n b k l p q = flag_fits (put_bit_fits h r n (1 - k) l (omega arith)) 2 1 (omega arith) (omega arith)
bit_fits Bsta h r n b k l p q = flag_fits (put_bit_fits h r n k l q) 2 0 (omega arith) (omega arith)
bit_fits Bldc h r n b k l p q = flag_fits h 2 (1 - b) (omega arith) (omega arith)
bit_fits Blda h r n b k l p q = flag_fits h 2 b (omega arith) p
bit_fits Banc h r n b k l p q = flag_fits h 2 (min (1 - b) k) (omega arith) (omega arith)
bit_fits Band h r n b k l p q = flag_fits h 2 (min b k) (omega arith) (omega arith)
bit_fits Borc h r n b k l p q = flag_fits h 2 (max (1 - b) k) (omega arith) (omega arith)
bit_fits Bora h r n b k l p q = flag_fits h 2 (max b k) (omega arith) (omega arith)

-- the byte loaded, and the word with the byte stored
loaded_byte_word : (f : File) (w : ℕ) → w < 65536 → loaded_byte f w < 65536
loaded_byte_word f w h = either (λ (v : ℕ). v < 65536) (even_x f) (omega arith) (omega arith)

stored_byte_word : (f : File) (w : ℕ) → w < 65536 → stored_byte f w < 65536
stored_byte_word f w h = either (λ (v : ℕ). v < 65536) (even_x f) (omega arith) (omega arith)

-- A and D take the 32 bits of a product
product_fits : {f : File} → FileFits f → (s d : Register) → FileFits (register_product f s d)
product_fits {f} h s d =
    let p : bits_of 32 (product (operand f s) (operand f d)) < 4294967296 =
    bits_below 32 (product (operand f s) (operand f d)) in
    either FileFits (is_zero d) h (with_word (with_word h A refl (omega arith)) D refl (omega arith))

-- A and D take quotient and remainder, or Z is set
division_completes : {f : File} → FileFits f → (d : ℕ) → Completes (divided f d)
unfolding divided
division_completes {f} h d =
    either Completes (division_fails (double_of f) d)
    (record { file = flag_fits h 3 1 (omega arith) (omega arith); stores = nil_words })
    (loads_completes (with_word (with_word h A refl (bits_below 16 (quotient (double_of f) d))) D refl
    (bits_below 16 (remainder (double_of f) d))))

-- ---- every unprivileged instruction

-- an argument instruction does not reach STS
argument_register_law : (r : Argument) → is_zero (argument_register r) ≡ false
argument_register_law ArgumentB = refl
argument_register_law ArgumentA = refl
argument_register_law ArgumentT = refl
argument_register_law ArgumentX = refl

-- with the indirect word i and the words read
pub completes : (u : User) {f : File} (i : ℕ) (ws : List ℕ)
    → FileFits f → i < 65536 → Words ws → Completes (complete u f i ws)
completes (Memory o m d) {f} i ws h p w =
    memory_completes o (next_fits h) (effective_address m d f i) ws (effective_word m d f i p) w
completes (Jump c d) i ws h p w = loads_completes (jump_fits c (next_fits h) _ (omega arith))
completes (Skip r s d) {f} i ws h p w =
    loads_completes (skip_fits (next_fits h) (not (is_zero d) && compares r (operand (next f) d) (operand (next f) s)))
completes (Logic o cld cm1 s d) i ws h p w =
    loads_completes (combine_fits o (next_fits h) _ _ s d (source_word (next_fits h) cm1 s)
    (destination_word (next_fits h) cld d))
completes (RegisterAdd c cld cm1 s d) {f} i ws h p w =
    loads_completes (added_fits (next_fits h) d _ _ _ (destination_word (next_fits h) cld d)
    (source_word (next_fits h) cm1 s) (carry_two c f))
completes NoOperation i ws h p w = loads_completes (next_fits h)
completes (Shift t k n) i ws h p w = loads_completes (shift_fits (next_fits h) t k n)
completes (SetArgument r n) i ws h p w =
    loads_completes (with_word (next_fits h) (argument_register r) (argument_register_law r) (bits_below 16 n))
completes (AddArgument r n) {f} i ws h p w =
    let v : ℕ = reg f (argument_register r) in
    loads_completes (takes_fits (next_fits h) (argument_register r) (adder v (bits_of 16 n) 0) (argument_register_law r)
    (sum_value v (bits_of 16 n) 0)
    (sum_carry v (bits_of 16 n) 0 (reg_word h (argument_register r)) (bits_below 16 n) (omega arith)))
completes (Bit o n r) {f} i ws h p w =
    loads_completes (bit_fits o (next_fits h) r (n % 16) _ _ (omega arith) (bit_two (n % 16) (reg (next f) r))
    (bit_two 2 (reg (next f) Sts)))
completes LoadByte {f} i ws h p w =
    loads_completes (with_word (next_fits h) A refl (loaded_byte_word f (get_or ws 0 0) (w 0)))
completes StoreByte {f} i ws h p w =
    record { file = next_fits h; stores = one_word _ (stored_byte_word f (get_or ws 0 0) (w 0)) }
completes Mix3 i ws h p w = loads_completes (with_word (next_fits h) X refl (omega arith))
completes (Multiply s d) i ws h p w = loads_completes (product_fits (next_fits h) s d)
completes (Divide s) {f} i ws h p w = division_completes (next_fits h) (operand (next f) s)
