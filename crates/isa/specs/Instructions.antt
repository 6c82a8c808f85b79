-- The unprivileged instructions, by document 002 where nothing else is said: the accesses that each asks for, and what
-- it makes of the words read.
use Rattle.std.specs.Prelude.{ℕ, ◌+◌, ◌-◌, ◌*◌, ◌/◌, ◌%◌, min, max, Bool, true, false, cond, not, ◌&&◌, List, [], ◌∷◌, ℤ, ◌==◌, bit_and, bit_or, bit_xor, nat_le, slice_index}
use Rattle.isa.specs.Machine.{word_range, all_ones, bit, with_bit, reg, with_reg, flag, with_flag, next, number}
use Rattle.isa.specs.Machine.{flag_k, flag_z, flag_c, flag_m}
use Rattle.isa.specs.Flags.{bits_of, complement, Sum, adder, with_sum, with_overflow, product, product_overflow}
use Rattle.isa.specs.Flags.{negative, quotient, remainder, division_fails, shift_by, compares}
use Rattle.isa.specs.Address.{sum, access, address_rule, indirect_access, effective_address, byte_address}
use Rattle.isa.specs.declared.machine.File.{File}
use Rattle.isa.specs.declared.machine.Register.{Register}
use Rattle.isa.specs.declared.machine.Register.TheVariants.{Sts, D, P, B, L, A, T, X}
use Rattle.isa.specs.declared.instruction.MemoryOp.{MemoryOp}
use Rattle.isa.specs.declared.instruction.MemoryOp.TheVariants.{Stz, Sta, Stt, Stx, Std, Ldd, Stf, Ldf, Min}
use Rattle.isa.specs.declared.instruction.MemoryOp.TheVariants.{Lda, Ldt, Ldx, Add, Sub, And, Ora, Mpy, Jmp}
use Rattle.isa.specs.declared.instruction.MemoryOp.TheVariants.{Jpl}
use Rattle.isa.specs.declared.instruction.Condition.{Condition}
use Rattle.isa.specs.declared.instruction.Condition.TheVariants.{Jap, Jan, Jaz, Jaf, Jpc, Jnc, Jxz, Jxn}
use Rattle.isa.specs.declared.instruction.LogicOp.{LogicOp}
use Rattle.isa.specs.declared.instruction.LogicOp.TheVariants.{Swap, Rand, Rexo, Rora}
use Rattle.isa.specs.declared.instruction.CarryIn.{CarryIn}
use Rattle.isa.specs.declared.instruction.CarryIn.TheVariants.{NoCarry, One, Previous}
use Rattle.isa.specs.declared.instruction.ShiftKind.{ShiftKind}
use Rattle.isa.specs.declared.instruction.Shiftable.{Shiftable}
use Rattle.isa.specs.declared.instruction.Shiftable.TheVariants.{Sht, Shd, Sha, Sad}
use Rattle.isa.specs.declared.instruction.Argument.{Argument}
use Rattle.isa.specs.declared.instruction.Argument.TheVariants.{ArgumentB, ArgumentA, ArgumentT, ArgumentX}
use Rattle.isa.specs.declared.instruction.BitOp.{BitOp}
use Rattle.isa.specs.declared.instruction.BitOp.TheVariants.{SetZero, SetOne, SetComplement, SetK, SkipZero}
use Rattle.isa.specs.declared.instruction.BitOp.TheVariants.{SkipOne, SkipComplement, SkipK, Bstc, Bsta, Bldc}
use Rattle.isa.specs.declared.instruction.BitOp.TheVariants.{Blda, Banc, Band, Borc, Bora}
use Rattle.isa.specs.declared.instruction.User.{User}
use Rattle.isa.specs.declared.instruction.User.TheVariants.{Memory, Jump, Skip, Logic, RegisterAdd}
use Rattle.isa.specs.declared.instruction.User.TheVariants.{NoOperation, Shift, SetArgument, AddArgument, Bit}
use Rattle.isa.specs.declared.instruction.User.TheVariants.{LoadByte, StoreByte, Mix3, Multiply, Divide}
use Rattle.isa.specs.declared.access.Access.{Access}
use Rattle.isa.specs.declared.access.AccessKind.{AccessKind}
use Rattle.isa.specs.declared.access.AccessKind.TheVariants.{Read, Write}

-- ---- which accesses, in order

-- one, two or three words from the address on; ruling 6: each is an access of its own, by its own address
abbrev pub one_word : AccessKind → Bool → ℕ → List Access
one_word k r a = access k r a ∷ []

abbrev pub two_words : AccessKind → Bool → ℕ → List Access
two_words k r a = access k r a ∷ access k r (sum a 1) ∷ []

abbrev pub three_words : AccessKind → Bool → ℕ → List Access
three_words k r a = access k r a ∷ access k r (sum a 1) ∷ access k r (sum a 2) ∷ []

-- "MIN and SBYT read their word and then write it: two accesses."
abbrev pub read_and_write : Bool → ℕ → List Access
read_and_write r a = access Read r a ∷ access Write r a ∷ []

-- a memory operation at its effective address, by the alternate rule or not; ruling 24: a jump makes no access at its
-- target
abbrev pub memory_request : MemoryOp → Bool → ℕ → List Access
memory_request Stz r a = one_word Write r a
memory_request Sta r a = one_word Write r a
memory_request Stt r a = one_word Write r a
memory_request Stx r a = one_word Write r a
memory_request Std r a = two_words Write r a
memory_request Ldd r a = two_words Read r a
memory_request Stf r a = three_words Write r a
memory_request Ldf r a = three_words Read r a
memory_request Min r a = read_and_write r a
memory_request Lda r a = one_word Read r a
memory_request Ldt r a = one_word Read r a
memory_request Ldx r a = one_word Read r a
memory_request Add r a = one_word Read r a
memory_request Sub r a = one_word Read r a
memory_request And r a = one_word Read r a
memory_request Ora r a = one_word Read r a
memory_request Mpy r a = one_word Read r a
memory_request Jmp r a = []
memory_request Jpl r a = []

-- the access for the indirect word, if the instruction has one
abbrev pub indirect_request : User → File → List Access
indirect_request (Memory o m d) f = indirect_access m d f
indirect_request (Jump c d) f = []
indirect_request (Skip r s d) f = []
indirect_request (Logic o cld cm1 s d) f = []
indirect_request (RegisterAdd c cld cm1 s d) f = []
indirect_request NoOperation f = []
indirect_request (Shift t k n) f = []
indirect_request (SetArgument r n) f = []
indirect_request (AddArgument r n) f = []
indirect_request (Bit o n r) f = []
indirect_request LoadByte f = []
indirect_request StoreByte f = []
indirect_request Mix3 f = []
indirect_request (Multiply s d) f = []
indirect_request (Divide s) f = []

-- the accesses after that, with the indirect word i
abbrev pub request : User → File → ℕ → List Access
request (Memory o m d) f i = memory_request o (address_rule m) (effective_address m d f i)
request (Jump c d) f i = []
request (Skip r s d) f i = []
request (Logic o cld cm1 s d) f i = []
request (RegisterAdd c cld cm1 s d) f i = []
request NoOperation f i = []
request (Shift t k n) f i = []
request (SetArgument r n) f i = []
request (AddArgument r n) f i = []
request (Bit o n r) f i = []
request LoadByte f i = one_word Read true (byte_address f)
request StoreByte f i = read_and_write true (byte_address f)
request Mix3 f i = []
request (Multiply s d) f i = []
request (Divide s) f i = []

-- ---- what is made of the words read

-- What an instruction completes with: the level's registers, the words to store, in the order of its writes, and
-- whether it gives the error interrupt, 5.
pub record Completed : Type 0 where
  pub file : File
  pub stores : List ℕ
  pub error : Bool

abbrev pub loads : File → Completed
loads f = record { file = f; stores = []; error = false }

abbrev pub storing : File → List ℕ → Completed
storing f ws = record { file = f; stores = ws; error = false }

-- "ADD, SUB (A + complement + 1), AAx and adding register operations": register r takes the sum, STS its flags
abbrev pub takes : File → Register → Sum → File
takes f r s = with_reg (with_reg f Sts (with_sum s (reg f Sts))) r s.value

-- "MPY: A gets the low 16 bits", with O and Q
abbrev pub multiplied : File → ℕ → File
multiplied f w =
    let a = reg f A in
    with_reg (with_reg f Sts (with_overflow (product_overflow a w) (reg f Sts))) A (bits_of 16 (product a w))

-- MIN: the word plus one, and a skip where that is 0. f has P one further already.
abbrev pub skip_if : Bool → File → File
skip_if c f = cond c (next f) f

abbrev pub incremented : File → ℕ → Completed
incremented f w = storing (skip_if (sum w 1 == 0) f) (sum w 1 ∷ [])

-- A memory operation in the file f, of which P is one further, with its effective address a and the words read.
-- There is one for each access of memory_request, so no default 0 of `slice_index` is taken.
abbrev pub memory_completion : MemoryOp → File → ℕ → List ℕ → Completed
memory_completion Stz f a ws = storing f (0 ∷ [])
memory_completion Sta f a ws = storing f (reg f A ∷ [])
memory_completion Stt f a ws = storing f (reg f T ∷ [])
memory_completion Stx f a ws = storing f (reg f X ∷ [])
memory_completion Std f a ws = storing f (reg f A ∷ reg f D ∷ [])
memory_completion Ldd f a ws = loads (with_reg (with_reg f A (slice_index ws 0)) D (slice_index ws 1))
memory_completion Stf f a ws = storing f (reg f T ∷ reg f A ∷ reg f D ∷ [])
memory_completion Ldf f a ws =
    loads (with_reg (with_reg (with_reg f T (slice_index ws 0)) A (slice_index ws 1)) D (slice_index ws 2))
memory_completion Min f a ws = incremented f (slice_index ws 0)
memory_completion Lda f a ws = loads (with_reg f A (slice_index ws 0))
memory_completion Ldt f a ws = loads (with_reg f T (slice_index ws 0))
memory_completion Ldx f a ws = loads (with_reg f X (slice_index ws 0))
memory_completion Add f a ws = loads (takes f A (adder (reg f A) (slice_index ws 0) 0))
memory_completion Sub f a ws = loads (takes f A (adder (reg f A) (complement (slice_index ws 0)) 1))
memory_completion And f a ws = loads (with_reg f A (bit_and (reg f A) (slice_index ws 0)))
memory_completion Ora f a ws = loads (with_reg f A (bit_or (reg f A) (slice_index ws 0)))
memory_completion Mpy f a ws = loads (multiplied f (slice_index ws 0))
memory_completion Jmp f a ws = loads (with_reg f P a)
memory_completion Jpl f a ws = loads (with_reg (with_reg f L (reg f P)) P a)

-- Conditional jumps, by A or X; JPC and JNC count X first.
abbrev pub count_x : File → File
count_x f = with_reg f X (sum (reg f X) 1)

abbrev pub jump_if : Bool → ℕ → File → File
jump_if c a f = cond c (with_reg f P a) f

-- f has P one further; a is the target
abbrev pub jumped : Condition → ℕ → File → File
jumped Jap a f = jump_if (not (negative (reg f A))) a f
jumped Jan a f = jump_if (negative (reg f A)) a f
jumped Jaz a f = jump_if (reg f A == 0) a f
jumped Jaf a f = jump_if (not (reg f A == 0)) a f
jumped Jpc a f = jump_if (not (negative (sum (reg f X) 1))) a (count_x f)
jumped Jnc a f = jump_if (negative (sum (reg f X) 1)) a (count_x f)
jumped Jxz a f = jump_if (reg f X == 0) a f
jumped Jxn a f = jump_if (negative (reg f X)) a f

-- "read as a register operand it is one further, unless document 002 says otherwise": so f has P one further. Ruling
-- 15: operand 0 is the value 0, not STS.
abbrev pub is_zero : Register → Bool
is_zero r = number r == 0

abbrev pub operand : File → Register → ℕ
operand f r = cond (is_zero r) 0 (reg f r)

-- a result to a register; ruling 16: destination 0 takes none
abbrev pub with_result : File → Register → ℕ → File
with_result f r v = cond (is_zero r) f (with_reg f r v)

-- CLD: zero in place of the destination operand; CM1: the complement of the source
abbrev pub destination_operand : File → Bool → Register → ℕ
destination_operand f cld d = cond cld 0 (operand f d)

abbrev pub source_operand : File → Bool → Register → ℕ
source_operand f cm1 s = cond cm1 (complement (operand f s)) (operand f s)

-- Ruling 17: SWAP writes the destination, then the source; ruling 16: with destination 0 it does nothing. RAND, REXO
-- and RORA write the destination. x is the source operand, y the destination operand.
abbrev pub combined : LogicOp → File → ℕ → ℕ → Register → Register → File
combined Swap f x y s d = cond (is_zero d) f (with_result (with_result f d x) s y)
combined Rand f x y s d = with_result f d (bit_and y x)
combined Rexo f x y s d = with_result f d (bit_xor y x)
combined Rora f x y s d = with_result f d (bit_or y x)

-- AD1 adds one, ADC the carry flag
abbrev pub carry_in : CarryIn → File → ℕ
carry_in NoCarry f = 0
carry_in One f = 1
carry_in Previous f = flag flag_c f

-- ruling 16: with destination 0 an adding operation clears C and changes nothing else
abbrev pub added : File → Register → Sum → File
added f d s = cond (is_zero d) (with_flag flag_c 0 f) (takes f d s)

-- shifts of one register, and of A and D as one double word
abbrev pub shift_in : File → Register → ShiftKind → ℤ → File
shift_in f r k n =
    let s = shift_by 16 k n (record { value = reg f r; m = flag flag_m f }) in
    with_reg (with_flag flag_m s.m f) r s.value

abbrev pub shift_double : File → ShiftKind → ℤ → File
shift_double f k n =
    let s = shift_by 32 k n (record { value = reg f A * word_range + reg f D; m = flag flag_m f }) in
    with_reg (with_reg (with_flag flag_m s.m f) A (s.value / word_range)) D (s.value % word_range)

abbrev pub shifted : File → Shiftable → ShiftKind → ℤ → File
shifted f Sht k n = shift_in f T k n
shifted f Shd k n = shift_in f D k n
shifted f Sha k n = shift_in f A k n
shifted f Sad k n = shift_double f k n

-- the register of an argument instruction
abbrev pub argument_register : Argument → Register
argument_register ArgumentB = B
argument_register ArgumentA = A
argument_register ArgumentT = T
argument_register ArgumentX = X

-- Bit instructions: bit n of register r. "bits 8 to 15 of the full status word are control state, and bit instructions
-- never write them"; ruling 20: register 0 is the file's STS.
abbrev pub put_bit : File → Register → ℕ → ℕ → File
put_bit f r n v = cond (is_zero r && nat_le 8 n) f (with_reg f r (with_bit n v (reg f r)))

-- b is the bit, k the flag K, each 0 or 1: `1 - b` is the complement, `min` is and, `max` is or. Ruling 19: BSKP BCM
-- never skips; BSTC and BSTA write the bit, then K.
abbrev pub bit_completion : BitOp → File → Register → ℕ → ℕ → ℕ → File
bit_completion SetZero f r n b k = put_bit f r n 0
bit_completion SetOne f r n b k = put_bit f r n 1
bit_completion SetComplement f r n b k = put_bit f r n (1 - b)
bit_completion SetK f r n b k = put_bit f r n k
bit_completion SkipZero f r n b k = skip_if (b == 0) f
bit_completion SkipOne f r n b k = skip_if (b == 1) f
bit_completion SkipComplement f r n b k = f
bit_completion SkipK f r n b k = skip_if (b == k) f
bit_completion Bstc f r n b k = with_flag flag_k 1 (put_bit f r n (1 - k))
bit_completion Bsta f r n b k = with_flag flag_k 0 (put_bit f r n k)
bit_completion Bldc f r n b k = with_flag flag_k (1 - b) f
bit_completion Blda f r n b k = with_flag flag_k b f
bit_completion Banc f r n b k = with_flag flag_k (min (1 - b) k) f
bit_completion Band f r n b k = with_flag flag_k (min b k) f
bit_completion Borc f r n b k = with_flag flag_k (max (1 - b) k) f
bit_completion Bora f r n b k = with_flag flag_k (max b k) f

-- A bit's number is below 16, since it is four bits of the instruction (Decode.four_of); `% 16` only makes the
-- definition total, as the type of a decoded instruction allows any number.
abbrev pub bit_done : BitOp → File → ℕ → Register → File
bit_done o f n r = bit_completion o f r (n % 16) (bit (n % 16) (reg f r)) (flag flag_k f)

-- "the even X being the upper byte"; a byte is below 256
abbrev pub byte_range : ℕ
byte_range = 256

abbrev pub even_x : File → Bool
even_x f = reg f X % 2 == 0

abbrev pub loaded_byte : File → ℕ → ℕ
loaded_byte f w = cond (even_x f) (w / byte_range) (w % byte_range)

abbrev pub stored_byte : File → ℕ → ℕ
stored_byte f w =
    cond (even_x f) (reg f A % byte_range * byte_range + w % byte_range)
    (w / byte_range * byte_range + reg f A % byte_range)

-- MIX3: X is (A - 1) * 3 in 16 bits, where A - 1 is A + 177777; ruling 18: no flag changes
abbrev pub mixed : File → File
mixed f = with_reg f X ((reg f A + all_ones) * 3 % word_range)

-- RMPY: the 32 bits of the signed product in A and D; ruling 16: with destination 0 it does nothing; ruling 18: no flag
-- changes
abbrev pub register_product : File → Register → Register → File
register_product f s d =
    let p = bits_of 32 (product (operand f s) (operand f d)) in
    cond (is_zero d) f (with_reg (with_reg f A (p / word_range)) D (p % word_range))

-- RDIV: A and D by the source; a failing one "sets Z, leaves A and D, and gives interrupt 5"; ruling 18: no other flag
-- changes
abbrev pub double_of : File → ℕ
double_of f = reg f A * word_range + reg f D

unfoldable pub divided : File → ℕ → Completed
divided f d =
    let n = double_of f in
    cond (division_fails n d) (record { file = with_flag flag_z 1 f; stores = []; error = true })
    (loads (with_reg (with_reg f A (bits_of 16 (quotient n d))) D (bits_of 16 (remainder n d))))

-- The completion of an unprivileged instruction in the file f, with the indirect word i and the words read. Each begins
-- with P one further; the effective address and a jump's target count from the instruction's own address. Ruling 16:
-- with destination 0 a skip does nothing. Ruling 14: NoOperation is an adding operation with both ADC and AD1.
abbrev pub complete : User → File → ℕ → List ℕ → Completed
complete (Memory o m d) f i ws = memory_completion o (next f) (effective_address m d f i) ws
complete (Jump c d) f i ws = loads (jumped c (sum (reg f P) (bits_of 16 d)) (next f))
complete (Skip r s d) f i ws =
    loads (skip_if (not (is_zero d) && compares r (operand (next f) d) (operand (next f) s)) (next f))
complete (Logic o cld cm1 s d) f i ws =
    loads (combined o (next f) (source_operand (next f) cm1 s) (destination_operand (next f) cld d) s d)
complete (RegisterAdd c cld cm1 s d) f i ws =
    loads (added (next f) d (adder (destination_operand (next f) cld d) (source_operand (next f) cm1 s) (carry_in c f)))
complete NoOperation f i ws = loads (next f)
complete (Shift t k n) f i ws = loads (shifted (next f) t k n)
complete (SetArgument r n) f i ws = loads (with_reg (next f) (argument_register r) (bits_of 16 n))
complete (AddArgument r n) f i ws =
    loads (takes (next f) (argument_register r) (adder (reg f (argument_register r)) (bits_of 16 n) 0))
complete (Bit o n r) f i ws = loads (bit_done o (next f) n r)
complete LoadByte f i ws = loads (with_reg (next f) A (loaded_byte f (slice_index ws 0)))
complete StoreByte f i ws = storing (next f) (stored_byte f (slice_index ws 0) ∷ [])
complete Mix3 f i ws = loads (mixed (next f))
complete (Multiply s d) f i ws = loads (register_product (next f) s d)
complete (Divide s) f i ws = divided (next f) (operand (next f) s)
