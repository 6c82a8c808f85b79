-- The class of an instruction word by its top ten bits, and what a word of a class stands for.
use Rattle.std.specs.Prelude.{ℕ, zero, suc, ◌/◌, ◌%◌, ◌<◌, ◌≡◌, Bool, true, false, ◌&&◌, List, [], ◌∷◌}
use Rattle.std.specs.Prelude.{eqb, length, get_or}
use Rattle.isa.specs.Decode.{by_code, decode, memory, skip, logic, adding, control, tra_of, trr_of, masked_of}
use Rattle.isa.specs.Decode.{switch_of, transfer_of, srb_of, lrb_of, shift_of, condition_of, displacement_of, source_of}
use Rattle.isa.specs.Decode.{destination_of, four_of, argument_of, bit_op_of}
use Rattle.isa.specs.declared.instruction.MemoryOp.TheVariants.{Stz, Sta, Stt, Stx, Std, Ldd, Stf, Ldf, Min, Lda, Ldt}
use Rattle.isa.specs.declared.instruction.MemoryOp.TheVariants.{Ldx, Add, Sub, And, Ora, Mpy, Jmp, Jpl}
use Rattle.isa.specs.declared.instruction.Relation.TheVariants.{Eql, Geq, Gre, Mgre, Ueq, Lss, Lst, Mlst}
use Rattle.isa.specs.declared.instruction.LogicOp.TheVariants.{Swap, Rand, Rexo, Rora}
use Rattle.isa.specs.declared.instruction.CarryIn.TheVariants.{NoCarry, One, Previous}
use Rattle.isa.specs.declared.instruction.User.TheVariants as user
use Rattle.isa.specs.declared.instruction.ControlOp.TheVariants as control_op
use Rattle.isa.specs.declared.instruction.System.TheVariants as system
use Rattle.isa.specs.declared.instruction.Instruction.{Instruction}
use Rattle.isa.specs.declared.instruction.Instruction.TheVariants.{Unprivileged, Privileged, Execute, Monitor}
use Rattle.isa.specs.declared.instruction.Instruction.TheVariants as instruction
use Rattle.word_class.specs.declared.Class.{Class}
use Rattle.word_class.specs.declared.Class.TheVariants.{Memory, ConditionalJump, Skip, Exr, Rmpy, Rdiv, Lbyt, Sbyt}
use Rattle.word_class.specs.declared.Class.TheVariants.{Mix3, Transfer, Ident, Logic, RegisterAdd, NoOperation, Tra}
use Rattle.word_class.specs.declared.Class.TheVariants.{Trr, Mcl, Mst, Switch, Wait, Srb, Lrb, Mon, Irw, Irr, Shift}
use Rattle.word_class.specs.declared.Class.TheVariants.{Iox, SetArgument, AddArgument, Bit, Illegal}

-- Classes are numbered in the order of the codes; the last is that of every illegal code.
abbrev pub number : Class → ℕ
number (Memory Stz) = 0
number (Memory Sta) = 1
number (Memory Stt) = 2
number (Memory Stx) = 3
number (Memory Std) = 4
number (Memory Ldd) = 5
number (Memory Stf) = 6
number (Memory Ldf) = 7
number (Memory Min) = 8
number (Memory Lda) = 9
number (Memory Ldt) = 10
number (Memory Ldx) = 11
number (Memory Add) = 12
number (Memory Sub) = 13
number (Memory And) = 14
number (Memory Ora) = 15
number (Memory Mpy) = 16
number (Memory Jmp) = 17
number ConditionalJump = 18
number (Memory Jpl) = 19
number (Skip Eql) = 20
number (Skip Geq) = 21
number Exr = 22
number (Skip Gre) = 23
number Rmpy = 24
number (Skip Mgre) = 25
number Rdiv = 26
number (Skip Ueq) = 27
number Lbyt = 28
number (Skip Lss) = 29
number Sbyt = 30
number (Skip Lst) = 31
number Mix3 = 32
number Transfer = 33
number (Skip Mlst) = 34
number Ident = 35
number (Logic Swap) = 36
number (Logic Rand) = 37
number (Logic Rexo) = 38
number (Logic Rora) = 39
number (RegisterAdd NoCarry) = 40
number (RegisterAdd One) = 41
number (RegisterAdd Previous) = 42
number NoOperation = 43
number Tra = 44
number Trr = 45
number Mcl = 46
number Mst = 47
number Switch = 48
number Wait = 49
number Srb = 50
number Lrb = 51
number Mon = 52
number Irw = 53
number Irr = 54
number Shift = 55
number Iox = 56
number SetArgument = 57
number AddArgument = 58
number Bit = 59
number Illegal = 60

abbrev pub illegal_class : Class
illegal_class = Illegal

-- The rows of Decode.rows by their classes: the first code without its last two digits, which is its top ten bits, and
-- the class, up to the next row's first code.
abbrev pub class_rows : List (ℕ × Class)
class_rows =
    (0o0000, Memory Stz)
    ∷ (0o0040, Memory Sta)
    ∷ (0o0100, Memory Stt)
    ∷ (0o0140, Memory Stx)
    ∷ (0o0200, Memory Std)
    ∷ (0o0240, Memory Ldd)
    ∷ (0o0300, Memory Stf)
    ∷ (0o0340, Memory Ldf)
    ∷ (0o0400, Memory Min)
    ∷ (0o0440, Memory Lda)
    ∷ (0o0500, Memory Ldt)
    ∷ (0o0540, Memory Ldx)
    ∷ (0o0600, Memory Add)
    ∷ (0o0640, Memory Sub)
    ∷ (0o0700, Memory And)
    ∷ (0o0740, Memory Ora)
    -- floating arithmetic
    ∷ (0o1000, illegal_class)
    ∷ (0o1200, Memory Mpy)
    ∷ (0o1240, Memory Jmp)
    -- 130000 JAP to 133400 JXN
    ∷ (0o1300, ConditionalJump)
    ∷ (0o1340, Memory Jpl)
    -- the skips, of which bits 7 and 6 are zero, and between them EXR, RMPY, RDIV, LBYT, SBYT, MIX3, LDATX to
    -- STDTX, IDENT
    ∷ (0o1400, Skip Eql)
    ∷ (0o1401, illegal_class)
    ∷ (0o1404, Skip Geq)
    ∷ (0o1405, illegal_class)
    ∷ (0o1406, Exr)
    ∷ (0o1407, illegal_class)
    ∷ (0o1410, Skip Gre)
    ∷ (0o1411, illegal_class)
    ∷ (0o1412, Rmpy)
    ∷ (0o1413, illegal_class)
    ∷ (0o1414, Skip Mgre)
    ∷ (0o1415, illegal_class)
    ∷ (0o1416, Rdiv)
    ∷ (0o1417, illegal_class)
    ∷ (0o1420, Skip Ueq)
    ∷ (0o1421, illegal_class)
    ∷ (0o1422, Lbyt)
    ∷ (0o1423, illegal_class)
    ∷ (0o1424, Skip Lss)
    ∷ (0o1425, illegal_class)
    ∷ (0o1426, Sbyt)
    ∷ (0o1427, illegal_class)
    ∷ (0o1430, Skip Lst)
    ∷ (0o1431, illegal_class)
    ∷ (0o1432, Mix3)
    ∷ (0o1433, Transfer)
    ∷ (0o1434, Skip Mlst)
    ∷ (0o1435, illegal_class)
    ∷ (0o1436, Ident)
    ∷ (0o1437, illegal_class)
    -- SWAP, RAND, REXO, RORA, RADD
    ∷ (0o1440, Logic Swap)
    ∷ (0o1444, Logic Rand)
    ∷ (0o1450, Logic Rexo)
    ∷ (0o1454, Logic Rora)
    ∷ (0o1460, RegisterAdd NoCarry)
    ∷ (0o1464, RegisterAdd One)
    ∷ (0o1470, RegisterAdd Previous)
    ∷ (0o1474, NoOperation)
    -- TRA, TRR, MCL, MST; 150400 the switches, SEX, REX, IOXT, EXAM and DEPO; WAIT
    ∷ (0o1500, Tra)
    ∷ (0o1501, Trr)
    ∷ (0o1502, Mcl)
    ∷ (0o1503, Mst)
    ∷ (0o1504, Switch)
    ∷ (0o1505, illegal_class)
    ∷ (0o1510, Wait)
    -- NLZ, DNZ
    ∷ (0o1514, illegal_class)
    -- SRB, LRB, MON, IRW, IRR; the shifts; IOX
    ∷ (0o1524, Srb)
    ∷ (0o1526, Lrb)
    ∷ (0o1530, Mon)
    ∷ (0o1534, Irw)
    ∷ (0o1536, Irr)
    ∷ (0o1540, Shift)
    ∷ (0o1600, illegal_class)
    ∷ (0o1640, Iox)
    -- SAB, SAA, SAT, SAX; AAB, AAA, AAT, AAX; 174000 BSET ZRO to 177600 BORA
    ∷ (0o1700, SetArgument)
    ∷ (0o1720, AddArgument)
    ∷ (0o1740, Bit)
    ∷ []

unfoldable pub class_of : ℕ → Class
class_of n = by_code illegal_class class_rows n

-- What a word of a class stands for.
abbrev pub by_class : Class → ℕ → Instruction
by_class (Memory o) w = memory o w
by_class ConditionalJump w = Unprivileged (user.Jump (condition_of w) (displacement_of w))
by_class (Skip r) w = skip r w
by_class Exr w = Execute (source_of w)
by_class Rmpy w = Unprivileged (user.Multiply (source_of w) (destination_of w))
by_class Rdiv w = Unprivileged (user.Divide (source_of w))
by_class Lbyt w = Unprivileged user.LoadByte
by_class Sbyt w = Unprivileged user.StoreByte
by_class Mix3 w = Unprivileged user.Mix3
by_class Transfer w = transfer_of w
by_class Ident w = Privileged (system.Ident (w % 64))
by_class (Logic o) w = logic o w
by_class (RegisterAdd c) w = adding c w
by_class NoOperation w = Unprivileged user.NoOperation
by_class Tra w = tra_of (w % 64)
by_class Trr w = trr_of (w % 64)
by_class Mcl w = masked_of control_op.Mcl (w % 64)
by_class Mst w = masked_of control_op.Mst (w % 64)
by_class Switch w = switch_of (w % 64)
by_class Wait w = control control_op.Wait
by_class Srb w = srb_of w
by_class Lrb w = lrb_of w
by_class Mon w = Monitor (displacement_of w)
by_class Irw w = Privileged (system.Irw (four_of w) (destination_of w))
by_class Irr w = Privileged (system.Irr (four_of w) (destination_of w))
by_class Shift w = shift_of w
by_class Iox w = Privileged (system.Iox (w % 2048))
by_class SetArgument w = Unprivileged (user.SetArgument (argument_of w) (displacement_of w))
by_class AddArgument w = Unprivileged (user.AddArgument (argument_of w) (displacement_of w))
by_class Bit w = Unprivileged (user.Bit (bit_op_of w) (four_of w) (destination_of w))
by_class Illegal w = instruction.Illegal

-- A word stands for what its class makes of it.
abbrev pub DecodesByClass : Type 0
DecodesByClass = (w : ℕ) → decode w ≡ by_class (class_of (w / 64)) w

-- ---- the table of the classes

-- The entries of a table are the classes of their places; past its end stands no class, but what it is read with.
pub record Sorts (t : List Class) : Type 0 where
  pub at : (n : ℕ) (past : Class) → n < length t → get_or t n past ≡ class_of n

-- The test of a table: of n entries, from the place i on, each is the class of its place.
abbrev pub agrees : ℕ → ℕ → List Class → Bool
agrees zero i t = true
agrees (suc n) i [] = false
agrees (suc n) i (c ∷ t) = eqb (number c) (number (class_of i)) && agrees n (suc i) t

-- the values of the top ten bits
abbrev pub sorted_values : ℕ
sorted_values = 1024

-- the test of a table with an entry for each of them
abbrev pub all_agree : List Class → Bool
all_agree t = agrees sorted_values 0 t
