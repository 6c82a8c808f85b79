-- Document 01, "Decoding and addresses": the sixteen-bit word is sorted by its top ten bits, then where needed by its
-- low six. Codes are in octal, as document 002 prints them.
use Rattle.std.specs.Prelude.{ℕ, zero, suc, ◌/◌, ◌%◌, Bool, cond, List, [], ◌∷◌, ℤ, ◌==◌, nat_lt}
use Rattle.isa.specs.Flags.{signed_of}
use Rattle.isa.specs.Machine.{bit}
use Rattle.isa.specs.declared.machine.Register.{Register}
use Rattle.isa.specs.declared.machine.Register.TheVariants.{Sts, D, P, B, L, A, T, X}
use Rattle.isa.specs.declared.instruction.Mode.{Mode}
use Rattle.isa.specs.declared.instruction.Mode.TheVariants.{PRelative, BRelative, PIndirect, BIndirect}
use Rattle.isa.specs.declared.instruction.Mode.TheVariants.{XRelative, BIndexed, PIndirectIndexed}
use Rattle.isa.specs.declared.instruction.Mode.TheVariants.{BIndirectIndexed}
use Rattle.isa.specs.declared.instruction.MemoryOp.{MemoryOp}
use Rattle.isa.specs.declared.instruction.MemoryOp.TheVariants.{Stz, Sta, Stt, Stx, Std, Ldd, Stf, Ldf, Min}
use Rattle.isa.specs.declared.instruction.MemoryOp.TheVariants.{Lda, Ldt, Ldx, Add, Sub, And, Ora, Mpy, Jmp}
use Rattle.isa.specs.declared.instruction.MemoryOp.TheVariants.{Jpl}
use Rattle.isa.specs.declared.instruction.Condition.{Condition}
use Rattle.isa.specs.declared.instruction.Condition.TheVariants.{Jap, Jan, Jaz, Jaf, Jpc, Jnc, Jxz, Jxn}
use Rattle.isa.specs.declared.instruction.Relation.{Relation}
use Rattle.isa.specs.declared.instruction.Relation.TheVariants.{Eql, Geq, Gre, Mgre, Ueq, Lss, Lst, Mlst}
use Rattle.isa.specs.declared.instruction.LogicOp.{LogicOp}
use Rattle.isa.specs.declared.instruction.LogicOp.TheVariants.{Swap, Rand, Rexo, Rora}
use Rattle.isa.specs.declared.instruction.CarryIn.{CarryIn}
use Rattle.isa.specs.declared.instruction.CarryIn.TheVariants.{NoCarry, One, Previous}
use Rattle.isa.specs.declared.instruction.ShiftKind.{ShiftKind}
use Rattle.isa.specs.declared.instruction.ShiftKind.TheVariants.{Arithmetic, Rotational, ZeroInput, LinkInput}
use Rattle.isa.specs.declared.instruction.Shiftable.{Shiftable}
use Rattle.isa.specs.declared.instruction.Shiftable.TheVariants.{Sht, Shd, Sha, Sad}
use Rattle.isa.specs.declared.instruction.Argument.{Argument}
use Rattle.isa.specs.declared.instruction.Argument.TheVariants.{ArgumentB, ArgumentA, ArgumentT, ArgumentX}
use Rattle.isa.specs.declared.instruction.BitOp.{BitOp}
use Rattle.isa.specs.declared.instruction.BitOp.TheVariants.{SetZero, SetOne, SetComplement, SetK, SkipZero}
use Rattle.isa.specs.declared.instruction.BitOp.TheVariants.{SkipOne, SkipComplement, SkipK, Bstc, Bsta, Bldc}
use Rattle.isa.specs.declared.instruction.BitOp.TheVariants.{Blda, Banc, Band, Borc, Bora}
use Rattle.isa.specs.declared.instruction.User.TheVariants.{Memory, Jump, Skip, Logic, RegisterAdd}
use Rattle.isa.specs.declared.instruction.User.TheVariants.{NoOperation, Shift, SetArgument, AddArgument, Bit}
use Rattle.isa.specs.declared.instruction.User.TheVariants.{LoadByte, StoreByte, Mix3, Multiply, Divide}
use Rattle.isa.specs.declared.instruction.Readable.TheVariants.{Status, Pgs, Pvl, Iic, Pid, Pie, Actl}
use Rattle.isa.specs.declared.instruction.Writable.TheVariants.{Status as ToStatus, Iie as ToIie, Pid as ToPid}
use Rattle.isa.specs.declared.instruction.Writable.TheVariants.{Pie as ToPie}
use Rattle.isa.specs.declared.instruction.Maskable.{Maskable}
use Rattle.isa.specs.declared.instruction.Maskable.TheVariants.{Status as InStatus, Pid as InPid, Pie as InPie}
use Rattle.isa.specs.declared.instruction.ControlOp.{ControlOp}
use Rattle.isa.specs.declared.instruction.ControlOp.TheVariants.{Ion, Iof, Pon, Pof, Pion, Piof, Sex, Rex}
use Rattle.isa.specs.declared.instruction.ControlOp.TheVariants.{Wait, Tra, Trr, Mcl, Mst}
use Rattle.isa.specs.declared.instruction.System.TheVariants.{Control, TraPgc, TrrPcr, Irr, Irw, Srb, Lrb}
use Rattle.isa.specs.declared.instruction.System.TheVariants.{Exam, Depo, Physical, Iox, Ioxt, Ident}
use Rattle.isa.specs.declared.instruction.Transfer.TheVariants.{Ldatx, Ldxtx, Lddtx, Ldbtx, Statx, Stztx}
use Rattle.isa.specs.declared.instruction.Transfer.TheVariants.{Stdtx}
use Rattle.isa.specs.declared.instruction.Instruction.{Instruction}
use Rattle.isa.specs.declared.instruction.Instruction.TheVariants.{Unprivileged, Privileged, Execute, Monitor}
use Rattle.isa.specs.declared.instruction.Instruction.TheVariants.{Illegal}

-- A table of rows (first code, value), in the order of the codes: the value of the last row whose first code is not
-- above n, and d where n is below every row.
unfoldable pub by_code : {Value : Type 0} → Value → List (ℕ × Value) → ℕ → Value
by_code d [] n = d
by_code d (r ∷ rs) n = cond (nat_lt n r.0) d (by_code r.1 rs n)

-- A field's values in the order of their numbers, from v at 0: the value at n, past the last number the last value.
unfoldable pub by_number : {Value : Type 0} → Value → List Value → ℕ → Value
by_number v [] n = v
by_number v (x ∷ xs) zero = v
by_number v (x ∷ xs) (suc n) = by_number x xs n

-- "A memory operation carries one of eight address modes, from bits 10 (X), 9 (I), 8 (B)", as the table in document
-- 002.
abbrev pub mode_of : ℕ → Mode
mode_of w =
    by_number
    PRelative
    (BRelative ∷ PIndirect ∷ BIndirect ∷ XRelative ∷ BIndexed ∷ PIndirectIndexed ∷ BIndirectIndexed ∷ [])
    (w / 256 % 8)

-- ".. and a displacement of -128 to 127 in bits 7-0"; so MON's number and the argument instructions' numbers
abbrev pub displacement_of : ℕ → ℤ
displacement_of w = signed_of 8 (w % 256)

-- "The shift count is bits 5-0, -32 to 31"
abbrev pub count_of : ℕ → ℤ
count_of w = signed_of 6 (w % 64)

-- "eight registers of 16 bits numbered STS 0, D 1, P 2, B 3, L 4, A 5, T 6, X 7": a destination in bits 2-0, a source
-- in bits 5-3
abbrev pub register_of : ℕ → Register
register_of n = by_number Sts (D ∷ P ∷ B ∷ L ∷ A ∷ T ∷ X ∷ []) n

abbrev pub destination_of : ℕ → Register
destination_of w = register_of (w % 8)

abbrev pub source_of : ℕ → Register
source_of w = register_of (w / 8 % 8)

-- a level, or a bit's number, in bits 6-3
abbrev pub four_of : ℕ → ℕ
four_of w = w / 8 % 16

-- CLD is bit 6, CM1 is bit 7
abbrev pub cld_of : ℕ → Bool
cld_of w = bit 6 w == 1

abbrev pub cm1_of : ℕ → Bool
cm1_of w = bit 7 w == 1

-- the conditional jumps by bits 10-8
abbrev pub condition_of : ℕ → Condition
condition_of w = by_number Jap (Jan ∷ Jaz ∷ Jaf ∷ Jpc ∷ Jnc ∷ Jxz ∷ Jxn ∷ []) (w / 256 % 8)

-- the argument instructions by bits 9-8
abbrev pub argument_of : ℕ → Argument
argument_of w = by_number ArgumentB (ArgumentA ∷ ArgumentT ∷ ArgumentX ∷ []) (w / 256 % 4)

-- the shift's register by bits 8-7, its kind by bits 10-9; a shift word with bit 6 set is illegal
abbrev pub shiftable_of : ℕ → Shiftable
shiftable_of w = by_number Sht (Shd ∷ Sha ∷ Sad ∷ []) (w / 128 % 4)

abbrev pub kind_of : ℕ → ShiftKind
kind_of w = by_number Arithmetic (Rotational ∷ ZeroInput ∷ LinkInput ∷ []) (w / 512 % 4)

unfoldable pub shift_of : ℕ → Instruction
shift_of w = cond (bit 6 w == 0) (Unprivileged (Shift (shiftable_of w) (kind_of w) (count_of w))) Illegal

-- the bit instructions by bits 10-7
abbrev pub bit_op_of : ℕ → BitOp
bit_op_of w =
    by_number
    SetZero
    (SetOne
    ∷ SetComplement
    ∷ SetK
    ∷ SkipZero
    ∷ SkipOne
    ∷ SkipComplement
    ∷ SkipK
    ∷ Bstc
    ∷ Bsta
    ∷ Bldc
    ∷ Blda
    ∷ Banc
    ∷ Band
    ∷ Borc
    ∷ Bora
    ∷ [])
    (w / 128 % 16)

abbrev pub control : ControlOp → Instruction
control o = Privileged (Control o)

-- "TRA, TRR, MCL and MST serve the words above; their other register numbers are illegal", by the low six bits
unfoldable pub tra_of : ℕ → Instruction
tra_of n =
    by_code Illegal
    ((0o01, control (Tra Status))
    ∷ (0o02, Illegal)
    ∷ (0o03, control (Tra Pgs))
    ∷ (0o04, control (Tra Pvl))
    ∷ (0o05, control (Tra Iic))
    ∷ (0o06, control (Tra Pid))
    ∷ (0o07, control (Tra Pie))
    ∷ (0o10, Illegal)
    ∷ (0o11, control (Tra Actl))
    ∷ (0o12, Illegal)
    ∷ (0o14, Privileged TraPgc)
    ∷ (0o15, Illegal)
    ∷ [])
    n

unfoldable pub trr_of : ℕ → Instruction
trr_of n =
    by_code Illegal
    ((0o01, control (Trr ToStatus))
    ∷ (0o02, Illegal)
    ∷ (0o03, Privileged TrrPcr)
    ∷ (0o04, Illegal)
    ∷ (0o05, control (Trr ToIie))
    ∷ (0o06, control (Trr ToPid))
    ∷ (0o07, control (Trr ToPie))
    ∷ (0o10, Illegal)
    ∷ [])
    n

-- MCL and MST, by their own constructor
unfoldable pub masked_of : (Maskable → ControlOp) → ℕ → Instruction
masked_of f n =
    by_code Illegal
    ((0o01, control (f InStatus))
    ∷ (0o02, Illegal)
    ∷ (0o06, control (f InPid))
    ∷ (0o07, control (f InPie))
    ∷ (0o10, Illegal)
    ∷ [])
    n

-- 150400 to 150477, by the low six bits
unfoldable pub switch_of : ℕ → Instruction
switch_of n =
    by_code Illegal
    ((0o01, control Iof)
    ∷ (0o02, control Ion)
    ∷ (0o03, Illegal)
    ∷ (0o04, control Pof)
    ∷ (0o05, control Piof)
    ∷ (0o06, control Sex)
    ∷ (0o07, control Rex)
    ∷ (0o10, control Pon)
    ∷ (0o11, Illegal)
    ∷ (0o12, control Pion)
    ∷ (0o13, Illegal)
    ∷ (0o15, Privileged Ioxt)
    ∷ (0o16, Privileged Exam)
    ∷ (0o17, Privileged Depo)
    ∷ (0o20, Illegal)
    ∷ [])
    n

-- Document 02, card 4, ruling R1: 143300 to 143377, LDATX 1433d0 to STDTX 1433d6 with the displacement d in bits 5-3
unfoldable pub transfer_of : ℕ → Instruction
transfer_of w =
    let d = w / 8 % 8 in
    by_code Illegal
    ((0, Privileged (Physical Ldatx d))
    ∷ (1, Privileged (Physical Ldxtx d))
    ∷ (2, Privileged (Physical Lddtx d))
    ∷ (3, Privileged (Physical Ldbtx d))
    ∷ (4, Privileged (Physical Statx d))
    ∷ (5, Privileged (Physical Stztx d))
    ∷ (6, Privileged (Physical Stdtx d))
    ∷ (7, Illegal)
    ∷ [])
    (w % 8)

-- SRB is 152402 + 010 * level, LRB 152600 + 010 * level: the low three bits decide
unfoldable pub srb_of : ℕ → Instruction
srb_of w = cond (w % 8 == 2) (Privileged (Srb (four_of w))) Illegal

unfoldable pub lrb_of : ℕ → Instruction
lrb_of w = cond (w % 8 == 0) (Privileged (Lrb (four_of w))) Illegal

abbrev pub memory : MemoryOp → ℕ → Instruction
memory o w = Unprivileged (Memory o (mode_of w) (displacement_of w))

abbrev pub skip : Relation → ℕ → Instruction
skip r w = Unprivileged (Skip r (source_of w) (destination_of w))

abbrev pub logic : LogicOp → ℕ → Instruction
logic o w = Unprivileged (Logic o (cld_of w) (cm1_of w) (source_of w) (destination_of w))

abbrev pub adding : CarryIn → ℕ → Instruction
adding c w = Unprivileged (RegisterAdd c (cld_of w) (cm1_of w) (source_of w) (destination_of w))

-- The rows for the word w, each from its first code to the next row's. "Other codes are illegal (interrupt 4)"
abbrev pub rows : ℕ → List (ℕ × Instruction)
rows w =
    (0o000000, memory Stz w)
    ∷ (0o004000, memory Sta w)
    ∷ (0o010000, memory Stt w)
    ∷ (0o014000, memory Stx w)
    ∷ (0o020000, memory Std w)
    ∷ (0o024000, memory Ldd w)
    ∷ (0o030000, memory Stf w)
    ∷ (0o034000, memory Ldf w)
    ∷ (0o040000, memory Min w)
    ∷ (0o044000, memory Lda w)
    ∷ (0o050000, memory Ldt w)
    ∷ (0o054000, memory Ldx w)
    ∷ (0o060000, memory Add w)
    ∷ (0o064000, memory Sub w)
    ∷ (0o070000, memory And w)
    ∷ (0o074000, memory Ora w)
    -- floating
    ∷ (0o100000, Illegal)
    ∷ (0o120000, memory Mpy w)
    ∷ (0o124000, memory Jmp w)
    -- 130000 JAP to 133400 JXN
    ∷ (0o130000, Unprivileged (Jump (condition_of w) (displacement_of w)))
    ∷ (0o134000, memory Jpl w)
    -- the skips, of which bits 7 and 6 are zero, and between them EXR, RMPY, RDIV, LBYT, SBYT, MIX3, the seven by T
    -- and X, IDENT
    ∷ (0o140000, skip Eql w)
    ∷ (0o140100, Illegal)
    ∷ (0o140400, skip Geq w)
    ∷ (0o140500, Illegal)
    ∷ (0o140600, Execute (source_of w))
    ∷ (0o140700, Illegal)
    ∷ (0o141000, skip Gre w)
    ∷ (0o141100, Illegal)
    ∷ (0o141200, Unprivileged (Multiply (source_of w) (destination_of w)))
    ∷ (0o141300, Illegal)
    ∷ (0o141400, skip Mgre w)
    ∷ (0o141500, Illegal)
    ∷ (0o141600, Unprivileged (Divide (source_of w)))
    ∷ (0o141700, Illegal)
    ∷ (0o142000, skip Ueq w)
    ∷ (0o142100, Illegal)
    ∷ (0o142200, Unprivileged LoadByte)
    ∷ (0o142300, Illegal)
    ∷ (0o142400, skip Lss w)
    ∷ (0o142500, Illegal)
    ∷ (0o142600, Unprivileged StoreByte)
    ∷ (0o142700, Illegal)
    ∷ (0o143000, skip Lst w)
    ∷ (0o143100, Illegal)
    ∷ (0o143200, Unprivileged Mix3)
    ∷ (0o143300, transfer_of w)
    ∷ (0o143400, skip Mlst w)
    ∷ (0o143500, Illegal)
    ∷ (0o143600, Privileged (Ident (w % 64)))
    ∷ (0o143700, Illegal)
    -- the register operations; 146000 is RADD, 146400 with AD1, 147000 with ADC, 147400 with both
    ∷ (0o144000, logic Swap w)
    ∷ (0o144400, logic Rand w)
    ∷ (0o145000, logic Rexo w)
    ∷ (0o145400, logic Rora w)
    ∷ (0o146000, adding NoCarry w)
    ∷ (0o146400, adding One w)
    ∷ (0o147000, adding Previous w)
    ∷ (0o147400, Unprivileged NoOperation)
    ∷ (0o150000, tra_of (w % 64))
    ∷ (0o150100, trr_of (w % 64))
    ∷ (0o150200, masked_of Mcl (w % 64))
    ∷ (0o150300, masked_of Mst (w % 64))
    ∷ (0o150400, switch_of (w % 64))
    ∷ (0o150500, Illegal)
    ∷ (0o151000, control Wait)
    -- NLZ, DNZ
    ∷ (0o151400, Illegal)
    ∷ (0o152400, srb_of w)
    ∷ (0o152600, lrb_of w)
    ∷ (0o153000, Monitor (displacement_of w))
    ∷ (0o153400, Privileged (Irw (four_of w) (destination_of w)))
    ∷ (0o153600, Privileged (Irr (four_of w) (destination_of w)))
    ∷ (0o154000, shift_of w)
    ∷ (0o160000, Illegal)
    ∷ (0o164000, Privileged (Iox (w % 2048)))
    -- SAB, SAA, SAT, SAX; AAB, AAA, AAT, AAX; 174000 BSET ZRO to 177600 BORA
    ∷ (0o170000, Unprivileged (SetArgument (argument_of w) (displacement_of w)))
    ∷ (0o172000, Unprivileged (AddArgument (argument_of w) (displacement_of w)))
    ∷ (0o174000, Unprivileged (Bit (bit_op_of w) (four_of w) (destination_of w)))
    ∷ []

unfoldable pub decode : ℕ → Instruction
decode w = by_code Illegal (rows w) w
