-- The instructions that work on the registers alone, by the file with P one further and the instruction's own address.
use Rattle.std.specs.Prelude.{ℕ, Bool, true, false, not, ◌&&◌, []}
use Rattle.isa.specs.Machine.{with_reg, reg, with_flag, flag_z}
use Rattle.isa.specs.Flags.{bits_of, adder, compares}
use Rattle.isa.specs.Address.{sum}
use Rattle.isa.specs.Instructions.{Completed, loads, jumped, skip_if, is_zero, operand, combined, source_operand}
use Rattle.isa.specs.Instructions.{destination_operand, added, carry_in, shifted, argument_register, takes, bit_done}
use Rattle.isa.specs.Instructions.{mixed, register_product, divided}
use Rattle.isa.specs.declared.machine.File.{File}
use Rattle.isa.specs.declared.machine.Register.{Register}
use Rattle.isa.specs.declared.machine.Register.TheVariants.{Sts, D, A, T}
use Rattle.isa.specs.declared.instruction.Shiftable.{Shiftable}
use Rattle.isa.specs.declared.instruction.Shiftable.TheVariants.{Sht, Shd, Sha, Sad}
use Rattle.isa.specs.declared.instruction.User.{User}
use Rattle.isa.specs.declared.instruction.User.TheVariants.{Memory, Jump, Skip, Logic, RegisterAdd, NoOperation}
use Rattle.isa.specs.declared.instruction.User.TheVariants.{Shift, SetArgument, AddArgument, Bit, LoadByte}
use Rattle.isa.specs.declared.instruction.User.TheVariants.{StoreByte, Mix3, Multiply, Divide}

-- whether an instruction works on the registers alone
abbrev pub in_registers : User → Bool
in_registers (Memory o m d) = false
in_registers (Jump c d) = true
in_registers (Skip r s d) = true
in_registers (Logic o cld cm1 s d) = true
in_registers (RegisterAdd c cld cm1 s d) = true
in_registers NoOperation = true
in_registers (Shift t k n) = true
in_registers (SetArgument r n) = true
in_registers (AddArgument r n) = true
in_registers (Bit o n r) = true
in_registers LoadByte = false
in_registers StoreByte = false
in_registers Mix3 = true
in_registers (Multiply s d) = true
in_registers (Divide s) = true

-- its completion in the file g, of which P is one further, where it stands at the address a; the others leave g
abbrev pub register_completion : User → File → ℕ → Completed
register_completion (Memory o m d) g a = loads g
register_completion (Jump c d) g a = loads (jumped c (sum a (bits_of 16 d)) g)
register_completion (Skip r s d) g a = loads (skip_if (not (is_zero d) && compares r (operand g d) (operand g s)) g)
register_completion (Logic o cld cm1 s d) g a =
    loads (combined o g (source_operand g cm1 s) (destination_operand g cld d) s d)
register_completion (RegisterAdd c cld cm1 s d) g a =
    loads (added g d (adder (destination_operand g cld d) (source_operand g cm1 s) (carry_in c g)))
register_completion NoOperation g a = loads g
register_completion (Shift t k n) g a = loads (shifted g t k n)
register_completion (SetArgument r n) g a = loads (with_reg g (argument_register r) (bits_of 16 n))
register_completion (AddArgument r n) g a =
    loads (takes g (argument_register r) (adder (reg g (argument_register r)) (bits_of 16 n) 0))
register_completion (Bit o n r) g a = loads (bit_done o g n r)
register_completion LoadByte g a = loads g
register_completion StoreByte g a = loads g
register_completion Mix3 g a = loads (mixed g)
register_completion (Multiply s d) g a = loads (register_product g s d)
register_completion (Divide s) g a = divided g (operand g s)

-- a division that fails: Z is set, and the error interrupt is given
abbrev pub failing : File → Completed
failing f = record { file = with_flag flag_z 1 f; stores = []; error = true }

-- the register of a shift of one word; STS stands for A and D as one double word
abbrev pub shift_register : Shiftable → Register
shift_register Sht = T
shift_register Shd = D
shift_register Sha = A
shift_register Sad = Sts
