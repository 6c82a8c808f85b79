-- Addresses by the file with P one further and the instruction's own address.
use Rattle.std.specs.Prelude.{ℕ, Bool, true, false, ℤ}
use Rattle.isa.specs.Machine.{reg}
use Rattle.isa.specs.Flags.{bits_of}
use Rattle.isa.specs.Address.{sum}
use Rattle.isa.specs.declared.machine.File.{File}
use Rattle.isa.specs.declared.machine.Register.TheVariants.{B, X}
use Rattle.isa.specs.declared.instruction.Mode.{Mode}
use Rattle.isa.specs.declared.instruction.Mode.TheVariants.{PRelative, BRelative, PIndirect, BIndirect, XRelative}
use Rattle.isa.specs.declared.instruction.Mode.TheVariants.{BIndexed, PIndirectIndexed, BIndirectIndexed}

-- what the displacement is added to, where the instruction stands at the address a
abbrev pub base_at : Mode → File → ℕ → ℕ
base_at PRelative g a = a
base_at BRelative g a = reg g B
base_at PIndirect g a = a
base_at BIndirect g a = reg g B
base_at XRelative g a = reg g X
base_at BIndexed g a = sum (reg g B) (reg g X)
base_at PIndirectIndexed g a = a
base_at BIndirectIndexed g a = reg g B

-- base and displacement
unfoldable pub first_at : Mode → ℤ → File → ℕ → ℕ
first_at m d g a = sum (base_at m g a) (bits_of 16 d)

-- whether the mode has an indirect word
abbrev pub has_indirect : Mode → Bool
has_indirect PRelative = false
has_indirect BRelative = false
has_indirect PIndirect = true
has_indirect BIndirect = true
has_indirect XRelative = false
has_indirect BIndexed = false
has_indirect PIndirectIndexed = true
has_indirect BIndirectIndexed = true

-- the effective address by the indirect word i, for the modes that have one
abbrev pub after_indirect : Mode → File → ℕ → ℕ
after_indirect PRelative g i = i
after_indirect BRelative g i = i
after_indirect PIndirect g i = i
after_indirect BIndirect g i = i
after_indirect XRelative g i = i
after_indirect BIndexed g i = i
after_indirect PIndirectIndexed g i = sum i (reg g X)
after_indirect BIndirectIndexed g i = sum i (reg g X)
