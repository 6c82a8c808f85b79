-- Document 01, "Decoding and addresses": effective addresses, and the rule that each access goes by.
use Rattle.std.specs.Prelude.{ℕ, ◌+◌, ◌/◌, ◌%◌, Bool, true, false, List, [], ◌∷◌, ℤ}
use Rattle.isa.specs.Machine.{word_range, reg}
use Rattle.isa.specs.Flags.{bits_of}
use Rattle.isa.specs.declared.machine.File.{File}
use Rattle.isa.specs.declared.machine.Register.TheVariants.{P, B, T, X}
use Rattle.isa.specs.declared.instruction.Mode.{Mode}
use Rattle.isa.specs.declared.instruction.Mode.TheVariants.{PRelative, BRelative, PIndirect, BIndirect}
use Rattle.isa.specs.declared.instruction.Mode.TheVariants.{XRelative, BIndexed, PIndirectIndexed}
use Rattle.isa.specs.declared.instruction.Mode.TheVariants.{BIndirectIndexed}
use Rattle.isa.specs.declared.access.Access.{Access}
use Rattle.isa.specs.declared.access.AccessKind.{AccessKind}
use Rattle.isa.specs.declared.access.AccessKind.TheVariants.{Indirect}

-- "Address sums drop every carry out of bit 15; so do ea+1 and ea+2."
abbrev pub sum : ℕ → ℕ → ℕ
sum a b = (a + b) % word_range

-- "P is the instruction's own address": what the displacement is added to
abbrev pub base_of : Mode → File → ℕ
base_of PRelative f = reg f P
base_of BRelative f = reg f B
base_of PIndirect f = reg f P
base_of BIndirect f = reg f B
base_of XRelative f = reg f X
base_of BIndexed f = sum (reg f B) (reg f X)
base_of PIndirectIndexed f = reg f P
base_of BIndirectIndexed f = reg f B

-- base and displacement: the effective address, or where the indirect word stands
unfoldable pub first_address : Mode → ℤ → File → ℕ
first_address m d f = sum (base_of m f) (bits_of 16 d)

-- "P-relative accesses use the normal table; B- or X-relative ones, and the address after an indirect word, go by
-- document 002's rule": whether the alternate rule holds for the first address ..
abbrev pub first_rule : Mode → Bool
first_rule PRelative = false
first_rule BRelative = true
first_rule PIndirect = false
first_rule BIndirect = true
first_rule XRelative = true
first_rule BIndexed = true
first_rule PIndirectIndexed = false
first_rule BIndirectIndexed = true

-- .. and for the effective address
abbrev pub address_rule : Mode → Bool
address_rule PRelative = false
address_rule BRelative = true
address_rule PIndirect = true
address_rule BIndirect = true
address_rule XRelative = true
address_rule BIndexed = true
address_rule PIndirectIndexed = true
address_rule BIndirectIndexed = true

-- one access
abbrev pub access : AccessKind → Bool → ℕ → Access
access k r a = record { kind = k; alternate = r; address = a }

-- the access for the indirect word, where the mode has one
abbrev pub indirect_access : Mode → ℤ → File → List Access
indirect_access PRelative d f = []
indirect_access BRelative d f = []
indirect_access PIndirect d f = access Indirect (first_rule PIndirect) (first_address PIndirect d f) ∷ []
indirect_access BIndirect d f = access Indirect (first_rule BIndirect) (first_address BIndirect d f) ∷ []
indirect_access XRelative d f = []
indirect_access BIndexed d f = []
indirect_access PIndirectIndexed d f =
    access Indirect (first_rule PIndirectIndexed) (first_address PIndirectIndexed d f) ∷ []
indirect_access BIndirectIndexed d f =
    access Indirect (first_rule BIndirectIndexed) (first_address BIndirectIndexed d f) ∷ []

-- the effective address, with the indirect word i
abbrev pub effective_address : Mode → ℤ → File → ℕ → ℕ
effective_address PRelative d f i = first_address PRelative d f
effective_address BRelative d f i = first_address BRelative d f
effective_address PIndirect d f i = i
effective_address BIndirect d f i = i
effective_address XRelative d f i = first_address XRelative d f
effective_address BIndexed d f i = first_address BIndexed d f
effective_address PIndirectIndexed d f i = sum i (reg f X)
effective_address BIndirectIndexed d f i = sum i (reg f X)

-- "LBYT and SBYT address word T + X/2 by the alternate rule, X unsigned"
abbrev pub byte_address : File → ℕ
byte_address f = sum (reg f T) (reg f X / 2)
