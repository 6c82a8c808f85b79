-- Addresses, requests and completions as the machine's own definition has them.
-- Assumes nothing.
use Rattle.std.proofs.Common.{◌≡◌, ℕ, cond, [], ◌∷◌, ℤ, refl}
use Rattle.isa.specs.Machine.{reg, next}
use Rattle.isa.specs.Address.{access, first_address, first_rule, effective_address, indirect_access}
use Rattle.isa.specs.Instructions.{storing}
use Rattle.isa.specs.declared.access.AccessKind.TheVariants.{Indirect}
use Rattle.isa.specs.declared.machine.File.{File}
use Rattle.isa.specs.declared.machine.Register.TheVariants.{P}
use Rattle.isa.specs.declared.instruction.Mode.{Mode}
use Rattle.isa.specs.declared.instruction.Mode.TheVariants.{PRelative, BRelative, PIndirect, BIndirect, XRelative}
use Rattle.isa.specs.declared.instruction.Mode.TheVariants.{BIndexed, PIndirectIndexed, BIndirectIndexed}
use Rattle.exec_address.specs.Addresses.{first_at, has_indirect, after_indirect}
use Rattle.exec_address.specs.Requests.{change_of}
use Rattle.exec_address.specs.declared.request.Change.{Change}
use Rattle.exec_address.specs.declared.request.Change.TheVariants.{Increment, PutByte}

-- ---- addresses

pub first_address_law : (m : Mode) (d : ℤ) (f : File) → first_at m d (next f) (reg f P) ≡ first_address m d f
unfolding first_at first_address
first_address_law PRelative d f = refl
first_address_law BRelative d f = refl
first_address_law PIndirect d f = refl
first_address_law BIndirect d f = refl
first_address_law XRelative d f = refl
first_address_law BIndexed d f = refl
first_address_law PIndirectIndexed d f = refl
first_address_law BIndirectIndexed d f = refl

pub indirect_access_law :
    (m : Mode) (d : ℤ) (f : File)
    → indirect_access m d f ≡ cond (has_indirect m) (access Indirect (first_rule m) (first_address m d f) ∷ []) []
indirect_access_law PRelative d f = refl
indirect_access_law BRelative d f = refl
indirect_access_law PIndirect d f = refl
indirect_access_law BIndirect d f = refl
indirect_access_law XRelative d f = refl
indirect_access_law BIndexed d f = refl
indirect_access_law PIndirectIndexed d f = refl
indirect_access_law BIndirectIndexed d f = refl

pub effective_address_law :
    (m : Mode) (d : ℤ) (f : File) (i : ℕ)
    → effective_address m d f i ≡ cond (has_indirect m) (after_indirect m (next f) i) (first_address m d f)
effective_address_law PRelative d f i = refl
effective_address_law BRelative d f i = refl
effective_address_law PIndirect d f i = refl
effective_address_law BIndirect d f i = refl
effective_address_law XRelative d f i = refl
effective_address_law BIndexed d f i = refl
effective_address_law PIndirectIndexed d f i = refl
effective_address_law BIndirectIndexed d f i = refl

-- ---- requests

-- a change is its file and its word
pub change_stores : (k : Change) (g : File) (w : ℕ)
    → storing (change_of k g w).file (change_of k g w).stores ≡ change_of k g w
change_stores Increment g w = refl
change_stores PutByte g w = refl
