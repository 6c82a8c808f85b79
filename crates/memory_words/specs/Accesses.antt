-- Several accesses and places as lists of the isa's definitions.
use Rattle.std.specs.Prelude.{◌≡◌, ℕ, zero, suc, Bool, true, List, [], ◌∷◌}
use Rattle.isa.specs.Address.{access, sum}
use Rattle.isa.specs.declared.access.Access.{Access}
use Rattle.isa.specs.declared.access.AccessKind.{AccessKind}
use Rattle.isa.specs.declared.access.Place.{Place}
use Rattle.paging.specs.Within.{is_store}

-- so many words of one kind from an address on
abbrev pub words_from : AccessKind → Bool → ℕ → ℕ → List Access
words_from k alternate a zero = []
words_from k alternate a (suc n) = access k alternate a ∷ words_from k alternate (sum a 1) n

-- places to store to
abbrev pub AllStoring : List Place → Type 0
AllStoring [] = Unit {0}
AllStoring (x ∷ xs) = (is_store x ≡ true) × AllStoring xs
