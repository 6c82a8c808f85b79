-- The bits of several words together.
use Rattle.std.specs.Prelude.{ℕ, zero, suc, ◌*◌, List, get_or}
use Rattle.std.specs.Int.Bits.{bit_or}

-- the bits that any of n words has; the words stand d apart, the first in front
unfoldable pub bits_of : ℕ → ℕ → List ℕ → ℕ
bits_of zero d ws = 0
bits_of (suc n) d ws = bit_or (bits_of n d ws) (get_or ws (n * d) 0)
