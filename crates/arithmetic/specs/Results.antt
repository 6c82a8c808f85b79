-- What the functions return, beside the definitions' own values.
use Rattle.std.specs.Prelude.{ℕ, ◌^◌, ◌<◌, ◌≤◌, cond, Option, Some, None}
use Rattle.isa.specs.Flags.{bits_of, quotient, remainder, division_fails}
use Rattle.isa.specs.Flags as Flags
use Rattle.arithmetic.specs.declared.quotient.Division.{Division}
use Rattle.arithmetic.specs.declared.shift.Shifted.{Shifted}

-- RDIV's two words, or its failure
unfoldable pub division_of : ℕ → ℕ → Option Division
division_of n d =
    cond (division_fails n d) None
    (Some (record { quotient = bits_of 16 (quotient n d); remainder = bits_of 16 (remainder n d) }))

-- the value and M as a shift's definition has them
abbrev pub shifted_of : Shifted → Flags.Shifted
shifted_of s = record { value = s.value; m = s.m }

-- a value of w bits, from 1 to 32, and M a bit
pub record InWidth (w : ℕ) (s : Shifted) : Type 0 where
  pub some : 0 < w
  pub most : w ≤ 32
  pub value : s.value < 2 ^ w
  pub m : s.m < 2
