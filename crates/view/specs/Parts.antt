-- A part of lent words, as view shows it of either target.
use Rattle.std.specs.Prelude.{ℕ, ◌+◌, cond, List, take, drop, length, ltb}
use Rattle.std.specs.declared.option.Option.{Option}
use Rattle.std.specs.declared.option.Option.TheVariants.{Some, None}

-- n words from a on, or none where there are not so many
unfoldable pub part_of : List ℕ → ℕ → ℕ → Option (List ℕ)
part_of l a n = cond (ltb (length l) (a + n)) None (Some (take n (drop a l)))
