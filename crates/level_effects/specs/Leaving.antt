-- What a step leaves beside the lent words.
use Rattle.std.specs.Prelude.{ℕ}
use Rattle.isa.specs.declared.machine.Core.{Core}
use Rattle.levels.specs.declared.change.Advanced.{Advanced}

-- after k steps before it: the level l, its core, the references made, and the interrupt that the step gave, or 0
abbrev pub leaving : ℕ → ℕ → Core → ℕ → ℕ → Advanced
leaving l k c made n = record { level = l; core = c; before = k; references = made; gave = n }
