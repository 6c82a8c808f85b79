-- A block's words in a level's file.
use Rattle.std.specs.Prelude.{ℕ, List, map}
use Rattle.isa.specs.Machine.{reg}
use Rattle.isa.specs.Step.{block_order}
use Rattle.isa.specs.declared.machine.File.{File}

-- a file's words in the order of a block
abbrev pub list_of : File → List ℕ
list_of f = map (reg f) block_order
