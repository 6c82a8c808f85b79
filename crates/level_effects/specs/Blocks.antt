-- What the test of a register block leaves, and a block's words in a level's file.
use Rattle.isa.specs.Machine.{level_count, register_words}
use Rattle.std.specs.Prelude.{ℕ, ◌<◌, ◌≡◌, IfOk, Bool, cond, ◌&&◌, List, [], ◌∷◌, length}
use Rattle.std.specs.declared.result.Result.{Result}
use Rattle.isa.specs.Machine.{reg, with_reg, put_file}
use Rattle.isa.specs.Pages.{test_all, rights_of}
use Rattle.isa.specs.Step.{kept, is_p, block_order, block_from}
use Rattle.isa.specs.declared.access.AccessKind.{AccessKind}
use Rattle.isa.specs.declared.access.Place.{Place}
use Rattle.isa.specs.declared.machine.Core.{Core}
use Rattle.isa.specs.declared.machine.File.{File}
use Rattle.isa.specs.declared.machine.Register.{Register}
use Rattle.isa.specs.declared.machine.Register.TheVariants.{X}
use Rattle.paging.specs.Outcome.{Outcome}
use Rattle.paging.specs.Within.{AllWithin}
use Rattle.paging.specs.declared.failure.Failure.{Failure}

-- a level's file with words in registers, as LRB loads them; own: the level is the running one
abbrev pub with_block : Bool → File → List Register → List ℕ → File
with_block own f [] ws = f
with_block own f (r ∷ rs) [] = f
with_block own f (r ∷ rs) (w ∷ ws) = with_block own (cond (own && is_p r) f (with_reg f r (kept r w))) rs ws

-- By the tables t, the accesses from the address in X on gave r and left the tables u. The core's registers were put
-- back at its level: of the registers b that gives d.
pub record BlockTest (l : ℕ) (c : Core) (k : AccessKind) (b : List ℕ) (words : ℕ) (t : List ℕ)
    (r : Result (List Place) Failure) (d u : List ℕ) : Type 0 where
  pub outcome : Outcome (test_all t words (rights_of c) (block_from k (reg c.file X) block_order)) r
  pub tables : u ≡ (test_all t words (rights_of c) (block_from k (reg c.file X) block_order)).tables
  pub within : IfOk r (AllWithin words)
  pub level : l < level_count
  pub registers : length b ≡ register_words
  pub put : d ≡ put_file b l c.file
