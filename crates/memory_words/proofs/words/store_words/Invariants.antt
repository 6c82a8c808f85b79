-- The words before the next are stored, at the places before this one.
use Rattle.std.proofs.Common.{◌≡◌, ◌≤◌, length, drop}
use Rattle.isa.specs.Pages.{store_all}
use Rattle.paging.specs.Within.{AllWithin}
use Rattle.memory_words.proofs.words.store_words.Given as goal

abbrev pub invariant-loop-x : goal.invariant-loop-x
invariant-loop-x g l =
    (store_all l.mem l.tables (drop l.x-index l.places) (drop l.next l.words)
    ≡ store_all l.fn.mem l.fn.tables l.places l.words)
    × AllWithin (length l.mem) (drop l.x-index l.places)
    × (l.next ≤ l.x-index)
