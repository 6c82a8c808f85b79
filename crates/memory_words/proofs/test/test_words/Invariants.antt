-- The words before this one passed.
use Rattle.std.proofs.Common.{◌≡◌, length, take}
use Rattle.paging.specs.Within.{AllWithin}
use Rattle.memory_words.proofs.TestLaws.{Tests}
use Rattle.memory_words.proofs.test.test_words.Given as goal

abbrev pub invariant-loop-i : goal.invariant-loop-i
invariant-loop-i g l =
    Tests l.fn.tables l.words l.x.rights l.k l.x.alternate l.x.address g.row.N (take l.i l.place-items) l.tables
    l.i
    × AllWithin l.words (take l.i l.place-items)
    × (length l.place-items ≡ g.row.N)
