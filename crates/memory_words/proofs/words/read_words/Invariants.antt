-- The words before this one are read.
use Rattle.std.proofs.Common.{◌≡◌, ◌++◌, length, take, drop}
use Rattle.isa.specs.Pages.{words_at}
use Rattle.paging.specs.Within.{AllWithin}
use Rattle.memory_words.proofs.words.read_words.Given as goal

abbrev pub invariant-loop-i : goal.invariant-loop-i
invariant-loop-i g l =
    (take l.i l.words ++ words_at l.mem l.tables (drop l.i l.places) ≡ words_at l.mem l.tables l.places)
    × AllWithin (length l.mem) (drop l.i l.places)
    × (length l.words ≡ g.row.N)
