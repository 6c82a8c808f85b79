-- The sum so far, and what is left to add.
use Rattle.std.proofs.Common.{◌≡◌, ◌+◌, ◌*◌, ◌≤◌}
use Rattle.isa.specs.Images.{named_words}
use Rattle.image_directory.specs.Entries.{rest_of}
use Rattle.image_directory.proofs.refusal.named_words.Given as goal

abbrev pub invariant-loop-k : goal.invariant-loop-k
invariant-loop-k l =
    (l.sum + named_words (rest_of l.k l.n l.image) ≡ named_words (rest_of 0 l.n l.image)) × (l.sum ≤ l.k * 4294967296)
