-- Entry by entry: those passed are not refused.
use Rattle.std.proofs.Common.{◌≡◌}
use Rattle.isa.specs.Images.{entries_answer}
use Rattle.image_directory.specs.Entries.{rest_of}
use Rattle.image_directory.specs.Listing.{seen_of}
use Rattle.image_directory.proofs.refusal.entries_answer.Given as goal

abbrev pub invariant-loop-k : goal.invariant-loop-k
invariant-loop-k l =
    entries_answer l.words (seen_of 0 l.image) (rest_of 0 l.n l.image)
    ≡ entries_answer l.words (seen_of l.k l.image) (rest_of l.k l.n l.image)
