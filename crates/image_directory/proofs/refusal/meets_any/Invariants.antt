-- From the last entry to the first: those passed do not meet.
use Rattle.std.proofs.Common.{◌≡◌}
use Rattle.isa.specs.Images.{meets_any}
use Rattle.image_directory.specs.Entries.{span_entry}
use Rattle.image_directory.specs.Listing.{seen_of}
use Rattle.image_directory.proofs.refusal.meets_any.Given as goal

abbrev pub invariant-loop-k : goal.invariant-loop-k
invariant-loop-k l =
    meets_any (span_entry l.e) (seen_of l.n l.image) ≡ meets_any (span_entry l.e) (seen_of l.k l.image)
