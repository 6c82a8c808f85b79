-- Entry by entry: the bodies passed are in their places, and the rest lie within image and target.
use Rattle.std.proofs.Common.{◌≡◌, length, replicate}
use Rattle.isa.specs.Images.{contents, bodies, placed, named_words}
use Rattle.image_directory.specs.Entries.{kind_number, rest_of}
use Rattle.image_load.specs.Placing.{Inside}
use Rattle.image_load.proofs.bodies.fill.Given as goal

abbrev pub invariant-loop-k : goal.invariant-loop-k
invariant-loop-k l = record {
  so_far : placed (kind_number l.kind) (contents l.image) (bodies l.image) (replicate (length l.fn.target) 0)
      ≡ placed (kind_number l.kind) (rest_of l.k l.n l.image) l.bodies l.target;
  inside : Inside (kind_number l.kind) (length l.fn.target) (rest_of l.k l.n l.image);
  all : named_words (rest_of l.k l.n l.image) ≡ length l.bodies;
}
