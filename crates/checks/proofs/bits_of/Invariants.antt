-- The bits of the words passed, together.
use Rattle.std.proofs.Common.{◌≡◌}
use Rattle.checks.specs.Bits.{bits_of}
use Rattle.checks.proofs.bits_of.Given as goal

abbrev pub invariant-loop-i : goal.invariant-loop-i
invariant-loop-i l = l.bits ≡ bits_of l.i l.apart l.words
