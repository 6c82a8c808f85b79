-- After i single shifts, the value and M are those of places_by i, and in the width.
use Rattle.std.proofs.Common.{◌≡◌}
use Rattle.isa.specs.Flags.{places_by}
use Rattle.arithmetic.specs.Results.{shifted_of, InWidth}
use Rattle.arithmetic.proofs.shift.places_by.Given as goal

abbrev pub invariant-loop-i : goal.invariant-loop-i
invariant-loop-i l =
    (shifted_of l.s ≡ places_by l.left l.w l.k l._i (shifted_of l.fn.start)) × InWidth l.w l.s
