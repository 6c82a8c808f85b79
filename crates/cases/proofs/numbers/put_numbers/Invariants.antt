-- As many numbers are found as stand in the buffer.
use Rattle.std.proofs.Common.{◌≤◌, length}
use Rattle.cases.proofs.numbers.put_numbers.Given as goal

abbrev pub invariant-loop-value : goal.invariant-loop-value
invariant-loop-value l =
    (goal.iterator-loop-value).can_next l.value-iterator
    × (goal.iterator-loop-value).is_finite l.value-iterator
    × (l.count ≤ length l.to)
