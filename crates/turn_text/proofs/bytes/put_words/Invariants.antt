-- Word by word: the first i are put.
use Rattle.std.proofs.Common.{◌≡◌, take}
use Rattle.turn_text.specs.Bytes.{bytes_as_words}
use Rattle.turn_text.proofs.bytes.put_words.Given as goal

abbrev pub invariant-loop-i : goal.invariant-loop-i
invariant-loop-i l = take l.i l.words ≡ take l.i (bytes_as_words l.bytes)
