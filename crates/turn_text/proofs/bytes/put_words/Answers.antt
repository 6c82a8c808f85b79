-- One more word, and all words.
use Rattle.std.proofs.Common.{◌≡◌, ℕ, ◌+◌, ◌*◌, ◌/◌, ◌≤◌, take, set, get_or, length, ap, ◌∙◌, subst, arith}
use Rattle.std.proofs.Math.Seq.{take_all}
use Rattle.turn_text.specs.Bytes.{bytes_as_words}
use Rattle.turn_text.proofs.Laws.{words_length, word_more}
use Rattle.turn_text.proofs.bytes.put_words.Goals as goal

pub loop-i-preserved : goal.loop-i-preserved
loop-i-preserved c =
    let l = c.loop-i in
    let b = c.args.bytes.now in
    let word : get_or b (l.i * 2) 0 * 256 + get_or b (l.i * 2 + 1) 0 ≡ c.from_be_bytes.result =
    omega (arith, c.from_be_bytes.ensures) in
    subst (λ (w : ℕ). take (l.i + 1) (set l.words l.i w) ≡ take (l.i + 1) (bytes_as_words b)) word
    (word_more b l.words l.i l.invariant (omega arith) (omega arith))

pub returns-clause-words_after : goal.returns-clause-words_after
returns-clause-words_after c =
    let b = c.args.bytes.now in
    let all : length (bytes_as_words b) ≤ c.loop-i.i = simp (words_length b) (omega arith) in
    let e : length b / 2 ≡ c.loop-i.i = omega arith in
    ap (λ (k : ℕ). take k c.loop-i.words) e ∙ c.loop-i.invariant ∙ take_all c.loop-i.i (bytes_as_words b) all
