-- The words of the bytes are an image.
use Rattle.std.proofs.Common.{rules, ◌≡◌, ℕ, ◌≤◌, ◌%◌, List, length, replicate, ap, ◌∙◌, le-ltb, eq-eqb}
use Rattle.isa.specs.Machine.{table_words}
use Rattle.turn_text.specs.Turn.{image_turned, turned}
use Rattle.turn_text.proofs.turn.Goals as goal

pub returns : goal.returns
unfolding turned
returns c =
    let b = c.args.input.now in
    let few : length b ≤ 65536 = search rules in
    let even : length b % 2 ≡ 0 = search rules in
    c.run_image.ensures
    ∙ ap (λ (i : List ℕ). image_turned i (replicate 16384 0) (replicate table_words 0))
    c.put_words-count.ensures.words_after
    ∙ simp (le-ltb 65536 (length b) few, eq-eqb (length b % 2) 0 even)
