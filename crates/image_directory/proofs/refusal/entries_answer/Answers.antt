-- The entry is refused.
use Rattle.std.proofs.Common.{◌≡◌, sym, ◌∙◌, rules, arith}
use Rattle.std.specs.declared.result.Result.TheVariants.{Err}
use Rattle.image_directory.proofs.Listed.{entries_stop, entries_start}
use Rattle.image_directory.proofs.refusal.entries_answer.Goals as goal

pub returns-in_err-entry_answer : goal.returns-in_err-entry_answer
returns-in_err-entry_answer c =
    let l = c.loop-k in
    let a = c.args in
    let r = c.in_err-entry_answer.field-0.0 in
    let e : c.from_residual.result ≡ Err r = search rules in
    e
    ∙ sym (entries_stop a.words l.k a.n a.image.now r (omega arith) (sym c.in_err-entry_answer.ensures))
    ∙ sym l.invariant
    ∙ entries_start a.words a.n a.image.now
