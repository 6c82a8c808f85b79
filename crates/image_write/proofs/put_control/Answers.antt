-- Control words 0 to 9, then the PCRs, then the words behind them: three copies, one behind the other.
use Rattle.std.proofs.Common.{ℕ, ◌≡◌, ◌+◌, refl, sym, ap, ◌∙◌, List, ◌++◌, length, arith, length-append}
use Rattle.std.proofs.Math.Seq.{paste}
use Rattle.isa.specs.Machine.{first_pcr, level_count, first_added, added_count, scalar_words, added_words}
use Rattle.std.proofs.lemmas.List.Edits.{paste-paste}
use Rattle.image_write.proofs.put_control.Goals as goal

pub returns : goal.returns
returns c =
    let a = c.args in
    let o = a.out.now in
    let scalars = scalar_words a.level a.k in
    let front = scalars ++ a.pcrs.now in
    let first : c.put.new.out ≡ paste o a.at scalars first_pcr =
    c.put.ensures ∙ ap (λ (x : List ℕ). paste o a.at x (length x)) c.scalars_of.ensures in
    let second : c.put-2.new.out ≡ paste o a.at front first_added =
    c.put-2.ensures
    ∙ (λ i. paste (first i) (a.at + first_pcr) a.pcrs.now (c.requires.pcrs_len i))
    ∙ paste-paste o a.at scalars a.pcrs.now first_pcr level_count refl (sym c.requires.pcrs_len) (omega arith) in
    c.put-3.ensures
    ∙ (λ i. paste (second i) (a.at + first_added) (c.added_of.ensures i) (length (c.added_of.ensures i)))
    ∙ paste-paste o a.at front (added_words a.k) first_added added_count
    (sym (length-append scalars a.pcrs.now ∙ omega (arith, c.requires.pcrs_len))) refl (omega arith)
