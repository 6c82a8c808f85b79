-- What a read gave stands behind what was read before it.
use Rattle.std.proofs.Common.{rules, ◌≡◌, ℕ, ◌+◌, ◌≤◌, List, ◌++◌, length, take, drop, sym, ap, ◌∙◌, subst, arith, le_refl, drop_at, length-take-le}
use Rattle.std.proofs.lemmas.Slice.{take-put_mid_below}
use Rattle.std.proofs.KnownBytes.{Consumes-trans}
use Rattle.std.specs.Io.KnownBytes.{Consumes}
use borrow.Rule.Slice.PartMut.{put_mid, post_of}
use lib.Seq.{take-add, take-append-le}
use Rattle.reading.proofs.read_full.Goals as goal

take_more : (d k n : ℕ) (old part : List ℕ) → d ≤ length old → n ≤ length part
    → take d old ++ take n part ≡ take (d + n) (put_mid d k old part)
take_more d k n old part within fits =
    let new = put_mid d k old part in
    let after = post_of d k old in
    let front : take d new ≡ take d old = take-put_mid_below d k old part d (le_refl d) within in
    let back : take n (drop d new) ≡ take n part =
    ap (take n) (drop_at (take d old) (part ++ after) d (length-take-le d old within))
    ∙ take-append-le n part after fits in
    sym (take-add d n new ∙ ap (λ (l : List ℕ). l ++ take n (drop d new)) front
    ∙ ap (λ (l : List ℕ). take d old ++ l) back)

pub loop-done-preserved : goal.loop-done-preserved
loop-done-preserved g c =
    let l = c.loop-done in
    let read = c.in-Ok.ensures in
    let new = take_more l.done _ c.in-Ok.n l.to c.read.new.buf (omega arith) read.bound.0 in
    (search rules, subst (Consumes _ _) new (Consumes-trans _ _ _ _ _ l.invariant.1 read.bytes.0))
