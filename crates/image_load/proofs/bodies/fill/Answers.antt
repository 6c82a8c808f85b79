-- Entry by entry: the bodies passed are in their places, and the rest lie within image and target.
use Rattle.std.proofs.Common.{◌+◌, ◌*◌, sym, ap, ◌∙◌, length, replicate, le_refl, arith, rules}
use Rattle.std.proofs.lemmas.Slice.{between_to_end}
use Rattle.isa.specs.Images.{loaded_words}
use Rattle.image_directory.specs.Entries.{kind_number, span_entry}
use Rattle.image_load.proofs.Placed.{body_lies, named_rest, place_lies, inside_next, placed_next, placed_end}
use Rattle.image_load.proofs.Placed.{placed_first, inside_first, named_first}
use Rattle.image_load.proofs.bodies.fill.Goals as goal

-- before the first entry
pub loop-k-init : goal.loop-k-init
loop-k-init c =
    let a = c.args in
    let i = a.image.now in
    let k = kind_number a.kind in
    let n = c.entry_count-n.result in
    let e = c.entry_count-n.ensures in
    let h = between_to_end i (1 + n * 5) (length i) (le_refl (length i)) in
    record {
      so_far = placed_first k (length a.target.now) n i _ e c.requires h (replicate (length a.target.now) 0)
          c.fill.new.self (search rules);
      inside = inside_first k (length a.target.now) n i _ e c.requires h;
      all = named_first k (length a.target.now) n i _ e c.requires h;
    }

-- an entry's body lies within the image, its place within the target
pub split_at-requires : goal.split_at-requires
split_at-requires c =
    let l = c.loop-k in
    body_lies (kind_number c.args.kind) (length c.args.target.now) l.k c.entry_count-n.result c.args.image.now
    l.bodies.now (span_entry c.entry_at-e.result) c.loop-k-test.true c.entry_at-e.ensures l.invariant.all

pub place-requires-clause-target_in_bounds : goal.place-requires-clause-target_in_bounds
place-requires-clause-target_in_bounds c =
    let l = c.loop-k in
    let x = place_lies (kind_number c.args.kind) (length c.args.target.now) l.k c.entry_count-n.result
    c.args.image.now l.bodies.now (span_entry c.entry_at-e.result) c.loop-k-test.true c.entry_at-e.ensures
    l.invariant.inside in
    λ e. omega (arith, x e, l.auto.target)

-- one more body is placed
pub loop-k-preserved : goal.loop-k-preserved
loop-k-preserved c =
    let l = c.loop-k in
    let i = c.args.image.now in
    let k = kind_number c.args.kind in
    let size = length c.args.target.now in
    let n = c.entry_count-n.result in
    let e = span_entry c.entry_at-e.result in
    let h = c.loop-k-test.true in
    let q = c.entry_at-e.ensures in
    let s = c.split_at.ensures in
    record {
      so_far =
          l.invariant.so_far
          ∙ placed_next k size l.k n i l.bodies.now e h q l.target c.place.new.target c.split_at.result.0.now
          c.split_at.result.1.now s.front s.back c.place.ensures;
      inside = inside_next k size l.k n i l.bodies.now e h q l.invariant.inside;
      all = named_rest k size l.k n i l.bodies.now e h q l.invariant.all ∙ ap length (sym s.back);
    }

-- no entry is left
pub returns : goal.returns
unfolding loaded_words
returns c =
    let l = c.loop-k in
    sym (l.invariant.so_far
    ∙ placed_end (kind_number c.args.kind) l.k c.entry_count-n.result c.args.image.now l.bodies.now l.target
    (omega arith))
