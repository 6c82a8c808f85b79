-- One place more.
use Rattle.std.proofs.Common.{ℕ, sym, ap, ◌∙◌, add-one}
use Rattle.isa.specs.Flags.{once, places_by}
use Rattle.arithmetic.specs.Results.{shifted_of}
use Rattle.arithmetic.proofs.Places.{once_in_width}
use Rattle.arithmetic.proofs.shift.places_by.Goals as goal

-- the invariant after one more turn
pub loop-i-preserved : goal.loop-i-preserved
loop-i-preserved c =
    let a = c.args in
    let l = c.loop-i in
    let e = c.once-s.ensures in (
      e ∙ ap (once a.left a.w a.k) l.invariant.0 ∙ sym
          (ap (λ (j : ℕ). places_by a.left a.w a.k j (shifted_of a.start)) (add-one l._i)),
      once_in_width a.left a.w a.k l.s l.invariant.1 _ e,
    )
