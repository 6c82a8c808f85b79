-- The bit is taken out, and the new one put in.
use Rattle.std.proofs.Common.{ℕ, ◌<◌, sym, subst, ◌∙◌}
use Rattle.isa.specs.Machine.{flag_of}
use Rattle.isa.proofs.Bits.{bit_below}
use Rattle.arithmetic.proofs.Fields.{changed, flag_below, flag_is}
use Rattle.arithmetic.proofs.bits.with_bit.Goals as goal

pub returns : goal.returns
returns c =
    let a = c.args in
    changed 16 a.n a.w _ _ a.v c.requires (c.from.ensures ∙ flag_is c.bit.result ∙ c.bit.ensures)
    (c.from-2.ensures ∙ flag_is a.v)

-- the word with the bit changed is a word
pub overflow_add-result : goal.overflow_add-result
overflow_add-result c =
    let a = c.args in
    record {
      fits = subst (λ (x : ℕ). x < 65536) (sym (returns c))
          (bit_below 16 a.n (flag_of a.v) a.w c.requires (flag_below a.v) c.ranges.w.fits);
    }
