-- Two wrapping sums are the adder's value, and the cases over signs its carry and overflow.
use Rattle.std.proofs.Common.{◌≡◌, ℕ, ◌+◌, ◌%◌, ◌<◌, Bool, refl, ap, ◌∙◌, arith}
use mir.Val.{bool_byte}
use Rattle.isa.specs.Machine.{flag_of}
use Rattle.isa.specs.Flags.{negative, adder}
use Rattle.isa.specs.Signs.{sign_if, carry_by_signs, overflow_by_signs}
use Rattle.isa.proofs.Signs.{carry_by_signs_law, overflow_by_signs_law}
use Rattle.arithmetic.proofs.Fields.{flag_below, flag_is}
use Rattle.arithmetic.proofs.adder.add.Goals as goal

-- the carry of the first sum is dropped either way
two_sums : (x y : ℕ) → (x % 65536 + y) % 65536 ≡ (x + y) % 65536
two_sums x y = omega arith

with_carry : (h : ℕ) {x : ℕ} (b : Bool) → x ≡ bool_byte b → (h + x) % 65536 ≡ (h + flag_of b) % 65536
with_carry h b e = ap (λ (y : ℕ). (h + y) % 65536) (e ∙ flag_is b)

value_is : (a b c h v : ℕ) → h ≡ (a + b) % 65536 → v ≡ (h + c) % 65536 → v ≡ (adder a b c).value
unfolding adder
value_is a b c h v p q = q ∙ ap (λ (x : ℕ). (x + c) % 65536) p ∙ two_sums (a + b) c

-- the carry m and the overflow n of the cases, by signs x, y and z that were found of the operands and of the result v
module _ (a b c v : ℕ) (x y z : Bool) (ha : a < 65536) (hb : b < 65536) (hc : c < 2) (e : v ≡ (adder a b c).value)
    (p : x ≡ negative a) (q : y ≡ negative b) (o : z ≡ negative v) where
  carry_is : (m : ℕ) → m ≡ carry_by_signs (sign_if x) (sign_if y) (sign_if z) → m ≡ (adder a b c).carry
  carry_is m g = g ∙ simp (o, e, p, q) (carry_by_signs_law a b c ha hb hc)

  overflow_is : (n : ℕ) → n ≡ overflow_by_signs (sign_if x) (sign_if y) (sign_if z) → n ≡ (adder a b c).overflow
  overflow_is n g = g ∙ simp (o, e, p, q) (overflow_by_signs_law a b c ha hb hc)

pub returns-clause-value : goal.returns-clause-value
returns-clause-value c =
    c.by_signs.ensures.value ∙ value_is c.args.a c.args.b (flag_of c.args.c) _ _ refl (with_carry _ c.args.c c.from.ensures)

pub returns-clause-carry : goal.returns-clause-carry
returns-clause-carry c =
    carry_is c.args.a c.args.b (flag_of c.args.c) _ _ _ _ c.ranges.a.fits c.ranges.b.fits (flag_below c.args.c)
    (value_is c.args.a c.args.b (flag_of c.args.c) _ _ refl (with_carry _ c.args.c c.from.ensures))
    c.negative.ensures c.negative-2.ensures c.negative-3.ensures _ c.by_signs.ensures.carry

pub returns-clause-overflow : goal.returns-clause-overflow
returns-clause-overflow c =
    overflow_is c.args.a c.args.b (flag_of c.args.c) _ _ _ _ c.ranges.a.fits c.ranges.b.fits (flag_below c.args.c)
    (value_is c.args.a c.args.b (flag_of c.args.c) _ _ refl (with_carry _ c.args.c c.from.ensures))
    c.negative.ensures c.negative-2.ensures c.negative-3.ensures _ c.by_signs.ensures.overflow
