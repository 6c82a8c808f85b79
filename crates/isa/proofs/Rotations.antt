-- Rotations in a row add up, for any width above 0, and one rotation stands for two.
-- Assumes nothing.
use Rattle.std.proofs.Common.{◌≡◌, ℕ, zero, suc, ◌+◌, ◌-◌, ◌*◌, ◌/◌, ◌%◌, ◌^◌, ◌<◌, ◌≤◌, true, false, ℤ, pos, negsuc, ◌+ℤ◌, ◌-ℤ◌, ◌*ℤ◌, neg_ℤ, ◌≤ℤ◌, ◌<ℤ◌, sym, refl, ap, ◌∙◌, subst, mod-lt, one-mul, pow-suc, div-add-mod', arith, lit<, le→leb, ltb→lt, lt→ltb, leb→le, pow_pos}
use native.Mathlib.Nat.{zero-mod, div-eq_of_lt}
use lib.Pow.{pow-lt}
use lib.Arith.{digits_lt}
use lib.IntN.{+ℤ_idl, +ℤ_assoc, +ℤ_invr, neg_ℤ-+ℤ}
use lib.Signed.{shr_z}
use Rattle.isa.specs.Machine.{word_range, flag_m, reg, with_reg, flag, with_flag}
use Rattle.isa.specs.Flags.{residue, Shifted}
use Rattle.isa.specs.Instructions.{shifted}
use Rattle.isa.specs.Rotations.{rotated, last_count, m_after, count_for, joined_count, InField, shift_width}
use Rattle.isa.specs.Rotations.{RotationsAddIn, RotationsAdd, ResidueIs, CongruentCounts, Joined}
use Rattle.isa.specs.Rotations.{JoinedFits16, JoinedFits32, NoCountReplaces, InstructionsJoin}
use Rattle.isa.specs.declared.machine.Register.{Register}
use Rattle.isa.specs.declared.machine.Register.TheVariants.{Sts, D, A, T}
use Rattle.isa.specs.declared.machine.File.{File}
use Rattle.isa.specs.declared.instruction.ShiftKind.TheVariants.{Rotational}
use Rattle.isa.specs.declared.instruction.Shiftable.{Shiftable}
use Rattle.isa.specs.declared.instruction.Shiftable.TheVariants.{Sht, Shd, Sha, Sad}
use Rattle.isa.proofs.Signed.{residue_below}
use Rattle.isa.proofs.Bits.{bit_read, bit_again}
use Rattle.isa.proofs.Shifts.{Narrow, shift_narrow, to_left, rotate_by, by_value, by_sum, by_congruent}
use Rattle.isa.proofs.Shifts.{places_m, exchanged, whole_width, narrow_value}

-- a - (a + n + 1) is -(n + 1)
below_zero : (a n : ℕ) → pos a -ℤ pos (a + suc n) ≡ negsuc n
below_zero a n =
    ap (λ (z : ℤ). pos a +ℤ z) (neg_ℤ-+ℤ (pos a) (pos (suc n)))
    ∙ sym (+ℤ_assoc (pos a) (neg_ℤ (pos a)) (negsuc n))
    ∙ ap (λ (z : ℤ). z +ℤ negsuc n) (+ℤ_invr (pos a))
    ∙ +ℤ_idl (negsuc n)

residue_whole : (w : ℕ) → 0 < w → (i : ℤ) → i ≡ pos (residue w i) +ℤ shr_z i w *ℤ pos w
residue_whole w h (pos n) = ap pos whole
  where
    whole : n ≡ n % w + n / w * w
    whole = omega (arith, div-add-mod' n w)
residue_whole w h (negsuc n) = sym (below_zero r n) ∙ ap (λ (x : ℕ). pos r -ℤ pos x) whole
  where
    r : ℕ
    r = residue w (negsuc n)

    whole : r + suc n ≡ suc (n / w) * w
    whole = omega (arith, mod-lt n h, div-add-mod' n w)

pub residue_is : ResidueIs
residue_is w h i = (residue_below w h i, residue_whole w h i)

module _ (w : ℕ) (h : 0 < w) where
  -- M after one rotation, and after two
  m_after_law : (n : ℤ) (s : Shifted) → s.value < 2 ^ w → (rotated w n s).m ≡ m_after w n (rotated w n s).value s.m
  m_after_law (pos zero) s l = refl
  m_after_law (pos (suc n)) s l =
      subst (λ (t : Shifted). t.m ≡ t.value % 2) (sym (to_left w Rotational (suc n) s)) (places_m w h true n s l)
  m_after_law (negsuc n) s l = places_m w h false n s l

  pair_m : (i j : ℤ) (s : Shifted) → s.value < 2 ^ w
      → (rotated w j (rotated w i s)).m ≡ m_after w (last_count i j) (rotated w j (rotated w i s)).value s.m
  pair_m i (pos zero) s l = m_after_law i s l
  pair_m i (pos (suc n)) s l = m_after_law (pos (suc n)) (rotated w i s) (narrow_value w h i s l)
  pair_m i (negsuc n) s l = m_after_law (negsuc n) (rotated w i s) (narrow_value w h i s l)

  -- the value after two
  by_residue : (i : ℤ) (v : ℕ) → v < 2 ^ w → rotate_by w i v ≡ rotate_by w (pos (residue w i)) v
  by_residue i v l =
      ap (λ (z : ℤ). rotate_by w z v) (residue_whole w h i) ∙ by_congruent w h (pos (residue w i)) (shr_z i w) v l

  pair_value : (i j : ℤ) (s : Shifted) → s.value < 2 ^ w
      → (rotated w j (rotated w i s)).value ≡ (rotated w (pos (residue w (i +ℤ j))) s).value
  pair_value i j s l =
      by_value w j (rotated w i s)
      ∙ ap (rotate_by w j) (by_value w i s)
      ∙ sym (by_sum w h i j s.value l)
      ∙ by_residue (i +ℤ j) s.value l
      ∙ sym (by_value w (pos (residue w (i +ℤ j))) s)

pub rotations_add : RotationsAdd
rotations_add w h i j s l =
    let v : ℕ = (rotated w j (rotated w i s)).value in
    ap (λ (x : ℕ). record { value = v; m = x }) (pair_m w h i j s l)
    ∙ ap (λ (x : ℕ). record { value = x; m = m_after w (last_count i j) x s.m }) (pair_value w h i j s l)

pub rotations_add_16 : RotationsAddIn 16
rotations_add_16 = rotations_add 16 (lit< tt)

pub rotations_add_32 : RotationsAddIn 32
rotations_add_32 = rotations_add 32 (lit< tt)

pub congruent_counts : CongruentCounts
congruent_counts w h i q s l =
    by_value w (i +ℤ q *ℤ pos w) s ∙ by_congruent w h i q s.value l ∙ sym (by_value w i s)

-- ---- one count for two
module _ (w : ℕ) (h : 0 < w) where
  -- a residue less the width is negative
  below_width : (r : ℕ) → r < w → pos r -ℤ pos w ≡ negsuc (w - suc r)
  below_width r p =
      ap (λ (x : ℕ). pos r -ℤ pos x) (let e : w ≡ r + suc (w - suc r) = omega arith in e)
      ∙ below_zero r (w - suc r)

  -- the count for a residue and a sign leaves M by the sign ..
  left_m : (z : ℤ) (v m : ℕ) → pos 0 <ℤ z → m_after w z v m ≡ v % 2
  left_m (pos zero) v m p = absurd p.lt
  left_m (pos (suc n)) v m p = refl
  left_m (negsuc n) v m p = absurd p.lt

  count_m : (z : ℤ) (r v m : ℕ) → r < w → m_after w (count_for w z r) v m ≡ m_after w z v m
  count_m (pos zero) r v m p = refl
  count_m (pos (suc n)) zero v m p = left_m (pos w) v m (record { lt = lt→ltb 0 w h })
  count_m (pos (suc n)) (suc r) v m p = refl
  count_m (negsuc n) r v m p = ap (λ (z : ℤ). m_after w z v m) (below_width r p)

  -- .. and rotates as the residue does
  count_left : (n r v : ℕ) → v < 2 ^ w → rotate_by w (count_for w (pos (suc n)) r) v ≡ rotate_by w (pos r) v
  count_left n zero v l = whole_width w h v l
  count_left n (suc r) v l = refl

  count_right : (n r v : ℕ) → v < 2 ^ w → rotate_by w (count_for w (negsuc n) r) v ≡ rotate_by w (pos r) v
  count_right n r v l =
      ap (λ (x : ℕ). rotate_by w (pos r -ℤ pos x) v) (sym (one-mul w))
      ∙ by_congruent w h (pos r) (negsuc zero) v l

  -- so does the joined count of a pair; with a second count of 0 the first tells the sign
  first_value : (i : ℤ) (v : ℕ) → v < 2 ^ w
      → rotate_by w (joined_count w i (pos zero)) v ≡ rotate_by w (pos (residue w (i +ℤ pos zero))) v
  first_value (pos zero) v l = ap (λ (x : ℕ). rotate_by w (pos x) v) (sym (zero-mod w))
  first_value (pos (suc n)) v l = count_left n (residue w (pos (suc n) +ℤ pos zero)) v l
  first_value (negsuc n) v l = count_right n (residue w (negsuc n +ℤ pos zero)) v l

  joined_value : (i j : ℤ) (v : ℕ) → v < 2 ^ w
      → rotate_by w (joined_count w i j) v ≡ rotate_by w (pos (residue w (i +ℤ j))) v
  joined_value i (pos zero) v l = first_value i v l
  joined_value i (pos (suc n)) v l = count_left n (residue w (i +ℤ pos (suc n))) v l
  joined_value i (negsuc n) v l = count_right n (residue w (i +ℤ negsuc n)) v l

pub joined : Joined
joined w h i j s l =
    let n : ℤ = joined_count w i j in
    let r : ℕ = residue w (i +ℤ j) in
    let below : r < w = residue_below w h (i +ℤ j) in
    let e : (rotated w n s).value ≡ (rotated w (pos r) s).value =
    by_value w n s ∙ joined_value w h i j s.value l ∙ sym (by_value w (pos r) s) in
    let m : (rotated w n s).m ≡ m_after w (last_count i j) (rotated w n s).value s.m =
    m_after_law w h n s l ∙ count_m w h (last_count i j) r (rotated w n s).value s.m below in
    ap (λ (x : ℕ). record { value = (rotated w n s).value; m = x }) m
    ∙ ap (λ (x : ℕ). record { value = x; m = m_after w (last_count i j) x s.m }) e
    ∙ sym (rotations_add w h i j s l)

-- ---- the field of -32 to 31

-- the count for a residue r of a width up to 32 is in it, but 32 itself
count_fits : (w : ℕ) → 0 < w → w ≤ 32 → (z : ℤ) (r : ℕ) → r < w → (r ≡ 0 → pos 0 <ℤ z → w ≤ 31)
    → InField (count_for w z r)
count_fits w h b (pos zero) r p f = (record { le = tt }, record { le = tt })
count_fits w h b (pos (suc n)) zero p f =
    let positive : pos 0 <ℤ pos (suc n) = record { lt = lt→ltb 0 (suc n) (omega arith) } in
    (record { le = tt }, record { le = le→leb w 31 (f refl positive) })
count_fits w h b (pos (suc n)) (suc r) p f = (record { le = tt }, record { le = le→leb (suc r) 31 (omega arith) })
count_fits w h b (negsuc n) r p f =
    subst InField (sym (below_width w h r p))
    (record { le = le→leb (w - suc r) 31 (omega arith) }, record { le = tt })

pub joined_fits_16 : JoinedFits16
joined_fits_16 i j =
    count_fits 16 (lit< tt) (omega arith) (last_count i j) (residue 16 (i +ℤ j)) (residue_below 16 (lit< tt) (i +ℤ j))
    (λ e p. omega arith)

pub joined_fits_32 : JoinedFits32
joined_fits_32 i j other =
    count_fits 32 (lit< tt) (omega arith) (last_count i j) (residue 32 (i +ℤ j)) (residue_below 32 (lit< tt) (i +ℤ j))
    (λ e p. absurd (other (e, p)))

-- In a width above 1, a pair of whole widths whose last count is positive takes 1 with M 0 to 1 with M 1. No count
-- below the width does: 0 leaves M, a negative one leaves the highest bit in M, a positive one moves the 1.
module _ (w : ℕ) (h : 1 < w) where
  some : 0 < w
  some = omega arith

  abbrev one : Shifted
  one = record { value = 1; m = 0 }

  in_width : (k : ℕ) → 0 < k → 1 < 2 ^ k
  in_width k p = pow-lt {i = 0} {j = k} p

  moved : (n : ℕ) → suc n < w → rotate_by w (pos (suc n)) 1 ≡ 2 ^ n * 2
  moved n p =
      let k : ℕ = w - suc n in
      ap (rotate_by w (pos (suc n))) (let e : 1 ≡ 0 * 2 ^ k + 1 = omega arith in e)
      ∙ exchanged w some (suc n) k 0 1 (omega arith) (pow_pos (suc n)) (in_width k (omega arith))
      ∙ (let e : 1 * 2 ^ suc n + 0 ≡ 2 ^ suc n = omega arith in e)
      ∙ pow-suc 2 n

  not_by : (n : ℤ) → n <ℤ pos w → ¬ (rotated w n one ≡ record { value = 1; m = 1 })
  not_by (pos zero) p e =
      let m : one.m ≡ 1 = ap (λ (s : Shifted). s.m) e in
      omega arith
  not_by (pos (suc n)) p e =
      let v : rotate_by w (pos (suc n)) 1 ≡ 1 =
      sym (by_value w (pos (suc n)) one) ∙ ap (λ (s : Shifted). s.value) e in
      omega (arith, moved n (ltb→lt (suc n) w p.lt))
  not_by (negsuc n) p e =
      let m : (rotated w (negsuc n) one).m ≡ 1 / 2 ^ (w - 1) =
      m_after_law w some (negsuc n) one (in_width w some) ∙ ap (λ (s : Shifted). s.value / 2 ^ (w - 1)) e in
      omega (arith, ap (λ (s : Shifted). s.m) e, div-eq_of_lt (in_width (w - 1) (omega arith)))

  pair_of_one : (i j : ℤ) → residue w (i +ℤ j) ≡ 0 → pos 0 <ℤ last_count i j
      → rotated w j (rotated w i one) ≡ record { value = 1; m = 1 }
  pair_of_one i j e p =
      let v : ℕ = (rotated w (pos (residue w (i +ℤ j))) one).value in
      rotations_add w some i j one (in_width w some)
      ∙ ap (λ (x : ℕ). record { value = v; m = x }) (left_m w some (last_count i j) v 0 p)
      ∙ ap (λ (r : ℕ). record { value = (rotated w (pos r) one).value; m = (rotated w (pos r) one).value % 2 }) e

pub no_count_replaces : NoCountReplaces
no_count_replaces i j n (e, p) (low, high) same =
    not_by 32 (lit< tt) n (below n high) (same (one 32 (lit< tt)) (lit< tt) ∙ pair_of_one 32 (lit< tt) i j e p)
  where
    below : (z : ℤ) → z ≤ℤ pos 31 → z <ℤ pos 32
    below (pos k) q = record { lt = lt→ltb k 32 (omega (arith, leb→le k 31 q.le)) }
    below (negsuc k) q = record { lt = tt }

-- ---- the instructions

-- what an instruction takes from a file to shift it, and the file with what was shifted put back
abbrev taken : Shiftable → File → Shifted
taken Sht f = record { value = reg f T; m = flag flag_m f }
taken Shd f = record { value = reg f D; m = flag flag_m f }
taken Sha f = record { value = reg f A; m = flag flag_m f }
taken Sad f = record { value = reg f A * word_range + reg f D; m = flag flag_m f }

abbrev put : Shiftable → File → Shifted → File
put Sht f s = with_reg (with_flag flag_m s.m f) T s.value
put Shd f s = with_reg (with_flag flag_m s.m f) D s.value
put Sha f s = with_reg (with_flag flag_m s.m f) A s.value
put Sad f s = with_reg (with_reg (with_flag flag_m s.m f) A (s.value / word_range)) D (s.value % word_range)

shifted_is : (t : Shiftable) (n : ℤ) (f : File)
    → shifted f t Rotational n ≡ put t f (rotated (shift_width t) n (taken t f))
shifted_is Sht n f = refl
shifted_is Shd n f = refl
shifted_is Sha n f = refl
shifted_is Sad n f = refl

some_width : (t : Shiftable) → 0 < shift_width t
some_width Sht = lit< tt
some_width Shd = lit< tt
some_width Sha = lit< tt
some_width Sad = lit< tt

-- what is taken is of the width, and M a bit
taken_narrow : (t : Shiftable) (f : File) → ((r : Register) → reg f r < word_range) → Narrow (shift_width t) (taken t f)
taken_narrow Sht f p = record { value = p T; m = mod-lt _ (lit< tt) }
taken_narrow Shd f p = record { value = p D; m = mod-lt _ (lit< tt) }
taken_narrow Sha f p = record { value = p A; m = mod-lt _ (lit< tt) }
taken_narrow Sad f p = record { value = digits_lt (p A) (p D); m = mod-lt _ (lit< tt) }

-- what was put back is taken again, and a second putting back takes the first one's place
taken_put : (t : Shiftable) (f : File) (s : Shifted) → s.m < 2 → taken t (put t f s) ≡ s
taken_put Sht f s b = ap (λ (x : ℕ). record { value = s.value; m = x }) (bit_read flag_m s.m f.sts b)
taken_put Shd f s b = ap (λ (x : ℕ). record { value = s.value; m = x }) (bit_read flag_m s.m f.sts b)
taken_put Sha f s b = ap (λ (x : ℕ). record { value = s.value; m = x }) (bit_read flag_m s.m f.sts b)
taken_put Sad f s b =
    ap (λ (x : ℕ). record { value = s.value / word_range * word_range + s.value % word_range; m = x })
    (bit_read flag_m s.m f.sts b)
    ∙ ap (λ (x : ℕ). record { value = x; m = s.m }) (div-add-mod' s.value word_range)

put_put : (t : Shiftable) (f : File) (s r : Shifted) → s.m < 2 → put t (put t f s) r ≡ put t f r
put_put Sht f s r b = ap (λ (x : ℕ). with_reg (with_reg f Sts x) T r.value) (bit_again flag_m s.m f.sts b r.m)
put_put Shd f s r b = ap (λ (x : ℕ). with_reg (with_reg f Sts x) D r.value) (bit_again flag_m s.m f.sts b r.m)
put_put Sha f s r b = ap (λ (x : ℕ). with_reg (with_reg f Sts x) A r.value) (bit_again flag_m s.m f.sts b r.m)
put_put Sad f s r b =
    ap (λ (x : ℕ). with_reg (with_reg (with_reg f Sts x) A (r.value / word_range)) D (r.value % word_range))
    (bit_again flag_m s.m f.sts b r.m)

pub instructions_join : InstructionsJoin
instructions_join t i j f p =
    let w : ℕ = shift_width t in
    let h : 0 < w = some_width t in
    let s : Shifted = taken t f in
    let g : Narrow w s = taken_narrow t f p in
    let a : Shifted = rotated w i s in
    let b : a.m < 2 = (shift_narrow w h Rotational i s g).m in
    shifted_is t (joined_count w i j) f
    ∙ ap (put t f) (joined w h i j s g.value)
    ∙ sym (put_put t f a (rotated w j a) b)
    ∙ ap (λ (x : Shifted). put t (put t f a) (rotated w j x)) (sym (taken_put t f a b))
    ∙ sym (shifted_is t j (put t f a))
    ∙ ap (λ (x : File). shifted x t Rotational j) (sym (shifted_is t i f))
