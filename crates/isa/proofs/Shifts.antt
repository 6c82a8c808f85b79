-- Facts that shifts of 16 and 32 bits share, for any width above 0.
-- Assumes nothing.
use Rattle.std.proofs.Common.{◌≡◌, ℕ, zero, suc, ◌+◌, ◌-◌, ◌*◌, ◌/◌, ◌%◌, ◌^◌, ◌<◌, Bool, true, false, not, ℤ, pos, negsuc, ◌+ℤ◌, ◌*ℤ◌, neg_ℤ, nat_abs, sym, refl, ap, ◌∙◌, subst, zero-le, add-zero, mod-lt, mod-eq_of_lt, mul_assoc, mul_comm, div-lt_iff_lt-mul, pow-suc, div-add-mod', zero-mul, mul-one, div-one, mul-div_cancel, add-one, arith, lit<, pow_pos, pow-add, shr-shr, shr_lt, le-leb}
use native.Mathlib.Nat.{mul-mod_left}
use lib.Pow.{mod-mod-pow}
use lib.Arith.{mod-mul, lt-one, digits_lt, digits_div, digits_mod}
use lib.IntN.{suc_ℤ, pred_ℤ}
use lib.IntN.{+ℤ-suc_ℤ, +ℤ-pred_ℤ, +ℤ_idr, +ℤ_invr, zero-*ℤ, suc_ℤ-*ℤ}
use lib.Signed.{le_z}
use Rattle.isa.specs.Flags.{Shifted, lower_input, upper_input, left_once, right_once, once, places_by, shift_by}
use Rattle.isa.specs.declared.instruction.ShiftKind.{ShiftKind}
use Rattle.isa.specs.declared.instruction.ShiftKind.TheVariants.{Arithmetic, Rotational, ZeroInput, LinkInput}
use Rattle.isa.proofs.Signed.{twice_half}

-- a value of the width w, and M a bit
pub record Narrow (w : ℕ) (s : Shifted) : Type 0 where
  pub value : s.value < 2 ^ w
  pub m : s.m < 2

-- the bit that comes in is a bit
lower_bit : (k : ShiftKind) (top m : ℕ) → top < 2 → m < 2 → lower_input k top m < 2
lower_bit Arithmetic top m p q = lit< tt
lower_bit Rotational top m p q = p
lower_bit ZeroInput top m p q = lit< tt
lower_bit LinkInput top m p q = q

upper_bit : (k : ShiftKind) (top low m : ℕ) → top < 2 → low < 2 → m < 2 → upper_input k top low m < 2
upper_bit Arithmetic top low m p q r = p
upper_bit Rotational top low m p q r = q
upper_bit ZeroInput top low m p q r = lit< tt
upper_bit LinkInput top low m p q r = r

module _ (w : ℕ) (h : 0 < w) where
  abbrev half : ℕ
  half = 2 ^ (w - 1)

  -- the top bit of a value of the width
  top_bit : (v : ℕ) → v < 2 ^ w → v / 2 ^ (w - 1) < 2
  top_bit v l =
      (div-lt_iff_lt-mul (pow_pos (w - 1))).1 (subst (λ (x : ℕ). v < x) (twice_half w h ∙ mul_comm (2 ^ (w - 1)) 2) l)

  half_below : (v : ℕ) → v < 2 ^ w → v / 2 < 2 ^ (w - 1)
  half_below v l = (div-lt_iff_lt-mul (lit< tt)).1 (subst (λ (x : ℕ). v < x) (twice_half w h) l)

  -- a single shift stays in the width
  pub once_narrow : (left : Bool) (k : ShiftKind) (s : Shifted) → Narrow w s → Narrow w (once left w k s)
  unfolding left_once right_once
  once_narrow true k s g =
      let top = top_bit s.value g.value in
      let low = lower_bit k (s.value / half) s.m top g.m in
      record {
        value =
            subst (λ (x : ℕ). s.value % half * 2 + lower_input k (s.value / half) s.m < x) (sym (twice_half w h))
            (digits_lt (mod-lt s.value (pow_pos (w - 1))) low);
        m = top;
      }
  once_narrow false k s g =
      let top = top_bit s.value g.value in
      let low : s.value % 2 < 2 = mod-lt s.value (lit< tt) in
      let up = upper_bit k (s.value / half) (s.value % 2) s.m top low g.m in
      record {
        value =
            subst (λ (x : ℕ). upper_input k (s.value / half) (s.value % 2) s.m * half + s.value / 2 < x)
            (mul_comm 2 half ∙ sym (twice_half w h)) (digits_lt up (half_below s.value g.value));
        m = low;
      }

  -- so does a shift by any count
  pub places_narrow : (left : Bool) (k : ShiftKind) (n : ℕ) (s : Shifted) → Narrow w s
      → Narrow w (places_by left w k n s)
  places_narrow left k zero s g = g
  places_narrow left k (suc n) s g = once_narrow left k (places_by left w k n s) (places_narrow left k n s g)

  pub shift_narrow : (k : ShiftKind) (z : ℤ) (s : Shifted) → Narrow w s → Narrow w (shift_by w k z s)
  shift_narrow k z s g = places_narrow (le_z (pos 0) z) k (nat_abs z) s g

-- shifting by i + j is shifting by j, then by i, in any direction and width
pub places_split :
    (left : Bool) (w : ℕ) (k : ShiftKind) (i j : ℕ) (s : Shifted)
    → places_by left w k (j + i) s ≡ places_by left w k i (places_by left w k j s)
places_split left w k zero j s = ap (λ (n : ℕ). places_by left w k n s) (add-zero j)
places_split left w k (suc i) j s =
    ap (λ (n : ℕ). places_by left w k n s) q ∙ ap (once left w k) (places_split left w k i j s)
  where
    q : j + suc i ≡ suc (j + i)
    q = omega arith

-- with zeros coming in from above, n + 1 places are a division, and M is the last bit out
module _ (w v m : ℕ) where
  abbrev right : ℕ → Shifted
  right n = places_by false w ZeroInput n (record { value = v; m = m })

  right_value : (n : ℕ) → (right n).value ≡ v / 2 ^ n
  unfolding right_once
  right_value zero = sym (div-one v)
  right_value (suc n) =
      simp zero-mul
      (ap (λ (x : ℕ). 0 + x / 2) (right_value n)
      ∙ zero-plus (v / 2 ^ n / 2)
      ∙ shr-shr v n 1
      ∙ ap (λ (j : ℕ). v / 2 ^ j) (add-one n))
    where
      zero-plus : (x : ℕ) → 0 + x ≡ x
      zero-plus x = omega arith

  pub zero_right : (n : ℕ) → right (suc n) ≡ record { value = v / 2 ^ suc n; m = v / 2 ^ n % 2 }
  unfolding right_once
  zero_right n =
      ap (λ (x : ℕ). record { value = x; m = (right n).value % 2 }) (right_value (suc n))
      ∙ ap (λ (x : ℕ). record { value = v / 2 ^ suc n; m = x % 2 }) (right_value n)

-- with zeros coming in from below, n + 1 places are a product in the width, and M is the last bit out
module _ (w v m : ℕ) (h : 0 < w) (l : v < 2 ^ w) where
  left_step : (x : ℕ) → x % 2 ^ w % 2 ^ (w - 1) * 2 + 0 ≡ (x * 2) % 2 ^ w
  left_step x =
      add-zero _
      ∙ ap (λ (y : ℕ). y * 2) (ap (λ (j : ℕ). x % 2 ^ j % 2 ^ (w - 1)) q ∙ mod-mod-pow x 1 (w - 1))
      ∙ sym
      (ap (λ (y : ℕ). (x * 2) % y) (twice_half w h)
      ∙ mod-mul (x * 2) {m = 2 ^ (w - 1)} {c = 2} (pow_pos (w - 1)) (lit< tt)
      ∙ simp (mul-div_cancel x {n = 2} (lit< tt), mul-mod_left, add-zero))
    where
      q : w ≡ 1 + (w - 1)
      q = omega arith

  abbrev left : ℕ → Shifted
  left n = places_by true w ZeroInput n (record { value = v; m = m })

  left_value : (n : ℕ) → (left n).value ≡ (v * 2 ^ n) % 2 ^ w
  unfolding left_once
  left_value zero = sym (mod-eq_of_lt l) ∙ ap (λ (x : ℕ). x % 2 ^ w) (sym (mul-one v))
  left_value (suc n) =
      ap (λ (x : ℕ). x % 2 ^ (w - 1) * 2 + 0) (left_value n)
      ∙ left_step (v * 2 ^ n)
      ∙ ap (λ (x : ℕ). x % 2 ^ w) (mul_assoc v (2 ^ n) 2 ∙ ap (λ (x : ℕ). v * x) (sym (pow-suc 2 n)))

  pub zero_left : (n : ℕ) → left (suc n)
      ≡ record { value = (v * 2 ^ suc n) % 2 ^ w; m = (v * 2 ^ n) % 2 ^ w / 2 ^ (w - 1) }
  unfolding left_once
  zero_left n =
      ap (λ (x : ℕ). record { value = x; m = (left n).value / 2 ^ (w - 1) }) (left_value (suc n))
      ∙ ap (λ (x : ℕ). record { value = (v * 2 ^ suc n) % 2 ^ w; m = x / 2 ^ (w - 1) }) (left_value n)

-- a count that is not negative goes to the left
pub to_left : (w : ℕ) (k : ShiftKind) (n : ℕ) (s : Shifted) → shift_by w k (pos n) s ≡ places_by true w k n s
to_left w k n s = ap (λ (left : Bool). places_by left w k n s) (le-leb 0 n zero-le)

-- ---- rotations, of the value alone: by one place to the left or to the right, by n places, by a count of either sign
module _ (w : ℕ) where
  abbrev rotate_once : Bool → ℕ → ℕ
  rotate_once true v = v % 2 ^ (w - 1) * 2 + v / 2 ^ (w - 1)
  rotate_once false v = v % 2 * 2 ^ (w - 1) + v / 2

  abbrev rotate_places : Bool → ℕ → ℕ → ℕ
  rotate_places left zero v = v
  rotate_places left (suc n) v = rotate_once left (rotate_places left n v)

  once_value : (left : Bool) (s : Shifted) → (once left w Rotational s).value ≡ rotate_once left s.value
  unfolding left_once right_once
  once_value true s = refl
  once_value false s = refl

  places_value : (left : Bool) (n : ℕ) (s : Shifted)
      → (places_by left w Rotational n s).value ≡ rotate_places left n s.value
  places_value left zero s = refl
  places_value left (suc n) s =
      once_value left (places_by left w Rotational n s) ∙ ap (rotate_once left) (places_value left n s)

  abbrev pub rotate_by : ℤ → ℕ → ℕ
  rotate_by (pos n) v = rotate_places true n v
  rotate_by (negsuc n) v = rotate_places false (suc n) v

  pub by_value : (i : ℤ) (s : Shifted) → (shift_by w Rotational i s).value ≡ rotate_by i s.value
  by_value (pos n) s = ap (λ (t : Shifted). t.value) (to_left w Rotational n s) ∙ places_value true n s
  by_value (negsuc n) s = places_value false (suc n) s

  -- the bit that came in last: the lowest of the value to the left, the highest to the right
  abbrev last_in : Bool → ℕ → ℕ
  last_in true v = v % 2
  last_in false v = v / 2 ^ (w - 1)

-- three digits, grouped from the left and from the right
spread : (t r b n k : ℕ) → (t * n + r) * k + b ≡ t * (n * k) + (r * k + b)
spread t r b n k = omega arith

module _ (w : ℕ) (h : 0 < w) where
  rotation_narrow : (left : Bool) (n v : ℕ) → v < 2 ^ w → rotate_places w left n v < 2 ^ w
  rotation_narrow left n v l =
      let s : Shifted = record { value = v; m = 0 } in
      subst (λ (x : ℕ). x < 2 ^ w) (places_value w left n s)
      (places_narrow w h left Rotational n s (record { value = l; m = lit< tt })).value

  -- one place and one back, from either side
  rotated_back : (left : Bool) (v : ℕ) → v < 2 ^ w → rotate_once w (not left) (rotate_once w left v) ≡ v
  rotated_back true v l =
      let top = top_bit w h v l in
      ap (λ (x : ℕ). x * 2 ^ (w - 1) + rotate_once w true v / 2) (digits_mod (v % 2 ^ (w - 1)) top)
      ∙ ap (λ (x : ℕ). v / 2 ^ (w - 1) * 2 ^ (w - 1) + x) (digits_div (v % 2 ^ (w - 1)) top)
      ∙ div-add-mod' v (2 ^ (w - 1))
  rotated_back false v l =
      let rest = half_below w h v l in
      ap (λ (x : ℕ). x * 2 + rotate_once w false v / 2 ^ (w - 1)) (digits_mod (v % 2) rest)
      ∙ ap (λ (x : ℕ). v / 2 * 2 + x) (digits_div (v % 2) rest)
      ∙ div-add-mod' v 2

  -- M after n + 1 places is that bit
  once_m : (left : Bool) (s : Shifted) → s.value < 2 ^ w
      → (once left w Rotational s).m ≡ last_in w left (rotate_once w left s.value)
  unfolding left_once right_once
  once_m true s l = sym (digits_mod (s.value % 2 ^ (w - 1)) (top_bit w h s.value l))
  once_m false s l = sym (digits_div (s.value % 2) (half_below w h s.value l))

  pub places_m : (left : Bool) (n : ℕ) (s : Shifted) → s.value < 2 ^ w
      → (places_by left w Rotational (suc n) s).m ≡ last_in w left (places_by left w Rotational (suc n) s).value
  places_m left n s l =
      let before : Shifted = places_by left w Rotational n s in
      let narrow : before.value < 2 ^ w =
      subst (λ (x : ℕ). x < 2 ^ w) (sym (places_value w left n s)) (rotation_narrow left n s.value l) in
      once_m left before narrow ∙ ap (last_in w left) (sym (once_value w left before))

  -- ---- counts add
  by_narrow : (i : ℤ) (v : ℕ) → v < 2 ^ w → rotate_by w i v < 2 ^ w
  by_narrow (pos n) v l = rotation_narrow true n v l
  by_narrow (negsuc n) v l = rotation_narrow false (suc n) v l

  pub narrow_value : (i : ℤ) (s : Shifted) → s.value < 2 ^ w → (shift_by w Rotational i s).value < 2 ^ w
  narrow_value i s l = subst (λ (x : ℕ). x < 2 ^ w) (sym (by_value w i s)) (by_narrow i s.value l)

  by_suc : (i : ℤ) (v : ℕ) → v < 2 ^ w → rotate_by w (suc_ℤ i) v ≡ rotate_once w true (rotate_by w i v)
  by_suc (pos n) v l = refl
  by_suc (negsuc zero) v l = sym (rotated_back false v l)
  by_suc (negsuc (suc n)) v l = sym (rotated_back false (rotate_by w (negsuc n) v) (by_narrow (negsuc n) v l))

  by_pred : (i : ℤ) (v : ℕ) → v < 2 ^ w → rotate_by w (pred_ℤ i) v ≡ rotate_once w false (rotate_by w i v)
  by_pred (pos zero) v l = refl
  by_pred (pos (suc n)) v l = sym (rotated_back true (rotate_by w (pos n) v) (by_narrow (pos n) v l))
  by_pred (negsuc n) v l = refl

  pub by_sum : (i j : ℤ) (v : ℕ) → v < 2 ^ w → rotate_by w (i +ℤ j) v ≡ rotate_by w j (rotate_by w i v)
  by_sum i (pos zero) v l = ap (λ (z : ℤ). rotate_by w z v) (+ℤ_idr i)
  by_sum i (pos (suc n)) v l =
      ap (λ (z : ℤ). rotate_by w z v) (+ℤ-suc_ℤ i (pos n))
      ∙ by_suc (i +ℤ pos n) v l
      ∙ ap (rotate_once w true) (by_sum i (pos n) v l)
  by_sum i (negsuc zero) v l =
      ap (λ (z : ℤ). rotate_by w z v) (+ℤ-pred_ℤ i (pos zero) ∙ ap pred_ℤ (+ℤ_idr i)) ∙ by_pred i v l
  by_sum i (negsuc (suc n)) v l =
      ap (λ (z : ℤ). rotate_by w z v) (+ℤ-pred_ℤ i (negsuc n))
      ∙ by_pred (i +ℤ negsuc n) v l
      ∙ ap (rotate_once w false) (by_sum i (negsuc n) v l)

  -- ---- n places to the left exchange a value's n upper bits, a, and its k lower bits, b
  pub exchanged : (n k a b : ℕ) → w ≡ n + k → a < 2 ^ n → b < 2 ^ k
      → rotate_by w (pos n) (a * 2 ^ k + b) ≡ b * 2 ^ n + a
  exchanged zero k a b e p q = subst (λ (x : ℕ). x * 2 ^ k + b ≡ b * 1 + x) (sym (lt-one p)) (omega arith)
  exchanged (suc n) k a b e p q =
      ap (λ (x : ℕ). rotate_by w (pos x) v) one_more
      ∙ by_sum (pos 1) (pos n) v narrow
      ∙ ap (rotate_by w (pos n)) first
      ∙ exchanged n (suc k) rest (b * 2 + top) (omega arith) rest_below low
      ∙ others
    where
      v : ℕ
      v = a * 2 ^ k + b

      top : ℕ
      top = a / 2 ^ n

      rest : ℕ
      rest = a % 2 ^ n

      one_more : suc n ≡ 1 + n
      one_more = omega arith

      narrow : v < 2 ^ w
      narrow = subst (λ (x : ℕ). v < x) (sym (ap (λ (x : ℕ). 2 ^ x) e ∙ pow-add 2 (suc n) k)) (digits_lt p q)

      top_two : top < 2
      top_two = shr_lt {n = a} 1 n (subst (λ (x : ℕ). a < 2 ^ x) one_more p)

      rest_below : rest < 2 ^ n
      rest_below = mod-lt a (pow_pos n)

      a_is : top * 2 ^ n + rest ≡ a
      a_is = div-add-mod' a (2 ^ n)

      half_is : 2 ^ (w - 1) ≡ 2 ^ n * 2 ^ k
      half_is = ap (λ (x : ℕ). 2 ^ x) (let f : w - 1 ≡ n + k = omega arith in f) ∙ pow-add 2 n k

      -- the first place takes the top bit below b
      below : rest * 2 ^ k + b < 2 ^ (w - 1)
      below = subst (λ (x : ℕ). rest * 2 ^ k + b < x) (sym half_is) (digits_lt rest_below q)

      v_is : v ≡ top * 2 ^ (w - 1) + (rest * 2 ^ k + b)
      v_is =
          ap (λ (x : ℕ). x * 2 ^ k + b) (sym a_is)
          ∙ spread top rest b (2 ^ n) (2 ^ k)
          ∙ ap (λ (x : ℕ). top * x + (rest * 2 ^ k + b)) (sym half_is)

      first : rotate_once w true v ≡ rest * 2 ^ suc k + (b * 2 + top)
      first =
          ap (rotate_once w true) v_is
          ∙ simp (digits_mod top below, digits_div top below) refl
          ∙ spread rest b top (2 ^ k) 2
          ∙ ap (λ (x : ℕ). rest * x + (b * 2 + top)) (sym (pow-suc 2 k))

      low : b * 2 + top < 2 ^ suc k
      low = subst (λ (x : ℕ). b * 2 + top < x) (sym (pow-suc 2 k)) (digits_lt q top_two)

      -- the other n take the rest of a there
      others : (b * 2 + top) * 2 ^ n + rest ≡ b * 2 ^ suc n + a
      others =
          spread b top rest 2 (2 ^ n)
          ∙ ap (λ (x : ℕ). b * x + (top * 2 ^ n + rest)) (mul_comm 2 (2 ^ n) ∙ sym (pow-suc 2 n))
          ∙ ap (λ (x : ℕ). b * 2 ^ suc n + x) a_is

  -- ---- so whole widths change nothing
  pub whole_width : (v : ℕ) → v < 2 ^ w → rotate_by w (pos w) v ≡ v
  whole_width v l =
      ap (rotate_by w (pos w)) (let e : v ≡ v * 1 + 0 = omega arith in e)
      ∙ exchanged w 0 v 0 (omega arith) l (lit< tt)
      ∙ (let e : 0 * 2 ^ w + v ≡ v = omega arith in e)

  widths_left : (n v : ℕ) → v < 2 ^ w → rotate_by w (pos n *ℤ pos w) v ≡ v
  widths_left zero v l = ap (λ (z : ℤ). rotate_by w z v) (zero-*ℤ (pos w))
  widths_left (suc n) v l =
      ap (λ (z : ℤ). rotate_by w z v) (suc_ℤ-*ℤ (pos n) (pos w))
      ∙ by_sum (pos n *ℤ pos w) (pos w) v l
      ∙ ap (rotate_by w (pos w)) (widths_left n v l)
      ∙ whole_width v l

  whole_widths : (q : ℤ) (v : ℕ) → v < 2 ^ w → rotate_by w (q *ℤ pos w) v ≡ v
  whole_widths (pos n) v l = widths_left n v l
  whole_widths (negsuc n) v l =
      let i : ℤ = pos (suc n) *ℤ pos w in
      sym (ap (rotate_by w (neg_ℤ i)) (widths_left (suc n) v l))
      ∙ sym (by_sum i (neg_ℤ i) v l)
      ∙ ap (λ (z : ℤ). rotate_by w z v) (+ℤ_invr i)

  pub by_congruent : (i q : ℤ) (v : ℕ) → v < 2 ^ w → rotate_by w (i +ℤ q *ℤ pos w) v ≡ rotate_by w i v
  by_congruent i q v l = by_sum i (q *ℤ pos w) v l ∙ whole_widths q (rotate_by w i v) (by_narrow i v l)
