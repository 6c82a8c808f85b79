-- Document 02, card 9: "Rotating by one count and then by another gives the value of rotating by their sum modulo the
-- width, for 16 and 32 bits, counts of either sign and zero. .. Give it for any width above 0."
use Rattle.std.specs.Prelude.{◌≡◌, ℕ, zero, suc, ◌-◌, ◌/◌, ◌%◌, ◌^◌, ◌<◌, ℤ, pos, negsuc, ◌+ℤ◌, ◌-ℤ◌, ◌*ℤ◌, ◌≤ℤ◌, ◌<ℤ◌}
use Rattle.std.specs.Int.Signed.{shr_z}
use Rattle.isa.specs.Machine.{word_range, reg}
use Rattle.isa.specs.Flags.{residue, Shifted, shift_by}
use Rattle.isa.specs.Instructions.{shifted}
use Rattle.isa.specs.declared.machine.Register.{Register}
use Rattle.isa.specs.declared.machine.File.{File}
use Rattle.isa.specs.declared.instruction.ShiftKind.TheVariants.{Rotational}
use Rattle.isa.specs.declared.instruction.Shiftable.{Shiftable}
use Rattle.isa.specs.declared.instruction.Shiftable.TheVariants.{Sht, Shd, Sha, Sad}

-- A rotation by a count of either sign or zero, left when positive: the definition that the shift instructions cite.
abbrev pub rotated : ℕ → ℤ → Shifted → Shifted
rotated w n s = shift_by w Rotational n s

-- "the last count that isn't 0" of i and then j. Ruling D10: the second, or the first if the second is 0.
abbrev pub last_count : ℤ → ℤ → ℤ
last_count i (pos zero) = i
last_count i (pos (suc n)) = pos (suc n)
last_count i (negsuc n) = negsuc n

-- "M after the pair is the value's lowest bit if the last count that isn't 0 is positive, its highest if negative, and
-- as before if both are 0." Ruling D10: of v, the value after both, which is below 2 ^ w; m is M before.
abbrev pub m_after : ℕ → ℤ → ℕ → ℕ → ℕ
m_after w (pos zero) v m = m
m_after w (pos (suc n)) v m = v % 2
m_after w (negsuc n) v m = v / 2 ^ (w - 1)

-- ---- the theorem: value and M of a pair, for every width above 0, all counts, all values of the width, any M. "Modulo
-- the width" is the residue from 0 to w - 1 (ruling D9). For 16 and 32 bits: RotationsAddIn 16, RotationsAddIn 32.
abbrev pub RotationsAddIn : ℕ → Type 0
RotationsAddIn w =
    (i j : ℤ) (s : Shifted) → s.value < 2 ^ w
    → let v = (rotated w (pos (residue w (i +ℤ j))) s).value in
    rotated w j (rotated w i s) ≡ record { value = v; m = m_after w (last_count i j) v s.m }

abbrev pub RotationsAdd : Type 0
RotationsAdd = (w : ℕ) → 0 < w → RotationsAddIn w

-- That `residue` is the residue: it is below the width, and the count is the residue plus whole widths, shr_z i w of
-- them (the quotient rounded down).
abbrev pub ResidueIs : Type 0
ResidueIs = (w : ℕ) → 0 < w → (i : ℤ) → (residue w i < w) × (i ≡ pos (residue w i) +ℤ shr_z i w *ℤ pos w)

-- Ruling D9: "rotating by any count congruent to it gives the same value", congruent being whole widths apart. M is not
-- part of it: a count of 0 leaves M.
abbrev pub CongruentCounts : Type 0
CongruentCounts =
    (w : ℕ) → 0 < w → (i q : ℤ) (s : Shifted) → s.value < 2 ^ w
    → (rotated w (i +ℤ q *ℤ pos w) s).value ≡ (rotated w i s).value

-- ---- for the patch desk: one rotation for two

-- Ruling D11: "by the count r (w where r is 0) if the last count that is not 0 is positive, by r - w if it is negative,
-- r being the residue". If both counts are 0, by 0.
abbrev pub count_for : ℕ → ℤ → ℕ → ℤ
count_for w (pos zero) r = pos 0
count_for w (pos (suc n)) zero = pos w
count_for w (pos (suc n)) (suc r) = pos (suc r)
count_for w (negsuc n) r = pos r -ℤ pos w

abbrev pub joined_count : ℕ → ℤ → ℤ → ℤ
joined_count w i j = count_for w (last_count i j) (residue w (i +ℤ j))

-- the joined count stands for the pair, M included
abbrev pub Joined : Type 0
Joined =
    (w : ℕ) → 0 < w → (i j : ℤ) (s : Shifted) → s.value < 2 ^ w
    → rotated w (joined_count w i j) s ≡ rotated w j (rotated w i s)

-- the field of an instruction's count (Decode.count_of), -32 to 31
abbrev pub InField : ℤ → Type 0
InField n = (negsuc 31 ≤ℤ n) × (n ≤ℤ pos 31)

-- In 16 bits the joined count is always in the field, ..
abbrev pub JoinedFits16 : Type 0
JoinedFits16 = (i j : ℤ) → InField (joined_count 16 i j)

-- .. and in 32 bits too, unless the sum is whole widths and the last count is positive: then it is 32, ..
abbrev pub NeedsBoth : ℤ → ℤ → Type 0
NeedsBoth i j = (residue 32 (i +ℤ j) ≡ 0) × (pos 0 <ℤ last_count i j)

abbrev pub JoinedFits32 : Type 0
JoinedFits32 = (i j : ℤ) → ¬ NeedsBoth i j → InField (joined_count 32 i j)

-- .. and no count of the field does what the pair does.
abbrev pub NoCountReplaces : Type 0
NoCountReplaces =
    (i j n : ℤ) → NeedsBoth i j → InField n
    → ¬ ((s : Shifted) → s.value < 2 ^ 32 → rotated 32 n s ≡ rotated 32 j (rotated 32 i s))

-- ---- the instructions: SHT, SHD and SHA rotate 16 bits, SAD 32
abbrev pub shift_width : Shiftable → ℕ
shift_width Sht = 16
shift_width Shd = 16
shift_width Sha = 16
shift_width Sad = 32

-- Two rotations of one register, or of A and D, leave the file that one by the joined count leaves. P is outside this:
-- each instruction takes it one further before it shifts (Instructions.complete).
abbrev pub InstructionsJoin : Type 0
InstructionsJoin =
    (t : Shiftable) (i j : ℤ) (f : File) → ((r : Register) → reg f r < word_range)
    → shifted f t Rotational (joined_count (shift_width t) i j) ≡ shifted (shifted f t Rotational i) t Rotational j
