-- Fields of k bits and the whole numbers that they stand for, for any width.
-- Assumes nothing.
use Rattle.std.proofs.Common.{◌≡◌, ℕ, suc, ◌-◌, ◌*◌, ◌^◌, ◌<◌, Bool, true, false, cond, ltb, ℤ, pos, negsuc, refl, ap, ◌∙◌, mod-lt, pow-suc, arith, pow_pos, ltb-false, ltb-true}
use lib.Signed.{mag}
use Rattle.isa.specs.Flags.{signed_of, residue, bits_of}

-- a width above 0 is twice its half
pub twice_half : (k : ℕ) → 0 < k → 2 ^ k ≡ 2 ^ (k - 1) * 2
twice_half k h = ap (λ (j : ℕ). 2 ^ j) q ∙ pow-suc 2 (k - 1)
  where
    q : k ≡ suc (k - 1)
    q = omega arith

-- a residue is below its modulus, so the low k bits are a number of k bits
pub residue_below : (m : ℕ) → 0 < m → (z : ℤ) → residue m z < m
residue_below m h (pos n) = mod-lt n h
residue_below m h (negsuc n) = omega (arith, mod-lt n h)

pub bits_below : (k : ℕ) (z : ℤ) → bits_of k z < 2 ^ k
bits_below k z = residue_below (2 ^ k) (pow_pos k) z

module _ (k n : ℕ) (h : 0 < k) (l : n < 2 ^ k) where
  -- a signed field of k bits lies from -2 ^ (k - 1) to 2 ^ (k - 1) - 1
  pub signed_range : mag (signed_of k n) < 2 ^ (k - 1)
  signed_range = go (ltb n (2 ^ (k - 1))) refl
    where
      go : (b : Bool) → ltb n (2 ^ (k - 1)) ≡ b → mag (cond b (pos n) (negsuc (2 ^ k - suc n))) < 2 ^ (k - 1)
      go true q = ltb-true n (2 ^ (k - 1)) q
      go false q = omega (arith, ltb-false n (2 ^ (k - 1)) q, twice_half k h)
