-- The levels of devices.
-- Assumes nothing.
use Rattle.std.proofs.Common.{◌≡◌, ℕ, ◌<◌, Bool, true, false, ◌&&◌, ◌||◌, eqb, leb, refl, arith, eqb-true, leb-true}
use Rattle.isa.specs.Machine.{level_count}
use Rattle.isa.specs.Answers.{device_level}
use Rattle.isa.proofs.Tests.{no_both}

-- they are levels
pub device_level_law : (l : ℕ) → device_level l ≡ true → l < level_count
device_level_law l h = go (leb 10 l) (leb l 13) (eqb l 15) refl refl h
  where
    go : (x y z : Bool) → leb l 13 ≡ y → eqb l 15 ≡ z → (x && y || z) ≡ true → l < level_count
    go x y true q r e = omega (arith, eqb-true l 15 r)
    go x true false q r e = omega (arith, leb-true l 13 q)
    go true false false q r e = absurd (no_both e)
    go false false false q r e = absurd (no_both e)
