-- A register of a level, and the running level's words, among those of all levels.
-- Assumes nothing.
use Rattle.isa.specs.Machine.{level_count, register_words}
use Prim.Native.Nat.{ℕ, ◌+◌, ◌*◌, ◌%◌, ◌<◌}
use native.Mathlib.Omega.{arith}
use mathlib.Core.Path.{◌≡◌, refl, sym, ap, ◌∙◌}
use mathlib.Core.Bool.{Bool, true, false, cond, ◌&&◌}
use mathlib.Core.List.{List}
use lib.Dec.{eqb}
use lib.ListN.{length, get_or, set}
use lib.Seq.{set-set}
use Rattle.isa.specs.Machine.{number, reg, with_reg, put_file, pack, with_file}
use Rattle.isa.specs.Step.{with_regs, with_pcrs, place_of, register_at, kept, is_p, put_other}
use Rattle.isa.specs.declared.machine.Core.{Core}
use Rattle.isa.specs.declared.machine.File.{File}
use Rattle.isa.specs.declared.machine.Register.{Register}
use Rattle.isa.specs.declared.machine.Register.TheVariants.{A}
use Rattle.isa.specs.declared.machine.State.{State}
use Rattle.isa.proofs.Packing.{register_at_law, register_set, put_length, take_put, put_put}
use Rattle.levels.specs.Words.{with_a}

-- ---- a register of a level among those of all levels

-- a register is set where a file was put
pub put_set :
    (b : List ℕ) (l : ℕ) → l < level_count → length b ≡ register_words → (f : File) (r : Register) (v : ℕ)
    → set (put_file b l f) (l * 8 + number r) v ≡ put_file b l (with_reg f r v)
put_set b l h e f r v =
    let d : List ℕ = put_file b l f in
    register_set d l h (put_length b l h e f) r v
    ∙ ap (λ (g : File). put_file d l (with_reg g r v)) (take_put b l h e f)
    ∙ put_put b l h e f (with_reg f r v)

-- ---- a register of another level is written

pub other_put :
    (s : State) (l : ℕ) (r : Register) (w : ℕ)
    → with_regs s (cond (eqb (l % 16) s.level && is_p r) s.regs (set s.regs (place_of l r) (kept r w)))
    ≡ put_other s l r w
unfolding put_other
other_put s l r w = go (eqb (l % 16) s.level && is_p r) (set s.regs (place_of l r) (kept r w))
  where
    go : (x : Bool) (d : List ℕ) → with_regs s (cond x s.regs d) ≡ cond x s (with_regs s d)
    go true d = refl
    go false d = refl

-- ---- the running level's words in the state

module _ (l : ℕ) (c : Core) (b p : List ℕ) (h : l < level_count) (e : length b ≡ register_words) where
  same_level : l % 16 ≡ l
  same_level = omega arith

  pub own_register : (r : Register) → register_at (pack l c b p) l r ≡ reg c.file r
  own_register r =
      let d : List ℕ = put_file b l c.file in
      ap (λ (n : ℕ). get_or d (n * 8 + number r) 0) same_level
      ∙ register_at_law d l r
      ∙ ap (λ (f : File). reg f r) (take_put b l h e c.file)

  pub own_a_law : (v : ℕ) → pack l (with_file c (with_reg c.file A v)) b p ≡ with_a (pack l c b p) v
  own_a_law v =
      let d : List ℕ = put_file b l c.file in
      ap (with_regs (pack l c b p))
      (sym (ap (λ (n : ℕ). set d (n * 8 + 5) v) same_level ∙ put_set b l h e c.file A v))

pub pcr_back : (l : ℕ) (c : Core) (b p : List ℕ) (v : ℕ) → pack l c b (set p l v) ≡ pack l c b p
pcr_back l c b p v = ap (with_pcrs (pack l c b p)) (set-set p l v c.pcr)
