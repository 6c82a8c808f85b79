-- Eight stores put a level's file back.
-- Assumes nothing.
use Rattle.isa.specs.Machine.{level_count, register_words}
use Prim.Native.Nat.{ℕ, suc, ◌+◌, ◌*◌, ◌<◌}
use mathlib.Core.Path.{◌≡◌, refl, ◌∙◌}
use mathlib.Core.List.{List}
use native.Mathlib.Omega.{arith}
use lib.ListN.{length, get_or, set}
use lib.Seq.{paste, paste-zero, paste-suc}
use Rattle.isa.specs.Machine.{number, reg, file_words, put_file}
use Rattle.isa.specs.declared.machine.File.{File}
use Rattle.isa.specs.declared.machine.Register.{Register}
use Rattle.isa.specs.declared.machine.Register.TheVariants.{D, P, B, L, A, T, X}

module _ (b : List ℕ) (l : ℕ) (h : l < level_count) (e : length b ≡ register_words) (f : File) where
  -- one store more of a copy
  more : (d : List ℕ) (k j : ℕ) → k ≡ l * 8 + j → j < 8 → d ≡ paste b (l * 8) (file_words f) j
      → set d k (get_or (file_words f) j 0) ≡ paste b (l * 8) (file_words f) (suc j)
  more d k j q u y =
      (λ i. set (y i) (q i) (get_or (file_words f) j 0))
      ∙ paste-suc b (l * 8) (file_words f) j 0 (omega arith) (omega arith)

  -- the words d with a register of the level replaced by the file's
  abbrev store : Register → List ℕ → List ℕ
  store r d = set d (l * 8 + number r) (reg f r)

  pub eight_put :
      store X (store T (store A (store L (store B (store P (store D (set b (l * 8) f.sts))))))) ≡ put_file b l f
  unfolding put_file
  eight_put =
      more _ (l * 8 + 7) 7 refl (omega arith)
      (more _ (l * 8 + 6) 6 refl (omega arith)
      (more _ (l * 8 + 5) 5 refl (omega arith)
      (more _ (l * 8 + 4) 4 refl (omega arith)
      (more _ (l * 8 + 3) 3 refl (omega arith)
      (more _ (l * 8 + 2) 2 refl (omega arith)
      (more _ (l * 8 + 1) 1 refl (omega arith)
      (more b (l * 8) 0 (omega arith) (omega arith) (paste-zero b (l * 8) (file_words f)))))))))
