-- P of a level among all registers, read there and written there; and the running level's registers after a stage.
-- Assumes nothing.
use Rattle.isa.specs.Machine.{level_count, register_words}
use Prim.Native.Nat.{ℕ, ◌+◌, ◌*◌, ◌<◌}
use native.Mathlib.Omega.{arith}
use mathlib.Core.Path.{◌≡◌, sym, ap, ◌∙◌}
use mathlib.Core.List.{List}
use lib.ListN.{get_or, set, length}
use Rattle.isa.specs.Machine.{file_size, number, reg, with_reg, next, file_at, put_file}
use Rattle.isa.specs.Address.{sum}
use Rattle.isa.specs.Step.{part, place_of, register_at, far_stage, settled}
use Rattle.isa.specs.declared.machine.Core.{Core}
use Rattle.isa.specs.declared.machine.File.{File}
use Rattle.isa.specs.declared.machine.State.{State}
use Rattle.isa.specs.declared.machine.Register.{Register}
use Rattle.isa.specs.declared.machine.Register.TheVariants.{P}
use Rattle.std.specs.declared.option.Option.TheVariants.{None}
use Rattle.isa.proofs.Packing.{register_at_law, register_set, take_put}

module _ (b : List ℕ) (l : ℕ) (h : l < level_count) (e : length b ≡ register_words) where
  p_at : reg (file_at b l) P ≡ get_or b (l * 8 + 2) 0
  p_at = sym (register_at_law b l P)

  -- a level's file put back with another P
  put_p : (v : ℕ) → put_file b l (with_reg (file_at b l) P v) ≡ set b (l * 8 + 2) v
  put_p v = sym (register_set b l h e P v)

  -- .. and with P one further
  pub put_next : put_file b l (next (file_at b l)) ≡ set b (place_of l P) (sum (get_or b (place_of l P) 0) 1)
  put_next = rw place (put_p _ ∙ ap (λ (p : ℕ). set b (l * 8 + 2) (sum p 1)) p_at)
    where
      place : place_of l P ≡ l * 8 + 2
      place = omega arith

-- a register of the running level, before a step and after a stage that leaves nothing to be done
module _ (s : State) (h : s.level < level_count) (r : Register) where
  place : place_of s.level r ≡ s.level * file_size + number r
  place = omega arith

  pub register_before : register_at s s.level r ≡ reg (file_at s.regs s.level) r
  register_before = ap (λ (i : ℕ). get_or s.regs i 0) place ∙ register_at_law s.regs s.level r

  pub register_after : length s.regs ≡ register_words → (c : Core) (n : ℕ) (m t : List ℕ)
      → register_at (settled s (part c n None m t)).state s.level r ≡ reg c.file r
  unfolding settled far_stage
  register_after e c n m t =
      let b = put_file s.regs s.level c.file in
      ap (λ (i : ℕ). get_or b i 0) place
      ∙ register_at_law b s.level r
      ∙ ap (λ (f : File). reg f r) (take_put s.regs s.level h e c.file)
