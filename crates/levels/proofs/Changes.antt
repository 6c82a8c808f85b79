-- A change of level: when it is due, and what it leaves.
-- Assumes nothing.
use Rattle.isa.specs.Machine.{level_count, register_words, control_of, state_with}
use Prim.Native.Nat.{ℕ, ◌<◌}
use mathlib.Core.Path.{◌≡◌, refl, ap, ◌∙◌}
use mathlib.Core.List.{List}
use lib.ListN.{length, set}
use Rattle.isa.specs.Machine.{pack, put_file}
use Rattle.isa.specs.System.{with_levels}
use Rattle.isa.specs.Step.{turn, change_due, highest_level, level_changed}
use Rattle.isa.proofs.Packing.{pack_open}
use Rattle.isa.specs.declared.machine.Control.{Control}
use Rattle.isa.specs.declared.machine.Core.{Core}
use Rattle.isa.specs.declared.machine.State.{State}
use Rattle.levels.specs.Changes.{core_at, due_at}

-- whether a change is due is told by the level and the control words
pub due_pack : (s : State) → change_due s ≡ due_at s.level (control_of s)
unfolding change_due
due_pack s = refl

-- PVL takes the old level
abbrev old_level : ℕ → Core → Control
old_level l c = with_levels c.control c.control.pid c.control.pie l

-- a change of level: b and p are all registers and PCRs with the old level's put back, d the new level's words out of
-- them
pub changed_level :
    (l : ℕ) (c : Core) (regs pcrs : List ℕ) (to : ℕ) → to < level_count → (b p : List ℕ) (d : Core)
    → length b ≡ register_words
    → b ≡ put_file regs l c.file
    → p ≡ set pcrs l c.pcr
    → d ≡ core_at to (old_level l c) b p
    → to ≡ highest_level c.control
    → (m t : List ℕ)
    → turn (pack to d b p) 0 m t ≡ turn (level_changed (pack l c regs pcrs)) 0 m t
unfolding level_changed
changed_level l c regs pcrs to k b p d h eb ep ed et m t =
    let s : State = state_with to (old_level l c) b p in
    ap (λ (x : Core). turn (pack to x b p) 0 m t) ed
    ∙ ap (λ (x : State). turn x 0 m t) (pack_open s k h)
    ∙ (λ i. turn (state_with (et i) (old_level l c) (eb i) (ep i)) 0 m t)
