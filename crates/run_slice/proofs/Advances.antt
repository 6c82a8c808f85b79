-- What advance answers: a change of level, or a burst that is settled.
-- Assumes nothing.
use Rattle.std.proofs.Common.{◌≡◌, ℕ, ◌<◌, true, false, List, sym, refl, ap, ◌∙◌, arith}
use Rattle.isa.specs.Machine.{level_count, pack, control_of}
use Rattle.isa.specs.Step.{Turn, turn, step, is_stopped, level_changed}
use Rattle.isa.specs.declared.machine.Core.{Core}
use Rattle.isa.specs.declared.machine.State.{State}
use Rattle.levels.specs.Changes.{due_at, advanced_turn}
use Rattle.levels.specs.declared.change.Advanced.{Advanced}
use Rattle.run_level.specs.Bursts.{Levels, Executes, leaves, low_turn, goes_on, burst_part, QuietSteps, QuietStep}
use Rattle.run_level.specs.declared.Burst.{Burst}
use Rattle.run_level.proofs.Laws.{one_step}
use Rattle.run_slice.specs.Advances.{Advance}
use Rattle.run_slice.proofs.Laws.{next_step, level_step, goes_on_low, step_low}

-- its answer for the machine s, which is left as the turn r
abbrev pub Answered : State → List ℕ → List ℕ → ℕ → Advanced → Turn → Type 0
Answered s m t n a r =
    ((a.level < level_count) × (a.before < n)) × (Advance s m t n a r × (a.before ≡ 0 → step s m t ≡ r))

pub advance_change : (s : State) (m t : List ℕ) (n : ℕ) (a : Advanced) (regs pcrs : List ℕ) → 0 < n
    → is_stopped s ≡ false
    → due_at s.level (control_of s) ≡ true → (a.level < level_count) × (a.before ≡ 0)
    → advanced_turn a regs pcrs m t ≡ turn (level_changed s) 0 m t → Answered s m t n a (advanced_turn a regs pcrs m t)
advance_change s m t n a regs pcrs h x d (l, z) e =
    let same : step s m t ≡ advanced_turn a regs pcrs m t = level_step s m t x d ∙ sym e in (
      (l, omega (arith, z, h)),
      (
        λ first j f. next_step first n j s m t h x f ∙ (λ i. goes_on first n j (sym z i) (same i)),
        λ y. same,
      ),
    )

pub advance_burst : (l : ℕ) (c : Core) (regs pcrs m t m' t' : List ℕ) (n : ℕ) (b : Burst) (a : Advanced) (r : Turn)
    → Executes l c.control → Levels l regs pcrs
    → QuietSteps c.file c.pcr c.control.paging c.control.extended m t n b m' t'
    → QuietStep c.file c.pcr c.control.paging c.control.extended m t b m' t'
    → a.before ≡ b.before
    → r ≡ low_turn (leaves l regs pcrs (burst_part l c.control b m' t'))
    → Advance (pack l c regs pcrs) m t n a r × (a.before ≡ 0 → step (pack l c regs pcrs) m t ≡ r)
advance_burst l c regs pcrs m t m' t' n b a r x v qs q z e =
    let left = leaves l regs pcrs (burst_part l c.control b m' t') in (
      λ first j f. qs first l j c.control regs pcrs refl refl x v
          ∙ sym (goes_on_low first n j b.before left)
          ∙ (λ i. goes_on first n j (sym z i) (sym e i)),
      λ y.
          let same : step (pack l c regs pcrs) m t ≡ left =
          one_step l c regs pcrs m t x v ∙ ap (leaves l regs pcrs) (q (sym z ∙ y) l c.control refl refl) in
          sym (step_low (pack l c regs pcrs) m t) ∙ ap low_turn same ∙ sym e,
    )
