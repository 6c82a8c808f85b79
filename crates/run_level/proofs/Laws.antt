-- A step of the packed machine, and a run that goes on behind a step.
-- Assumes nothing.
use Rattle.std.proofs.Common.{◌≡◌, ℕ, suc, ◌+◌, ◌-◌, ◌%◌, ◌<◌, Bool, true, false, cond, not, ◌&&◌, eqb, List, sym, refl, ap, ◌∙◌, add-zero, arith}
use Rattle.std.specs.declared.option.Option.{Option}
use Rattle.std.specs.declared.option.Option.TheVariants.{None, Some}
use native.Mathlib.Nat.{mod-add-mod}
use Rattle.isa.specs.Machine.{pack, core_of, control_of}
use Rattle.isa.specs.Step.{Part, Turn, turn, counted, counted_turn, far_stage, settled, step, step_in, is_stopped}
use Rattle.isa.specs.Step.{change_due}
use Rattle.isa.specs.Run.{Run, sum_range, ended, counted_run, run_from}
use Rattle.isa.proofs.Counts.{counted_run_twice, counted_run_low}
use Rattle.isa.specs.declared.answer.Reason.TheVariants.{Interrupt}
use Rattle.isa.proofs.Packing.{open_pack, pack_pack}
use Rattle.isa.specs.declared.machine.Core.{Core}
use Rattle.isa.specs.declared.machine.State.{State}
use Rattle.isa.proofs.Tests.{no_both}
use Rattle.event.specs.Events.{event_part, is_fine}
use Rattle.event.specs.declared.Event.{Event}
use Rattle.levels.specs.Changes.{due_at}
use Rattle.levels.proofs.Changes.{due_pack}
use Rattle.run_level.specs.Bursts.{Levels, Executes, leaves, goes_on}

-- where no change of level is due, a run to the first interrupt goes on as a run through does
pub no_change : (first : Bool) (s : State) → due_at s.level (control_of s) ≡ false → (first && change_due s) ≡ false
no_change true s h = due_pack s ∙ h
no_change false s h = refl

-- a machine that is to fetch and execute
pub one_step : (l : ℕ) (c : Core) (regs pcrs m t : List ℕ) → Executes l c.control → Levels l regs pcrs
    → step (pack l c regs pcrs) m t ≡ leaves l regs pcrs (step_in l c m t)
unfolding step settled change_due
one_step l c regs pcrs m t x h =
    let opened : core_of (pack l c regs pcrs) ≡ c = open_pack l c regs pcrs h.level h.registers h.controls in
    let packed = pack_pack l c regs pcrs h.level h.registers h.controls in
    let r : Part = step_in l c m t in
    rw (x.runs, x.stays)
    (ap (λ (d : Core). settled (pack l c regs pcrs) (step_in l d m t)) opened
    ∙ ap
    (λ (s : State). counted_turn r.near.references
    (far_stage s r.near.gave r.memory r.tables r.near.far))
    (packed r.near.core))

-- before a step that is taken
pub runs_on : (first : Bool) (n j before : ℕ) (s : State) (m t : List ℕ)
    → before < n → is_stopped s ≡ false → (first && change_due s) ≡ false
    → run_from first (n - before) (j + before) s m t ≡ goes_on first n j before (step s m t)
runs_on first n j before s m t b h d =
    let e : n - before ≡ suc (n - suc before) = omega (arith, b) in
    ap (λ (x : ℕ). run_from first x (j + before) s m t) e ∙ rw (h, d)

-- behind a step that gave nothing
pub goes_on_law : (first : Bool) (n j before k : ℕ) (s : State) (m t : List ℕ)
    → goes_on first n j before (counted_turn k (turn s 0 m t))
    ≡ counted_run k (run_from first (n - suc before) (j + suc before) s m t)
goes_on_law first n j before k s m t =
    λ i. counted_run (add-zero k i) (quiet first i)
  where
    e : suc (j + before) ≡ j + suc before
    e = omega arith

    quiet : (b : Bool)
        → cond (b && not (eqb 0 0)) (ended Interrupt (suc (j + before)) s m t)
        (run_from first (n - suc before) (suc (j + before)) s m t)
        ≡ run_from first (n - suc before) (j + suc before) s m t
    quiet true = ap (λ (x : ℕ). run_from first (n - suc before) x s m t) e
    quiet false = ap (λ (x : ℕ). run_from first (n - suc before) x s m t) e

-- references before a step, and its own: their sum's low 64 bits with the step
low_sums : (g k a b : ℕ) → (g + (k + a + b)) % sum_range ≡ ((g + k) % sum_range + a + b) % sum_range
low_sums g k a b =
    let low = (g + k) % sum_range in
    let before : g + (k + a + b) ≡ g + k + (a + b) = omega arith in
    let after : low + (a + b) ≡ low + a + b = omega arith in
    ap (λ (x : ℕ). x % sum_range) before
    ∙ sym (mod-add-mod (g + k) sum_range (a + b))
    ∙ ap (λ (x : ℕ). x % sum_range) after

pub counted_before : (first : Bool) (n j before l : ℕ) (regs pcrs : List ℕ) (g k : ℕ) (p : Part)
    → counted_run g (goes_on first n j before (leaves l regs pcrs (counted k p)))
    ≡ goes_on first n j before (leaves l regs pcrs (counted ((g + k) % sum_range) p))
counted_before first n j before l regs pcrs g k p =
    let q : Turn = far_stage (pack l p.near.core regs pcrs) p.near.gave p.memory p.tables p.near.far in
    let a = p.near.references in
    let b = q.references in
    let on : Run =
    cond (first && not (eqb q.gave 0)) (ended Interrupt (suc (j + before)) q.state q.memory q.tables)
    (run_from first (n - suc before) (suc (j + before)) q.state q.memory q.tables) in
    counted_run_twice g (k + a + b) on
    ∙ sym (counted_run_low (g + (k + a + b)) on)
    ∙ ap (λ (x : ℕ). counted_run x on) (low_sums g k a b)
    ∙ counted_run_low ((g + k) % sum_range + a + b) on

pub fine_event : (e : Option Event) → is_fine e ≡ true → e ≡ None
fine_event None h = refl
fine_event (Some e) h = absurd (no_both h)

-- an event that is fine leaves nothing to be done
pub fine_leaves : (l : ℕ) (c : Core) (regs pcrs m t : List ℕ) (k : ℕ)
    → leaves l regs pcrs (counted k (event_part l c m t None)) ≡ counted_turn k (turn (pack l c regs pcrs) 0 m t)
unfolding event_part far_stage
fine_leaves l c regs pcrs m t k = ap (λ (x : ℕ). counted_turn x (turn (pack l c regs pcrs) 0 m t)) (add-zero k)
