-- Quiet steps of the running level: a run goes on behind them as if each had been taken by itself.
-- Assumes nothing.
use Rattle.std.proofs.Common.{◌≡◌, ℕ, suc, ◌+◌, ◌-◌, ◌%◌, ◌<◌, ◌≤◌, Bool, List, sym, ap, ◌∙◌, subst, mod-eq_of_lt, zero-add, arith}
use Rattle.std.specs.declared.option.Option.{Option}
use Rattle.std.specs.declared.option.Option.TheVariants.{None}
use Rattle.isa.specs.Machine.{pack}
use Rattle.isa.specs.Pages.{lowered_pcr}
use Rattle.isa.specs.Step.{Part, counted, step_in}
use Rattle.isa.specs.Run.{sum_range, counted_run, run_from}
use Rattle.isa.specs.declared.access.Rights.{Rights}
use Rattle.isa.specs.declared.machine.Control.{Control}
use Rattle.isa.specs.declared.machine.Core.{Core}
use Rattle.isa.specs.declared.machine.File.{File}
use Rattle.event.specs.Events.{event_part}
use Rattle.event.specs.declared.Event.{Event}
use Rattle.paging.specs.Levels.{level_rights, on_ring}
use Rattle.paging.proofs.Levels.{ring_rights, ring_twice}
use Rattle.exec_memory.specs.Stages.{level_core}
use Rattle.exec_step.specs.Steps.{StepOfLevel}
use Rattle.exec_step.specs.declared.LevelStep.{LevelStep}
use Rattle.run_level.specs.Bursts.{Levels, Executes, leaves, goes_on}
use Rattle.run_level.proofs.Laws.{one_step, runs_on, goes_on_law, counted_before, fine_leaves, no_change}

-- the level's registers, PCR, memory and tables
pub record Level : Type 0 where
  pub file : File
  pub pcr : ℕ
  pub memory : List ℕ
  pub tables : List ℕ

-- what an event at b leaves, with r references
abbrev event_at : ℕ → Control → Level → ℕ → Option Event → Part
event_at l k b r e = counted r (event_part l (level_core b.file b.pcr k) b.memory b.tables e)

-- one step of the level from a, by the switches g for paging and x for extended mode, ends at b with r references and
-- the event e
abbrev pub Steps : ℕ → ℕ → Level → Level → ℕ → Option Event → Type 0
Steps g x a b r e =
    (l : ℕ) (k : Control) → k.paging ≡ g → k.extended ≡ x
    → step_in l (level_core a.file a.pcr k) a.memory a.tables ≡ event_at l k b r e

-- a run of n steps from a goes on at b, behind `before` of them, with r references
abbrev pub Reaches : ℕ → ℕ → ℕ → Level → ℕ → Level → ℕ → Type 0
Reaches g x n a before b r =
    (first : Bool) (l j : ℕ) (k : Control) (regs pcrs : List ℕ) → k.paging ≡ g → k.extended ≡ x → Executes l k
    → Levels l regs pcrs
    → run_from first n j (pack l (level_core a.file a.pcr k) regs pcrs) a.memory a.tables
    ≡ counted_run r
    (run_from first (n - before) (j + before) (pack l (level_core b.file b.pcr k) regs pcrs) b.memory
    b.tables)

-- .. behind one more, which left something to be done
abbrev pub Ends : ℕ → ℕ → ℕ → Level → ℕ → Level → ℕ → Option Event → Type 0
Ends g x n a before b r e =
    (first : Bool) (l j : ℕ) (k : Control) (regs pcrs : List ℕ) → k.paging ≡ g → k.extended ≡ x → Executes l k
    → Levels l regs pcrs
    → run_from first n j (pack l (level_core a.file a.pcr k) regs pcrs) a.memory a.tables
    ≡ goes_on first n j before (leaves l regs pcrs (event_at l k b r e))

-- `before` quiet steps lead from a to b, with r references, the sum's low 64 bits
pub record Quiet (g x n : ℕ) (a : Level) (before : ℕ) (b : Level) (r : ℕ) : Type 0 where
  pub most : before ≤ n
  pub reaches : Reaches g x n a before b r
  pub none : before ≡ 0 → (b ≡ a) × (r ≡ 0)
  pub one : before ≡ 1 → Steps g x a b r None

-- all n of them
module _ {g x n : ℕ} {a b : Level} {r : ℕ} (q : Quiet g x n a n b r) (h : 0 < n) where
  pub all_quiet : Ends g x n a (n - 1) b r None
  all_quiet first l j k regs pcrs p o y w =
      let c : Core = level_core b.file b.pcr k in
      let e : n ≡ suc (n - 1) = omega (arith, h) in
      q.reaches first l j k regs pcrs p o y w
      ∙ ap (λ (y : ℕ). counted_run r (run_from first (n - y) (j + y) (pack l c regs pcrs) b.memory b.tables)) e
      ∙ sym (goes_on_law first n j (n - 1) r (pack l c regs pcrs) b.memory b.tables)
      ∙ ap (goes_on first n j (n - 1)) (sym (fine_leaves l c regs pcrs b.memory b.tables r))

module _ {g x n : ℕ} {a b : Level} {before r : ℕ} (q : Quiet g x n a before b r) (h : before < n)
    {i sum : ℕ} (low : i < sum_range) (added : sum ≡ (r + i) % sum_range) where
  -- one step more, of i references
  pub then_ends : (d : Level) (e : Option Event) → Steps g x b d i e → Ends g x n a before d sum e
  then_ends d e s first l j k regs pcrs p o y w =
      let c : Core = level_core b.file b.pcr k in
      let left : Part = event_part l (level_core d.file d.pcr k) d.memory d.tables e in
      q.reaches first l j k regs pcrs p o y w
      ∙ ap (counted_run r)
      (runs_on first n j before (pack l c regs pcrs) b.memory b.tables h y.runs
      (no_change first (pack l c regs pcrs) y.stays)
      ∙ ap (goes_on first n j before)
      (one_step l c regs pcrs b.memory b.tables y w ∙ ap (leaves l regs pcrs) (s l k p o)))
      ∙ counted_before first n j before l regs pcrs r i left
      ∙ ap (λ (z : ℕ). goes_on first n j before (leaves l regs pcrs (counted z left))) (sym added)

  pub first_step : (d : Level) (e : Option Event) → Steps g x b d i e → before ≡ 0 → Steps g x a d sum e
  first_step d e s z =
      let whole : i ≡ sum =
      sym (mod-eq_of_lt low)
      ∙ ap (λ (y : ℕ). y % sum_range) (sym (zero-add i) ∙ ap (λ (y : ℕ). y + i) (sym (q.none z).1))
      ∙ sym added in
      subst (λ (y : ℕ). Steps g x a d y e) whole (subst (λ (y : Level). Steps g x y d i e) (q.none z).0 s)

  pub then_quiet : (d : Level) → Steps g x b d i None → Quiet g x n a (suc before) d sum
  then_quiet d s = record {
    most = h;
    reaches = λ first l j k regs pcrs p o y v.
        let c : Core = level_core d.file d.pcr k in
        then_ends d None s first l j k regs pcrs p o y v
        ∙ ap (goes_on first n j before) (fine_leaves l c regs pcrs d.memory d.tables sum)
        ∙ goes_on_law first n j before sum (pack l c regs pcrs) d.memory d.tables;
    none = λ z. absurd (omega (arith, z));
    one = λ z. first_step d None s (omega (arith, z));
  }

-- the level that began with the PCR p, on the ring that it has now
abbrev pub level_on : File → ℕ → ℕ → List ℕ → List ℕ → Level
level_on f p ring m t = record { file = f; pcr = lowered_pcr p ring; memory = m; tables = t }

-- what step_in answers, by the rights r of the level
pub stepped : (g x p ring : ℕ) (f : File) (m t : List ℕ) {r : Rights} (s : LevelStep) (m' t' : List ℕ) → ring < 4
    → r ≡ on_ring (level_rights p g x) ring → StepOfLevel f r m t s m' t'
    → Steps g x (level_on f p ring m t) (level_on s.file p s.ring m' t') s.references s.event
stepped g x p ring f m t {r} s m' t' h e d l k q o =
    let rights : level_rights (lowered_pcr p ring) k.paging k.extended ≡ r =
    (λ i. level_rights (lowered_pcr p ring) (q i) (o i)) ∙ ring_rights p ring g x h ∙ sym e in
    sym (d l (lowered_pcr p ring) k rights)
    ∙ ap (λ (y : ℕ). counted s.references (event_part l (level_core s.file y k) m' t' s.event))
    (ring_twice p ring s.ring h)
