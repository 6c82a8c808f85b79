-- PGS and whether it is held, through a step and through a run.
-- Assumes nothing.
use Prim.Native.Nat.{ℕ}
use native.Mathlib.Omega.{arith}
use mathlib.Core.Path.{◌≡◌, refl, sym, ap, subst, ◌∙◌}
use mathlib.Core.List.{List}
use Rattle.std.specs.declared.option.Option.{Option}
use Rattle.std.specs.declared.option.Option.TheVariants.{None, Some}
use lib.Dec.{eqb}
use borrow.Author.Tests.{eq-eqb, ne_eqb}
use Rattle.isa.specs.Machine.{control_of, core_of}
use Rattle.isa.specs.System.{with_paging_status}
use Rattle.isa.specs.Pages.{pgs_after, first_status, held_after, fault_number}
use Rattle.isa.specs.Step.{Turn, with_pgs, register_at, far_stage, settled}
use Rattle.isa.specs.declared.machine.Control.{Control}
use Rattle.isa.specs.declared.machine.Register.TheVariants.{A}
use Rattle.isa.specs.declared.machine.State.{State}
use Rattle.isa.specs.declared.instruction.Readable.TheVariants.{Pgs}
use Rattle.isa.specs.declared.instruction.ControlOp.TheVariants.{Tra}
use Rattle.isa.specs.declared.instruction.System.{System}
use Rattle.isa.specs.declared.instruction.System.TheVariants.{Control as ControlOf}
use Rattle.isa.specs.declared.access.Fault.{Fault}
use Rattle.isa.specs.declared.access.Fault.TheVariants.{Protection, PageFault, OutOfRange}
use Rattle.isa.proofs.Tests.{either}
use Rattle.laws.specs.Statement.{fetch_outcome, fetch_ring, fetched_tables, Executes, ReadsPgs, SameStatus}
use Rattle.laws.specs.Statement.{HeldFaultStays, HeldStatusStays, StatusStays, ReadingReleases, ReadingGives}
use Rattle.laws.specs.Statement.{FirstFaultHeld, HeldThroughRun}
use Rattle.laws.proofs.Fetch.{after_fetch_control}
use Rattle.laws.proofs.Registers.{register_after}
use Rattle.laws.proofs.Stages.{executed_step}
use Rattle.laws.proofs.Steady.{Steady, step_steady, run_steady}

-- ---- an access that fails

held_stays : {n : ℕ} → n ≡ 1 → (x : Option Fault) → held_after n x ≡ n
held_stays h None = refl
held_stays h (Some (Protection g)) = sym h
held_stays h (Some (PageFault g)) = sym h
held_stays h (Some OutOfRange) = refl

pub first_fault_held : FirstFaultHeld
first_fault_held k g h = rw (ne_eqb k.held 1 (λ e. omega (arith, h, e))) (refl, refl)

pub held_fault_stays : HeldFaultStays
held_fault_stays k x h =
    let p : first_status k.held k.pgs (pgs_after k.pgs x) ≡ k.pgs = rw (eq-eqb k.held 1 h) in
    λ i. with_paging_status k (p i) (held_stays h x i)

-- ---- one step

-- F is what is supposed of the interrupt given, such that a failed access leaves both; no instruction but TRA PGS sets
-- them
abbrev IsRead : System → Type 0
IsRead o = o ≡ ControlOf (Tra Pgs)

status_steady : (k₀ : Control) (F : ℕ → Type 0)
    → ((k : Control) (x : Fault) → SameStatus k₀ k → F (fault_number x) → SameStatus k₀ (with_pgs k (Some x)))
    → Steady (SameStatus k₀) IsRead F
status_steady k₀ F leaves = record {
  switches = λ k i p h q. q;
  levels = λ k d e v q. q;
  internal = λ k d e q. q;
  fail = leaves;
  reading = λ k none q. absurd (none refl);
  setting = λ k none q. q;
  clearing = λ k none q. q;
  devices = λ o i none f k p d q. q;
}

-- no TRA PGS is executed
none_read : {s : State} {m t : List ℕ} → (ReadsPgs s m t → ⊥) → (o : System) → IsRead o → Executes o s m t → ⊥
none_read {s} {m} {t} none o e x = none (subst (λ (p : System). Executes p s m t) e x)

-- a held PGS: any interrupt may be given
held_steady : (k₀ : Control) → k₀.held ≡ 1 → Steady (SameStatus k₀) IsRead (λ n. Unit {0})
held_steady k₀ h =
    status_steady k₀ (λ n. Unit {0})
    (λ k x i f. subst (SameStatus k₀) (sym (held_fault_stays k (Some x) (i.1 ∙ h))) i)

pub held_status_stays : HeldStatusStays
held_status_stays s m t h none =
    let k₀ = control_of s in
    step_steady (SameStatus k₀) IsRead (λ n. Unit {0}) (held_steady k₀ h) s m t (none_read none) (refl, refl) tt

-- .. and another, by neither 2 nor 3
abbrev NeitherFault : ℕ → Type 0
NeitherFault n = (n ≡ 2 → ⊥) × (n ≡ 3 → ⊥)

others_leave : (k₀ k : Control) (x : Fault) → SameStatus k₀ k → NeitherFault (fault_number x)
    → SameStatus k₀ (with_pgs k (Some x))
others_leave k₀ k x i f = (either (λ (g : ℕ). g ≡ k₀.pgs) (eqb k.held 1) i.0 (status x f), held x f)
  where
    status : (x : Fault) → NeitherFault (fault_number x) → pgs_after k.pgs (Some x) ≡ k₀.pgs
    status (Protection g) f = absurd (f.0 refl)
    status (PageFault g) f = absurd (f.1 refl)
    status OutOfRange f = i.0

    held : (x : Fault) → NeitherFault (fault_number x) → held_after k.held (Some x) ≡ k₀.held
    held (Protection g) f = absurd (f.0 refl)
    held (PageFault g) f = absurd (f.1 refl)
    held OutOfRange f = i.1

pub status_stays : StatusStays
status_stays s m t two three none =
    let k₀ = control_of s in
    step_steady (SameStatus k₀) IsRead NeitherFault (status_steady k₀ NeitherFault (others_leave k₀)) s m t
    (none_read none) (refl, refl) (two, three)

pub reading_releases : ReadingReleases
unfolding settled far_stage
reading_releases s m t h =
    ap (λ (r : Turn). control_of r.state) (executed_step h)
    ∙ ap (λ (k : Control). with_paging_status k k.pgs 0)
    (after_fetch_control (core_of s) (fetch_ring s t) (fetch_outcome s m t))

pub reading_gives : ReadingGives
reading_gives s m t l n h =
    ap (λ (r : Turn). register_at r.state s.level A) (executed_step h)
    ∙ register_after s l A n _ 0 m (fetched_tables s m t)
    ∙ ap (λ (k : Control). k.pgs) (after_fetch_control (core_of s) (fetch_ring s t) (fetch_outcome s m t))

-- ---- a run

pub held_through_run : HeldThroughRun
held_through_run first n s m t h none =
    let k₀ = control_of s in
    run_steady (SameStatus k₀) IsRead (λ n. Unit {0}) (held_steady k₀ h) (λ n. tt) first n 0 s m t (refl, refl)
    (λ j i. none_read (none j (omega arith)))
