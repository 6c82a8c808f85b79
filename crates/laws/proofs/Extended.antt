-- The extended flag through a step and a run; ring 0 and 1, which keep it and the devices; what SEX and REX leave; and
-- the places of the seven.
-- Assumes nothing.
use Prim.Native.Nat.{ℕ, zero, suc, ◌≤◌, ◌<◌}
use native.Mathlib.Omega.{arith}
use native.Mathlib.Decide.{dec_lt}
use mathlib.Core.Path.{◌≡◌, refl, sym, ap, subst, ◌∙◌}
use mathlib.Core.Bool.{true, false, not}
use mathlib.Core.Logic.{◌⊎◌, inl, inr}
use mathlib.Core.List.{List}
use lib.ListN.{get_or, set, length, get_or-eq_default}
use lib.Seq.{get_or-set_same, set_out}
use lib.Dec.{eqb}
use borrow.Author.Tests.{lt-ltb}
use Rattle.isa.specs.Machine.{word_range, level_count, register_words, bit, ring_of, core_of, with_control, next, next_core}
use Rattle.isa.specs.Machine.{control_of, put_file}
use Rattle.isa.specs.System.{with_extended}
use Rattle.isa.specs.Pages.{in_window, translate, fault_number}
use Rattle.isa.specs.Physical.{physical_place}
use Rattle.isa.specs.Step.{Turn, part, counted_turn, interrupted, with_pgs, faulted, far_stage, settled, is_stopped}
use Rattle.isa.specs.Step.{change_due, step}
use Rattle.isa.specs.Run.{Run, after_step, run_from}
use Rattle.isa.specs.Isolation.{start_pcr}
use Rattle.isa.specs.declared.machine.Control.{Control}
use Rattle.isa.specs.declared.machine.Core.{Core}
use Rattle.isa.specs.declared.machine.File.{File}
use Rattle.isa.specs.declared.machine.State.{State}
use Rattle.isa.specs.declared.instruction.ControlOp.TheVariants.{Sex, Rex}
use Rattle.isa.specs.declared.instruction.System.{System}
use Rattle.isa.specs.declared.instruction.System.TheVariants.{Control as ControlOf}
use Rattle.isa.specs.declared.access.Fault.{Fault}
use Rattle.std.specs.declared.option.Option.TheVariants.{None, Some}
use Rattle.isa.proofs.Tests.{either, decided, no_both}
use Rattle.laws.specs.Statement.{fetch_outcome, fetch_ring, fetched_core, fetched_tables, Executes}
use Rattle.laws.specs.Statement.{ExtendedStays, LowRingKeepsExtended, LowRingRunKeepsExtended}
use Rattle.laws.specs.Statement.{LowRingRunKeepsDevices, SetsFlagAlone, SexSetsRexClears, PhysicalByAddress}
use Rattle.laws.proofs.Fetch.{fetch_keeps, after_fetch_file, after_fetch_control}
use Rattle.laws.proofs.Stages.{Keeping, step_keeps, executed_step}
use Rattle.laws.proofs.Steady.{Steady, step_steady}
use Rattle.laws.proofs.Registers.{put_next}
use Rattle.laws.proofs.Rings.{not_privileged}

-- ---- nothing but SEX and REX changes the flag

abbrev IsSwitch : System → Type 0
IsSwitch o = (o ≡ ControlOf Sex) ⊎ (o ≡ ControlOf Rex)

abbrev Flag : ℕ → Control → Type 0
Flag x k = k.extended ≡ x

flag_steady : (x : ℕ) → Steady (Flag x) IsSwitch (λ n. Unit {0})
flag_steady x = record {
  switches = λ k i p h q. q;
  levels = λ k d e v q. q;
  internal = λ k d e q. q;
  fail = λ k y q f. q;
  reading = λ k none q. q;
  setting = λ k none q. absurd (none (inl refl));
  clearing = λ k none q. absurd (none (inr refl));
  devices = λ o i none f k p d q. q;
}

pub extended_stays : ExtendedStays
extended_stays s m t sex rex =
    let x : ℕ = s.added.extended in
    step_steady (Flag x) IsSwitch (λ n. Unit {0}) (flag_steady x) s m t none refl tt
  where
    none : (o : System) → IsSwitch o → Executes o s m t → ⊥
    none o (inl e) h = sex (subst (λ (p : System). Executes p s m t) e h)
    none o (inr e) h = rex (subst (λ (p : System). Executes p s m t) e h)

-- ---- ring 0 and 1

-- paging is on, and the flag and the devices are those of k₀
abbrev LowControl : Control → Control → Type 0
LowControl k₀ k = (k.paging ≡ 1) × (k.extended ≡ k₀.extended) × (k.devices ≡ k₀.devices)

record Low (k₀ : Control) (c : Core) : Type 0 where
  ring : ring_of c.pcr ≤ 1
  control : LowControl k₀ c.control

abbrev LowState : Control → State → Type 0
LowState k₀ s = Low k₀ (core_of s)

-- a machine on ring 0 or 1 with paging on, at its start
low_start : (s : State) → s.control.paging ≡ 1 → ring_of (start_pcr s) ≤ 1 → LowState (control_of s) s
low_start s on low = record { ring = low; control = (on, refl, refl) }

-- a fetch may lower the ring
fetched_low : (k₀ : Control) (s : State) (m t : List ℕ) → LowState k₀ s → Low k₀ (fetched_core s m t)
fetched_low k₀ s m t h =
    let l = h.ring in
    fetch_keeps (core_of s) (fetch_ring s t) (fetch_outcome s m t) (Low k₀)
    (λ i. record { ring = omega arith; control = h.control }) h

-- so no privileged instruction is executed
low_executes : (k₀ : Control) (o : System) (s : State) (m t : List ℕ) → LowState k₀ s → Executes o s m t → ⊥
low_executes k₀ o s m t h e =
    let d = fetched_low k₀ s m t h in
    no_both (sym (not_privileged (fetched_core s m t) d.control.0 d.ring) ∙ e.permitted)

pub none_executed : (o : System) (s : State) (m t : List ℕ) → s.control.paging ≡ 1 → ring_of (start_pcr s) ≤ 1
    → Executes o s m t → ⊥
none_executed o s m t on low = low_executes (control_of s) o s m t (low_start s on low)

pub low_ring_keeps_extended : LowRingKeepsExtended
low_ring_keeps_extended s m t on low =
    extended_stays s m t (none_executed (ControlOf Sex) s m t on low) (none_executed (ControlOf Rex) s m t on low)

-- ---- a run to the first interrupt on ring 0 or 1

-- a PCR put back; past the end of all PCRs nothing is put, and 0 is read
put_ring : (p : List ℕ) (l v : ℕ) → ring_of v ≤ 1 → ring_of (get_or (set p l v) l 0) ≤ 1
put_ring p l v h = go (dec_lt l (length p))
  where
    go : Dec (l < length p) → ring_of (get_or (set p l v) l 0) ≤ 1
    go (yes i) = rw (get_or-set_same p l v 0 i) h
    go (no i) =
        let out : length p ≤ l = omega arith in
        rw (set_out p l v out, get_or-eq_default p 0 {n = l} out) (omega arith)

-- an interrupt, and an access that fails, leave paging, the flag and the devices
interrupted_low : (k₀ : Control) (n : ℕ) (k : Control) → LowControl k₀ k → LowControl k₀ (interrupted n k)
unfolding interrupted
interrupted_low k₀ n k h = either (LowControl k₀) (eqb (bit n k.iie) 1) h h

faulted_low : (k₀ : Control) (y : Fault) (c : Core) → Low k₀ c → Low k₀ (faulted (Some y) c)
unfolding faulted
faulted_low k₀ y c h =
    record { ring = h.ring; control = interrupted_low k₀ (fault_number y) (with_pgs c.control (Some y)) h.control }

low_keeping : (k₀ : Control) → Keeping (Low k₀) (LowState k₀) (λ n. Unit {0})
low_keeping k₀ = record {
  file = λ c f h. record { ring = h.ring; control = h.control };
  trap = λ n c h. record { ring = h.ring; control = interrupted_low k₀ n c.control h.control };
  fail = λ y c h f. faulted_low k₀ y c h;
  back = λ s c h. record { ring = put_ring s.pcr s.level c.pcr h.ring; control = h.control };
  regs = λ s b h. record { ring = h.ring; control = h.control };
}

-- a step, where no change of level is due
low_step : (k₀ : Control) (s : State) (m t : List ℕ) → change_due s ≡ false → LowState k₀ s
    → LowState k₀ (step s m t).state
low_step k₀ s m t stays h =
    step_keeps (Low k₀) (LowState k₀) (λ n. Unit {0}) (low_keeping k₀) s m t h (fetched_low k₀ s m t h) h
    (λ e. absurd (no_both (sym stays ∙ e))) (λ o e. absurd (low_executes k₀ o s m t h e)) tt

-- after k steps, with n to go
low_run : (k₀ : Control) (n k : ℕ) (s : State) (m t : List ℕ) → LowState k₀ s
    → LowState k₀ (run_from true n k s m t).state
low_run k₀ zero k s m t h =
    let Kept : Run → Type 0 = λ r. LowState k₀ r.state in
    either Kept (is_stopped s) h (either Kept (change_due s) h h)
low_run k₀ (suc n) k s m t h =
    let Kept : Run → Type 0 = λ r. LowState k₀ r.state in
    let r : Turn = step s m t in
    either Kept (is_stopped s) h
    (decided Kept (change_due s) {y = after_step true (run_from true n) k r} (λ e. h)
    (λ stays.
    let q : LowState k₀ r.state = low_step k₀ s m t stays h in
    either Kept (not (eqb r.gave 0)) q (low_run k₀ n (suc k) r.state r.memory r.tables q)))

pub low_ring_run_keeps_extended : LowRingRunKeepsExtended
low_ring_run_keeps_extended n s m t on low =
    (low_run (control_of s) n 0 s m t (low_start s on low)).control.1

pub low_ring_run_keeps_devices : LowRingRunKeepsDevices
low_ring_run_keeps_devices s m t n on low =
    (low_run (control_of s) n 0 s m t (low_start s on low)).control.2

-- ---- SEX and REX

-- what the step of either leaves
switch_leaves : (x : ℕ) (s : State) (m t : List ℕ) → s.level < level_count
    → length s.regs ≡ register_words
    → SetsFlagAlone x s m t (counted_turn 1 (settled s (part (with_control (next_core (fetched_core s m t))
    (with_extended (fetched_core s m t).control x)) 0 None m (fetched_tables s m t))))
unfolding settled far_stage
switch_leaves x s m t l n = record {
  gave = refl;
  memory = refl;
  tables = refl;
  registers =
      ap (λ (f : File). put_file s.regs s.level (next f))
      (after_fetch_file (core_of s) (fetch_ring s t) (fetch_outcome s m t))
      ∙ put_next s.regs s.level l n;
  pcrs = refl;
  level = refl;
  control =
      ap (λ (k : Control). with_extended k x) (after_fetch_control (core_of s) (fetch_ring s t) (fetch_outcome s m t));
}

pub sex_sets_rex_clears : SexSetsRexClears
sex_sets_rex_clears = (
  λ s m t l n h. subst (SetsFlagAlone 1 s m t) (sym (executed_step h)) (switch_leaves 1 s m t l n),
  λ s m t l n h. subst (SetsFlagAlone 0 s m t) (sym (executed_step h)) (switch_leaves 0 s m t l n),
)

-- ---- the places of the seven

pub physical_by_address : PhysicalByAddress
unfolding in_window translate physical_place
physical_by_address t words r k alternate a off l = rw (off, lt-ltb a word_range l)
