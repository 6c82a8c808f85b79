-- The devices through a step; what IOX 306 and IDENT give; and the second read out.
-- Assumes nothing.
use Prim.Native.Nat.{ℕ}
use native.Mathlib.Omega.{arith}
use mathlib.Core.Path.{◌≡◌, refl, sym, ap, subst, ◌∙◌}
use mathlib.Core.Bool.{Bool, true, false, cond}
use Rattle.std.specs.Prelude.{Option, Some, None}
use mathlib.Core.List.{List}
use lib.Dec.{eqb}
use borrow.Author.Tests.{ne_eqb}
use Rattle.isa.specs.Machine.{bit, flag_of, reg, next_core, control_of, core_of}
use Rattle.isa.specs.Machine.{interrupt_iox, sizes_fit, in_range, with_control_words}
use Rattle.isa.specs.InputOutput.{ready_status, line_of, flip_flop, without_asking, identified, read_out}
use Rattle.isa.specs.InputOutput.{register_of}
use Rattle.isa.specs.Step.{Turn, part, counted_turn, trapped, ident_stage, device_stage, far_stage, settled, register_at}
use Rattle.isa.specs.Step.{step}
use Rattle.isa.specs.Answers.{state_answer, waits, read_out_call}
use Rattle.isa.specs.declared.machine.Control.{Control}
use Rattle.isa.specs.declared.machine.Core.{Core}
use Rattle.isa.specs.declared.machine.File.{File}
use Rattle.isa.specs.declared.machine.State.{State}
use Rattle.isa.specs.declared.machine.Register.TheVariants.{A}
use Rattle.isa.specs.declared.device.Devices.{Devices}
use Rattle.isa.specs.declared.device.Line.{Line}
use Rattle.isa.specs.declared.device.Line.TheVariants.{OutputLine, InputLine, ClockLine}
use Rattle.isa.specs.declared.instruction.System.{System}
use Rattle.isa.specs.declared.instruction.System.TheVariants.{Iox, Ioxt, Ident}
use Rattle.std.specs.declared.option.Option.TheVariants.{None}
use Rattle.isa.proofs.Tests.{decided}
use Rattle.ranges.proofs.States.{state_fits, state_range, words_fit}
use Rattle.ranges.proofs.InputOutput.{read_out_fits}
use Rattle.laws.specs.Statement.{fetch_outcome, fetch_ring, fetched_core, fetched_tables, Executes, DevicesStay}
use Rattle.laws.specs.Statement.{InterruptKeepsDevices, LowRingKeepsDevices, ReadyWhileNoneWaits, IdentAnswered}
use Rattle.laws.specs.Statement.{IdentUnanswered, SecondIdent, ReadOutOnce}
use Rattle.laws.proofs.Fetch.{after_fetch_file, after_fetch_control}
use Rattle.laws.proofs.Registers.{register_before, register_after}
use Rattle.laws.proofs.Stages.{executed_step}
use Rattle.laws.proofs.Steady.{ReachesDevices, iox, ioxt, ident, Steady, step_steady}
use Rattle.laws.proofs.Extended.{none_executed}
use Rattle.std.specs.declared.result.Result.TheVariants.{Ok}
use Rattle.std.specs.declared.option.Option.TheVariants.{None}

-- ---- nothing but IOX, IOXT and IDENT changes the devices, and they only where they give no interrupt

abbrev Same : Devices → Control → Type 0
Same d k = k.devices ≡ d

-- Sets names some of them, or F rules out that no interrupt is given
devices_steady : (d : Devices) (Sets : System → Type 0) (F : ℕ → Type 0)
    → ((o : System) → ReachesDevices o → (Sets o → ⊥) → F 0 → ⊥) → Steady (Same d) Sets F
devices_steady d Sets F none = record {
  switches = λ k i p h q. q;
  levels = λ k i e v q. q;
  internal = λ k i e q. q;
  fail = λ k y q f. q;
  reading = λ k n q. q;
  setting = λ k n q. q;
  clearing = λ k n q. q;
  devices = λ o i n f k p x q. absurd (none o i n f);
}

pub devices_stay : DevicesStay
devices_stay s m t by-iox by-ioxt by-ident =
    step_steady (Same s.devices) ReachesDevices (λ n. Unit {0})
    (devices_steady s.devices ReachesDevices (λ n. Unit {0}) (λ o i n f. n i)) s m t none refl tt
  where
    none : (o : System) → ReachesDevices o → Executes o s m t → ⊥
    none o (iox n) e = by-iox n e
    none o ioxt e = by-ioxt e
    none o (ident n) e = by-ident n e

pub interrupt_keeps_devices : InterruptKeepsDevices
interrupt_keeps_devices s m t given =
    step_steady (Same s.devices) (λ o. ⊥) (λ n. n ≡ 0 → ⊥)
    (devices_steady s.devices (λ o. ⊥) (λ n. n ≡ 0 → ⊥) (λ o i n f. f refl)) s m t (λ o e. absurd e) refl given

-- no privileged instruction is executed on ring 0 or 1 with paging on
pub low_ring_keeps_devices : LowRingKeepsDevices
low_ring_keeps_devices s m t on low =
    devices_stay s m t (λ n. none_executed (Iox n) s m t on low) (none_executed Ioxt s m t on low)
    (λ n. none_executed (Ident n) s m t on low)

-- ---- what a fetch leaves of the control words

fetched_control : (s : State) (m t : List ℕ) → (fetched_core s m t).control ≡ control_of s
fetched_control s m t = after_fetch_control (core_of s) (fetch_ring s t) (fetch_outcome s m t)

-- ---- IOX 306

-- bit 3 of a status
ready_bit : (e : ℕ) (b : Bool) → bit 3 (ready_status e (flag_of b)) ≡ flag_of b
ready_bit e true = omega arith
ready_bit e false = omega arith

pub ready_while_none_waits : ReadyWhileNoneWaits
unfolding device_stage register_of
ready_while_none_waits s m t l n h =
    let k : Control = (fetched_core s m t).control in
    ap (λ (r : Turn). bit 3 (register_at r.state s.level A)) (executed_step h)
    ∙ ap (bit 3) (register_after s l A n _ 0 m (fetched_tables s m t))
    ∙ ready_bit k.devices.output.enabled (eqb k.devices.output.waits 0)
    ∙ ap (λ (x : Control). flag_of (eqb x.devices.output.waits 0)) (fetched_control s m t)

-- ---- IDENT

-- the flip-flop that is cleared
cleared : (d : Devices) (i : Option Line) → flip_flop (without_asking d i) i ≡ 0
cleared d (Some OutputLine) = refl
cleared d (Some InputLine) = refl
cleared d (Some ClockLine) = refl
cleared d None = refl

module _ (n : ℕ) (s : State) (m t : List ℕ) (h : Executes (Ident n) s m t) where
  -- the running level with P one further
  abbrev fetched_next : Core
  fetched_next = next_core (fetched_core s m t)

  -- whether the device asks
  abbrev asks : Bool
  asks = eqb (flip_flop s.devices (line_of n)) 1

  same_asks : eqb (flip_flop fetched_next.control.devices (line_of n)) 1 ≡ asks
  same_asks = ap (λ (k : Control). eqb (flip_flop k.devices (line_of n)) 1) (fetched_control s m t)

  -- the step of one that is answered, and of one that is not
  answered_step : asks ≡ true
      → step s m t
      ≡ counted_turn 1 (settled s (part (identified fetched_next (line_of n)) 0 None m (fetched_tables s m t)))
  unfolding ident_stage
  answered_step e = executed_step h ∙ rw (same_asks ∙ e)

  trapped_step : asks ≡ false
      → step s m t ≡ counted_turn 1 (settled s (trapped interrupt_iox fetched_next m (fetched_tables s m t)))
  unfolding ident_stage
  trapped_step e = executed_step h ∙ rw (same_asks ∙ e)

  -- the flip-flop after one that is answered, and the interrupt of one that is not
  answered_clears : asks ≡ true → flip_flop (step s m t).state.devices (line_of n) ≡ 0
  unfolding settled far_stage
  answered_clears e =
      ap (λ (r : Turn). flip_flop r.state.devices (line_of n)) (answered_step e)
      ∙ cleared fetched_next.control.devices (line_of n)

  trapped_gives : asks ≡ false → (step s m t).gave ≡ interrupt_iox
  unfolding settled far_stage
  trapped_gives e = ap (λ (r : Turn). r.gave) (trapped_step e)

  -- without one it was answered
  asked : (step s m t).gave ≡ 0 → asks ≡ true
  asked none = go asks refl
    where
      go : (b : Bool) → asks ≡ b → b ≡ true
      go true e = refl
      go false e = absurd (omega (arith, none, trapped_gives e))

pub ident_answered : IdentAnswered
unfolding settled far_stage
ident_answered n s m t l k h none =
    let e = asked n s m t h none in
    let q = answered_step n s m t h e in
    let c : Core = identified (fetched_next n s m t h) (line_of n) in
    record {
      code =
          ap (λ (r : Turn). register_at r.state s.level A) q
          ∙ register_after s l A k c 0 m (fetched_tables s m t);
      flip_flop_law = answered_clears n s m t h e;
      pid = ap (λ (r : Turn). r.state.control.pid) q ∙ ap (λ (x : Control). x.pid) (fetched_control s m t);
    }

pub ident_unanswered : IdentUnanswered
ident_unanswered n s m t l k h off =
    let e : asks n s m t h ≡ false = ne_eqb (flip_flop s.devices (line_of n)) 1 off in (
      trapped_gives n s m t h e,
      ap (λ (r : Turn). register_at r.state s.level A) (trapped_step n s m t h e)
          ∙ register_after s l A k _ interrupt_iox m _
          ∙ ap (λ (f : File). reg f A) (after_fetch_file (core_of s) (fetch_ring s t) (fetch_outcome s m t))
          ∙ sym (register_before s l A),
    )

pub second_ident : SecondIdent
second_ident n s m t h again =
    let r : Turn = step s m t in
    trapped_gives n r.state r.memory r.tables again (go (asks n s m t h) refl)
  where
    go : (b : Bool) → asks n s m t h ≡ b → eqb (flip_flop (step s m t).state.devices (line_of n)) 1 ≡ false
    -- answered: it does not ask any more
    go true e = ap (λ (x : ℕ). eqb x 1) (answered_clears n s m t h e)
    -- not answered: an interrupt leaves the devices
    go false e =
        let given : (step s m t).gave ≡ 0 → ⊥ = λ z. omega (arith, z, trapped_gives n s m t h e) in
        ap (λ (d : Devices). eqb (flip_flop d (line_of n)) 1) (interrupt_keeps_devices s m t given) ∙ e

-- ---- read out

-- a machine that is not refused, and of which no character waits
none_waits : (s : State) (m t : List ℕ) → sizes_fit m t ≡ true → in_range s ≡ true → waits s ≡ false
    → read_out_call s m t ≡ record { answer = Ok None; state = s }
unfolding read_out_call state_answer
none_waits s m t sizes range e = rw (sizes, range, e)

-- the state that a read out leaves
left_by_read_out : (s : State) (m t : List ℕ) → sizes_fit m t ≡ true → in_range s ≡ true
    → (read_out_call s m t).state ≡ cond (waits s) (with_control_words s (read_out (control_of s))) s
unfolding read_out_call state_answer
left_by_read_out s m t sizes range = rw (sizes, range)

pub read_out_once : ReadOutOnce
read_out_once s m t typed sizes range =
    let f = state_fits s typed range in
    let k : Control = read_out (control_of s) in
    let left = state_range (with_control_words s k) (words_fit f (read_out_fits f.control)) in
    subst Unanswered (sym (left_by_read_out s m t sizes range))
    (decided Unanswered (waits s) (λ e. none_waits (with_control_words s k) m t sizes left refl)
    (none_waits s m t sizes range))
  where
    Unanswered : State → Type 0
    Unanswered x = read_out_call x m t ≡ record { answer = Ok None; state = x }
