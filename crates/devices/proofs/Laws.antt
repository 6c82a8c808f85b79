-- From what a device leaves of A, PID and the devices to the core after it.
-- Assumes nothing.
use Prim.Native.Nat.{ℕ}
use mathlib.Core.Path.{◌≡◌, sym, ap, ◌∙◌}
use Rattle.std.proofs.Common.{Bool, cond, Option, Some, None, eq-eqb}
use Rattle.isa.specs.Machine.{with_control}
use Rattle.isa.specs.System.{with_devices}
use Rattle.isa.specs.InputOutput.{with_a, exchanged, ident_code, flip_flop, without_asking, identified}
use Rattle.isa.specs.declared.machine.Control.{Control}
use Rattle.isa.specs.declared.machine.Core.{Core}
use Rattle.isa.specs.declared.machine.File.{File}
use Rattle.isa.specs.declared.device.Devices.{Devices}
use Rattle.isa.specs.declared.device.DeviceRegister.{DeviceRegister}
use Rattle.isa.specs.declared.device.Line.{Line}
use Rattle.devices.specs.Events.{Leaves, Exchanges, Identifies, core_with, after_event}
use Rattle.devices.specs.declared.Acted.{Acted}

-- what a call left, told by other words
pub leaves_by : {pid pid' : ℕ} {d d' : Devices} {w w' : ℕ} {g g' : Control → Control} {x : Acted}
    → Leaves pid' d' w' g' x → w' ≡ w → ((k : Control) → g' (with_devices k pid' d') ≡ g (with_devices k pid d))
    → Leaves pid d w g x
leaves_by h e q = record { a = h.a ∙ e; control = λ k. h.control k ∙ q k }

module _ {pid : ℕ} {d : Devices} {w : ℕ} {g : Control → Control} {x : Acted} (h : Leaves pid d w g x) (a : ℕ) where
  -- the core after it
  abbrev left : File → ℕ → Control → Core
  left f p k = with_control (with_a (core_with f p k a pid d) w) (g (with_devices k pid d))

  pub leaves_core : (f : File) (p : ℕ) (k : Control) → after_event (core_with f p k a pid d) x ≡ left f p k
  leaves_core f p k = λ i. with_control (with_a (core_with f p k a pid d) (h.a i)) (h.control k i)

  -- a transfer
  pub exchanges : (r : DeviceRegister)
      → ((f : File) (p : ℕ) (k : Control) → left f p k ≡ exchanged (core_with f p k a pid d) r)
      → Exchanges a pid d r x
  exchanges r q = record { core = λ f p k. leaves_core f p k ∙ q f p k }

-- an IDENT about the line i, which asks
abbrev pub cleared : Option Line → Control → Control
cleared i k = with_devices k k.pid (without_asking k.devices i)

pub identifies : {pid : ℕ} {d : Devices} (i : Option Line) {x : Acted} → Leaves pid d ident_code (cleared i) x → (a : ℕ)
    → flip_flop d i ≡ 1 → Identifies a pid d i (Some x)
identifies {pid} {d} i h a asks = record {
  core =
      λ f p k. let c = core_with f p k a pid d in
      ap Some (leaves_core h a f p k)
      ∙ ap (λ (b : Bool). cond b (Some (identified c i)) None) (sym (eq-eqb (flip_flop d i) 1 asks));
}
