-- Interrupts of accesses, places by physical addresses, the instructions by T and X, and what devices answer.
-- Assumes nothing.
use Prim.Native.Nat.{ℕ, ◌≤◌}
use native.Mathlib.Omega.{arith}
use mathlib.Core.Path.{◌≡◌, refl, sym, ap, subst, ◌∙◌}
use mathlib.Core.Bool.{Bool, true, false, cond}
use mathlib.Core.List.{List, []}
use lib.ListN.{length}
use lib.Dec.{ltb, eqb}
use Rattle.std.specs.Prelude.{option_map}
use Rattle.isa.specs.Machine.{interrupt_iox, reg, with_file}
use Rattle.isa.specs.Pages.{Tested, in_memory, within_memory}
use Rattle.isa.specs.Physical.{two_words, transfer_kind, word_addresses, transfer_address}
use Rattle.isa.specs.InputOutput.{exchanged, flip_flop, identified}
use Rattle.isa.specs.Step.{Part, part, counted, failed, trapped, transfer_stage, device_stage, ident_stage}
use Rattle.isa.specs.declared.access.AccessKind.{AccessKind}
use Rattle.isa.specs.declared.access.Place.{Place}
use Rattle.isa.specs.declared.access.Fault.{Fault}
use Rattle.isa.specs.declared.access.Fault.TheVariants.{OutOfRange}
use Rattle.isa.specs.declared.answer.Far.{Far}
use Rattle.std.specs.declared.option.Option.{Option}
use Rattle.std.specs.declared.option.Option.TheVariants.{None, Some}
use Rattle.std.specs.declared.result.Result.{Result}
use Rattle.std.specs.declared.result.Result.TheVariants.{Ok, Err}
use Rattle.isa.specs.declared.answer.Near.{Near}
use Rattle.isa.specs.declared.device.DeviceRegister.{DeviceRegister}
use Rattle.isa.specs.declared.device.Line.{Line}
use Rattle.isa.specs.declared.instruction.Transfer.{Transfer}
use Rattle.isa.specs.declared.machine.Core.{Core}
use Rattle.isa.specs.declared.machine.File.{File}
use Rattle.isa.specs.declared.machine.Register.TheVariants.{A}
use Rattle.isa.proofs.Tests.{no_both}
use Rattle.isa.proofs.References.{physical_most, addresses_two}
use Rattle.paging.specs.declared.failure.Failure.{Failure}
use Rattle.exec_physical.specs.Transfers.{transfer_tested, Moved, Stopped}
use Rattle.devices.specs.Events.{Acts, after_event, identified_core, event_core}
use Rattle.devices.specs.declared.Acted.{Acted}
use Rattle.devices.specs.declared.event.DeviceEvent.{DeviceEvent}
use Rattle.trap.specs.Parts.{near_part, answered_stage, event_stage}

-- what has no reference yet
pub unreferenced : (n : Near) {c : Core} {gave : ℕ} {far : Option Far}
    → ((m t : List ℕ) → near_part n m t ≡ part c gave far m t) → n.references ≡ 0
unreferenced n h = ap (λ (p : Part). p.near.references) (h [] [])

-- an access by a physical address: it lies within the memory, where it passed, and past it, where it failed
module _ (words : ℕ) (k : AccessKind) (p : ℕ) where
  place_or : Place → Result Place Fault → Place
  place_or d (Ok x) = x
  place_or d (Err f) = d

  fault_or : Fault → Result Place Fault → Fault
  fault_or d (Ok x) = d
  fault_or d (Err f) = f

  failed_test : Result Place Fault → Bool
  failed_test (Ok x) = false
  failed_test (Err f) = true

  pub in_memory_law : (x : Place) → Ok x ≡ within_memory words k p → (ltb p words ≡ true) × (x ≡ in_memory k p)
  unfolding within_memory place_or failed_test
  in_memory_law x e = go (ltb p words) refl
    where
      go : (b : Bool) → ltb p words ≡ b → (ltb p words ≡ true) × (x ≡ in_memory k p)
      go true q = (q, ap (place_or x) (simp q at e))
      go false q = absurd (no_both (ap failed_test (simp q at e)))

  pub past_memory : (f : Fault) → Err f ≡ within_memory words k p → (ltb p words ≡ false) × (f ≡ OutOfRange)
  unfolding within_memory fault_or failed_test
  past_memory f e = go (ltb p words) refl
    where
      go : (b : Bool) → ltb p words ≡ b → (ltb p words ≡ false) × (f ≡ OutOfRange)
      go true q = absurd (no_both (sym (ap failed_test (simp q at e))))
      go false q = (q, ap (fault_or f) (simp q at e))

-- ---- LDATX to STDTX: what the code was answered, as the definition's stage

module _ (c : Core) (m t : List ℕ) (o : Transfer) (d : ℕ) where
  abbrev tested : Tested
  tested = transfer_tested c.file (eqb c.control.extended 1) o d m t

  -- at most two accesses
  pub transfer_few : (e : Failure) (m' t' : List ℕ) → Stopped m t tested e m' t' → e.made ≤ 2
  transfer_few e m' t' h =
      let p = transfer_address c.file d in
      let most = physical_most t (eqb c.control.extended 1) (length m) (transfer_kind o) (word_addresses o p) in
      omega (arith, h.made, most, addresses_two o p)

  pub transfer_passed : (f : File) (b : Core) (n : ℕ) (m' t' : List ℕ) → b ≡ with_file c f → n ≡ cond (two_words o) 2 1
      → Moved c.file o m t tested f m' t' → counted n (part b 0 None m' t') ≡ transfer_stage c m t o d
  unfolding transfer_stage
  transfer_passed f b n m' t' e k h =
      rw (h.fault, h.made)
      (λ i. counted (k i)
      (part ((e ∙ ap (with_file c) h.file) i) 0 None (h.stored i).memory (h.stored i).tables))

  pub transfer_failed : (e : Failure) (m' t' : List ℕ) → Stopped m t tested e m' t'
      → counted e.made (failed c (Some e.fault) m' t') ≡ transfer_stage c m t o d
  unfolding transfer_stage
  transfer_failed e m' t' h =
      rw (h.fault, h.made)
      (λ i. counted e.made (failed c (Some e.fault) (h.stored i).memory (h.stored i).tables))

-- ---- what the devices answered, of a core c whose word in A is a

module _ (c : Core) (e : DeviceEvent) {a : ℕ} (same : a ≡ reg c.file A) where
  core_after : (x : Option Acted) → Acts a c.control.pid c.control.devices e x
      → option_map (after_event c) x ≡ event_core c e
  core_after x h =
      (subst (λ (w : ℕ). Acts w c.control.pid c.control.devices e x) same h).core c.file c.pcr c.control

  pub event_answered_law : {x : Option Acted} (y : Acted) → Acts a c.control.pid c.control.devices e x → x ≡ Some y
      → (m t : List ℕ) → part (after_event c y) 0 None m t ≡ event_stage c m t e
  event_answered_law {x} y h k m t =
      ap (answered_stage c m t) (sym (ap (option_map (after_event c)) k) ∙ core_after x h)

  pub event_unanswered : {x : Option Acted} → Acts a c.control.pid c.control.devices e x → x ≡ None → (m t : List ℕ)
      → trapped interrupt_iox c m t ≡ event_stage c m t e
  event_unanswered {x} h k m t =
      ap (answered_stage c m t) (sym (ap (option_map (after_event c)) k) ∙ core_after x h)

-- IOX and IOXT by the register, IDENT by the line
pub register_stage : (c : Core) (m t : List ℕ) (r : Option DeviceRegister)
    → answered_stage c m t (option_map (exchanged c) r) ≡ device_stage c m t r
unfolding device_stage
register_stage c m t (Some r) = refl
register_stage c m t None = refl

pub line_stage : (c : Core) (m t : List ℕ) (i : Option Line)
    → answered_stage c m t (identified_core c i) ≡ ident_stage c m t i
unfolding ident_stage
line_stage c m t i = go (eqb (flip_flop c.control.devices i) 1)
  where
    go : (b : Bool)
        → answered_stage c m t (cond b (Some (identified c i)) None)
        ≡ cond b (part (identified c i) 0 None m t) (trapped interrupt_iox c m t)
    go true = refl
    go false = refl
