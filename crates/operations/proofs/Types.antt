-- What the types of the code say of a state.
-- Assumes nothing.
use Prim.Native.Nat.{ℕ}
use native.Mathlib.Omega.{arith}
use mathlib.Core.List.{List, [], ◌∷◌, ◌++◌}
use lib.ListN.{drop}
use mir.Syntax.{w16}
use mir.Val.{Val}
use denote.Laws.{Is}
use denote.Shadow.{shadow}
use denote.Struct.Declared.{row}
use borrow.Author.Rules.{elem_Fits}
use Rattle.isa.specs.Devices.{device_words}
use Rattle.isa.specs.Machine.{Words, Typed, added_words, control_words, control_of}
use Rattle.isa.specs.declared.machine.State.{State}
use Rattle.isa.specs.declared.machine.Scalars.{Scalars}
use Rattle.isa.specs.declared.machine.Added.{Added}
use Rattle.isa.specs.declared.device.Devices.{Devices}
use Rattle.isa.specs.contracts.machine.State.{the_type}
use Rattle.isa.specs.contracts.machine.Scalars.{the_field as scalars, the_type as scalars-type}
use Rattle.isa.specs.contracts.machine.Added.{the_field as added, the_type as added-type}
use Rattle.isa.specs.contracts.device.Devices.{the_field as devices, the_type as devices-type}
use Rattle.ranges.proofs.Places.{nil_words, cons_words, append_words}

-- ---- the words of such a state's records, of the machine values vs

abbrev scalar_list : Scalars → List ℕ
scalar_list k =
    k.interrupts
    ∷ k.paging
    ∷ k.stopped
    ∷ k.pid
    ∷ k.pie
    ∷ k.pvl
    ∷ k.iid
    ∷ k.iie
    ∷ k.pgs
    ∷ []

scalars_fit : (k : Scalars) (vs : List Val) → shadow (scalars.row.own_val (scalars-type.to k) vs)
    → Words (scalar_list k)
scalars_fit k vs h =
    let w = scalar_list k in
    cons_words k.interrupts (drop 1 w) (omega arith)
    (cons_words k.paging (drop 2 w) (omega arith)
    (cons_words k.stopped (drop 3 w) (omega arith)
    (cons_words k.pid (drop 4 w) (omega arith)
    (cons_words k.pie (drop 5 w) (omega arith)
    (cons_words k.pvl (drop 6 w) (omega arith)
    (cons_words k.iid (drop 7 w) (omega arith)
    (cons_words k.iie (drop 8 w) (omega arith)
    (cons_words k.pgs [] (omega arith) nil_words))))))))

added_fit : (a : Added) (vs : List Val) → shadow (added.row.own_val (added-type.to a) vs) → Words
    (a.held ∷ a.extended ∷ [])
added_fit a vs h =
    cons_words a.held (a.extended ∷ []) (omega arith) (cons_words a.extended [] (omega arith) nil_words)

devices_fit : (d : Devices) (vs : List Val) → shadow (devices.row.own_val (devices-type.to d) vs)
    → Words (device_words d)
devices_fit d vs h =
    let w = device_words d in
    cons_words d.clock.enabled (drop 1 w) (omega arith)
    (cons_words d.clock.ready (drop 2 w) (omega arith)
    (cons_words d.clock.asks (drop 3 w) (omega arith)
    (cons_words d.input.enabled (drop 4 w) (omega arith)
    (cons_words d.input.unread (drop 5 w) (omega arith)
    (cons_words d.input.asks (drop 6 w) (omega arith)
    (cons_words d.input.character (drop 7 w) (omega arith)
    (cons_words d.input.length (drop 8 w) (omega arith)
    (cons_words d.output.enabled (drop 9 w) (omega arith)
    (cons_words d.output.waits (drop 10 w) (omega arith)
    (cons_words d.output.asks (drop 11 w) (omega arith)
    (cons_words d.output.character [] (omega arith) nil_words)))))))))))

-- a state that the code has, of the machine values vs: q has its fields one after the other, registers first, the
-- devices last
pub typed : (s : State) (vs : List Val) → Is (row the_type) s vs → Typed s
typed s vs h =
    let q = h.1.1 in
    let behind = q.1.1.1 in
    record {
      regs_length = q.0.1.0.1;
      pcr_length = behind.0.1.0.1;
      regs_words = λ i. (elem_Fits w16 w16 s.regs q.0.0 i q.0.1.1 tt).fits;
      control_words_law =
          cons_words s.level (drop 1 (control_words s)) (omega arith)
          (append_words (scalar_list s.control) (s.pcr ++ added_words (control_of s))
          (scalars_fit s.control _ q.1.1.0)
          (append_words s.pcr (added_words (control_of s))
          (λ i. (elem_Fits w16 w16 s.pcr behind.0.0 i behind.0.1.1 tt).fits)
          (added_fit s.added _ behind.1.0)));
      device_words_law = devices_fit s.devices _ behind.1.1.0;
    }
