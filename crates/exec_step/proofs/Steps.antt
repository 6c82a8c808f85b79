-- The word fetched, and the whole step, as the machine's own definition has them.
-- Assumes nothing.
use Prim.Native.Nat.{ℕ, ◌+◌, ◌<◌}
use mathlib.Core.Path.{◌≡◌, refl, ap, sym, ◌∙◌}
use mathlib.Core.Bool.{Bool, true, false, cond}
use mathlib.Core.List.{List}
use lib.ListN.{length}
use lib.Dec.{eqb}
use Rattle.std.specs.declared.option.Option.{Option}
use Rattle.std.specs.declared.option.Option.TheVariants.{Some}
use Rattle.isa.specs.Machine.{reg, next, next_core, normal_table_of}
use Rattle.isa.specs.Decode.{decode}
use Rattle.isa.specs.Address.{access}
use Rattle.isa.specs.Pages.{in_window, translate, marked, word_at, rights_of, entry_at, slot_of, lowered_pcr}
use Rattle.isa.specs.Machine.{interrupt_privileged}
use Rattle.isa.specs.Step.{executed, after_fetch, fetch_of, fetched, failed, trapped, system_stage}
use Rattle.isa.specs.Step.{Part, counted, privileged, instruction_stage, step_in}
use Rattle.isa.specs.declared.access.AccessKind.TheVariants.{Fetch}
use Rattle.isa.specs.declared.access.Rights.{Rights}
use Rattle.std.specs.declared.result.Result.{Result}
use Rattle.std.specs.declared.result.Result.TheVariants.{Ok, Err}
use Rattle.isa.specs.declared.access.Place.{Place}
use Rattle.isa.specs.declared.access.Fault.{Fault}
use Rattle.isa.specs.declared.instruction.Instruction.{Instruction}
use Rattle.isa.specs.declared.instruction.System.{System}
use Rattle.isa.specs.declared.instruction.Instruction.TheVariants.{Unprivileged, Privileged, Execute, Monitor, Illegal}
use Rattle.isa.specs.declared.machine.Control.{Control}
use Rattle.isa.specs.declared.machine.Core.{Core}
use Rattle.isa.specs.declared.machine.File.{File}
use Rattle.isa.specs.declared.machine.Register.TheVariants.{Sts, P}
use Rattle.paging.specs.Levels.{level_rights, by_flags, on_ring, privileged_by}
use Rattle.paging.proofs.Levels.{ring_rights, same_ring}
use Rattle.event.specs.Events.{event_part, by_privilege, ended_part}
use Rattle.event.specs.declared.Ending.{Ending}
use Rattle.event.specs.declared.Event.{Event}
use Rattle.event.specs.declared.Event.TheVariants.{Failed as Faulted, Privileged as ByRing}
use Rattle.isa.proofs.Counts.{counted_twice, counted_none}
use Rattle.exec_memory.specs.Served.{Executing}
use Rattle.exec_memory.specs.Stages.{level_core, ring_after}
use Rattle.exec_memory.proofs.Stages.{file_left, ring_is, ring_small}
use Rattle.exec_step.specs.declared.fetch.Page.{Page}
use Rattle.exec_step.specs.Steps.{followed_by, followed, ExecutedWord, StepOfLevel}

-- the instruction that is executed is that of the word that was followed
pub executed_followed : (f : File) (w : ℕ) → decode (followed (next f) w) ≡ executed f (decode w)
executed_followed f w = go (decode w) refl
  where
    go : (i : Instruction) → decode w ≡ i → decode (followed_by (next f) w i) ≡ executed f i
    go (Unprivileged u) e = e
    go (Privileged q) e = e
    go (Execute s) e = refl
    go (Monitor n) e = e
    go Illegal e = e

-- a privileged instruction, on a ring that may execute it or on one that may not
pub privileged_part : (l : ℕ) (c : Core) (m t : List ℕ) (q : System) (b : Bool)
    → event_part l c m t (by_privilege b (Some (ByRing q)))
    ≡ cond b (system_stage l c m t q) (trapped interrupt_privileged c m t)
unfolding event_part by_privilege
privileged_part l c m t q true = refl
privileged_part l c m t q false = refl

-- an event without a reference, which leaves the file as it is
pub event_left : {c : Core} {f : File} {r : Rights} (l : ℕ) (m t : List ℕ) {z : Ending} {e : Option Event} → Executing c f r
    → z ≡ record { references = 0; event = e; file = f }
    → ended_part l c z m t ≡ event_part l (next_core c) m t (by_privilege (privileged c) e)
event_left {c} l m t {e = e} s q =
    file_left l m t s q ∙ counted_none (event_part l (next_core c) m t (by_privilege (privileged c) e))

-- PTM plays no part in a fetch
fetch_flags : (t : List ℕ) (words : ℕ) (r : Rights) (sts a : ℕ)
    → translate t words (by_flags r sts) (access Fetch false a) ≡ translate t words r (access Fetch false a)
unfolding translate in_window
fetch_flags t words r sts a = refl

mark_flags : (t : List ℕ) (words : ℕ) (r : Rights) (sts a : ℕ)
    → marked t words (by_flags r sts) (access Fetch false a) ≡ marked t words r (access Fetch false a)
unfolding marked translate in_window
mark_flags t words r sts a = refl

-- what the code found of the fetch in the file f: the ring of its entry, what came of it, and the tables v that it left
pub record Fetched (f : File) (m t : List ℕ) (r : Rights) (ring : ℕ) (x : Result Place Fault)
    (v : List ℕ) : Type 0 where
  pub entry : ring ≡ (entry_at r.extended t (slot_of r.normal (reg f P))).ring
  pub outcome : x ≡ translate t (length m) r (access Fetch false (reg f P))
  pub marks : v ≡ marked t (length m) r (access Fetch false (reg f P))

module _ (f : File) (m t : List ℕ) (r : Rights) (ring : ℕ) (v : List ℕ) where
  fetched_step : (x : Result Place Fault) → Fetched f m t r ring x v → (l p : ℕ) (k : Control)
      → level_rights p k.paging k.extended ≡ r
      → fetched l (level_core f p k) m v ring x ≡ step_in l (level_core f p k) m t
  unfolding step_in
  fetched_step x h l p k e = λ i. fetched l c m (v_is i) (ring_in i) (x_is i)
    where
      c : Core
      c = level_core f p k

      x_is : x ≡ translate t (length m) (rights_of c) (fetch_of c)
      x_is =
          h.outcome
          ∙ ap (λ (y : Rights). translate t (length m) y (fetch_of c)) (sym e)
          ∙ sym (fetch_flags t (length m) (level_rights p k.paging k.extended) (reg f Sts) (reg f P))

      v_is : v ≡ marked t (length m) (rights_of c) (fetch_of c)
      v_is =
          h.marks
          ∙ ap (λ (y : Rights). marked t (length m) y (fetch_of c)) (sym e)
          ∙ sym (mark_flags t (length m) (level_rights p k.paging k.extended) (reg f Sts) (reg f P))

      ring_in : ring ≡ (entry_at (eqb k.extended 1) t (slot_of (normal_table_of p) (reg f P))).ring
      ring_in =
          h.entry ∙ ap (λ (y : Rights). (entry_at y.extended t (slot_of y.normal (reg f P))).ring) (sym e)

  -- it passed, to the place x, and the word w was executed on the ring q, which may execute privileged codes if b is
  -- true
  pub step_passed : (x : Place) → Fetched f m t r ring (Ok x) v → (q w : ℕ) (page : Page) {b : Bool} (e : Ending)
      {z : Option Event} (m' t' : List ℕ) → r.ring < 4
      → q ≡ ring_after r ring x
      → b ≡ privileged_by (on_ring r q)
      → z ≡ by_privilege b e.event
      → w ≡ word_at m v x
      → ExecutedWord (next f) (reg f P) (on_ring r q) w m v e m' t'
      → StepOfLevel f r m t
      (record { file = e.file; ring = q; page = page; event = z; references = 1 + e.references }) m' t'
  unfolding fetched
  step_passed x h q w page e m' t' below i g a j d l p k y =
      let small : q < 4 = rw i (ring_small t (reg f P) r x below h.entry) in
      let lower : ℕ = lowered_pcr p q in
      let rights : level_rights lower k.paging k.extended ≡ on_ring r q =
      ring_rights p q k.paging k.extended small ∙ ap (λ (u : Rights). on_ring u q) y in
      let core : level_core f lower k ≡ after_fetch (level_core f p k) ring x =
      ap (λ (u : ℕ). level_core f (lowered_pcr p u) k) i
      ∙ sym (ring_is f p k t (length m) (reg f P) y h.outcome h.entry) in
      let event = a ∙ ap (λ (u : Bool). by_privilege u e.event) (g ∙ ap privileged_by (sym rights)) in
      let left : Option Event → Part = event_part l (level_core e.file lower k) m' t' in
      ap (λ (u : Option Event). counted (1 + e.references) (left u)) event
      ∙ sym (counted_twice 1 e.references (left (by_privilege (privileged (level_core f lower k)) e.event)))
      ∙ ap (counted 1)
      (d l lower f k refl refl rights
      ∙ ap (λ (c : Core). instruction_stage l c m v (executed f (decode w))) core
      ∙ ap (λ (u : ℕ). instruction_stage l (after_fetch (level_core f p k) ring x) m v (executed f (decode u))) j)
      ∙ fetched_step (Ok x) h l p k y

  -- it failed
  pub step_failed : (x : Fault) → Fetched f m t r ring (Err x) v → (page : Page)
      → StepOfLevel f r m t
      (record { file = f; ring = r.ring; page = page; event = Some (Faulted (Some x)); references = 1 }) m v
  unfolding event_part fetched
  step_failed x h page l p k y =
      let own : lowered_pcr p r.ring ≡ p = ap (λ (u : Rights). lowered_pcr p u.ring) (sym y) ∙ same_ring p in
      ap (λ (u : ℕ). counted 1 (failed (level_core f u k) (Some x) m v)) own ∙ fetched_step (Err x) h l p k y
