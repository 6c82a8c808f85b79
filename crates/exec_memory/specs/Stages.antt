-- The stages of an unprivileged instruction by what the code has in hand: the registers with P one further, the rights,
-- and the instruction's own address.
use Rattle.std.specs.Prelude.{ℕ, ◌≤◌, ◌≡◌, true, cond, List, [], ◌∷◌, get_or, length, ℤ}
use Rattle.std.specs.declared.option.Option.{Option}
use Rattle.std.specs.declared.option.Option.TheVariants.{None, Some}
use Rattle.std.specs.declared.result.Result.{Result}
use Rattle.std.specs.declared.result.Result.TheVariants.{Ok, Err}
use Rattle.isa.specs.Machine.{reg, next, next_core}
use Rattle.isa.specs.Address.{access, first_rule, address_rule, byte_address}
use Rattle.isa.specs.Pages.{Tested, test_all, after_test, words_at, rights_of}
use Rattle.isa.specs.Step.{Part, counted, failed, user_stage}
use Rattle.isa.specs.declared.access.AccessKind.TheVariants.{Indirect}
use Rattle.isa.specs.declared.access.Rights.{Rights}
use Rattle.isa.specs.declared.access.Place.{Place}
use Rattle.isa.specs.declared.access.Place.TheVariants.{Load, Store, LoadTable, StoreTable}
use Rattle.isa.specs.declared.access.Fault.{Fault}
use Rattle.isa.specs.declared.instruction.MemoryOp.{MemoryOp}
use Rattle.isa.specs.declared.instruction.Mode.{Mode}
use Rattle.isa.specs.declared.instruction.User.{User}
use Rattle.isa.specs.declared.instruction.User.TheVariants.{Memory}
use Rattle.isa.specs.declared.machine.Control.{Control}
use Rattle.isa.specs.declared.machine.Core.{Core}
use Rattle.isa.specs.declared.machine.File.{File}
use Rattle.isa.specs.declared.machine.Register.TheVariants.{P}
use Rattle.exec_address.specs.Addresses.{after_indirect}
use Rattle.exec_address.specs.Requests.{request_of}
use Rattle.memory_words.specs.declared.location.Location.{Location}
use Rattle.event.specs.Events.{ended_part}
use Rattle.event.specs.declared.Ending.{Ending}
use Rattle.exec_memory.specs.Served.{Executing, requested}
use Rattle.exec_memory.specs.declared.address.Effective.{Effective}

-- c executes an instruction at the address a
pub record ExecutingAt (c : Core) (f : File) (a : ℕ) (r : Rights) : Type 0 where
  pub executing : Executing c f r
  pub address : reg c.file P ≡ a

-- ---- up to the effective address

-- an operation goes on at its effective address, or the access for the indirect word failed
unfoldable pub addressed : Core → List ℕ → List ℕ → MemoryOp → Result Effective Fault → Part
addressed c m t o (Ok e) = counted e.read (requested c m t (request_of o (next c.file)) e.alternate e.address)
addressed c m t o (Err x) = counted 1 (failed (next_core c) (Some x) m t)

-- "Finding an effective address shall also tell how many words it read (0 or 1)"; a failed access is for one
abbrev pub words_read : Result Effective Fault → ℕ
words_read (Ok e) = e.read
words_read (Err x) = 1

-- as the stage up to it answers, in every core that executes it
abbrev pub Addressed : File → ℕ → Rights → Mode → ℤ → List ℕ → List ℕ → Result Effective Fault → List ℕ → Type 0
Addressed f at r md d m t e t' =
    (words_read e ≤ 1)
    × ((c : Core) (o : MemoryOp) → ExecutingAt c f at r → addressed c m t' o e ≡ user_stage c m t (Memory o md d))

-- the access for the indirect word was tested
unfoldable pub after_indirect_word : Core → List ℕ → MemoryOp → Mode → Tested → Part
after_indirect_word c m o md r =
    let a = after_indirect md (next c.file) (get_or (words_at m r.tables r.places) 0 0) in
    counted r.made
    (after_test r.fault (requested c m r.tables (request_of o (next c.file)) (address_rule md) a)
    (λ x. failed (next_core c) (Some x) m r.tables))

-- .. and where the mode has an indirect word, at the address a
abbrev pub ByIndirect : File → Rights → Mode → ℕ → List ℕ → List ℕ → Result Effective Fault → List ℕ → Type 0
ByIndirect f r md a m t e t' =
    (words_read e ≤ 1)
    × ((c : Core) (o : MemoryOp) → Executing c f r
    → addressed c m t' o e
    ≡ after_indirect_word c m o md (test_all t (length m) (rights_of c) (access Indirect (first_rule md) a ∷ [])))

-- ---- instructions

-- the word of LBYT and SBYT
abbrev pub byte_location : Rights → File → Location
byte_location r g = record { rights = r; alternate = true; address = byte_address g }

-- the ending e is what a stage answers for an unprivileged instruction in every core that executes it
abbrev pub UserStage : File → ℕ → Rights → User → List ℕ → List ℕ → Ending → List ℕ → List ℕ → Type 0
UserStage f at r u m t e m' t' = (l : ℕ) (c : Core) → ExecutingAt c f at r → ended_part l c e m' t' ≡ user_stage c m t u

-- ---- the fetch

-- the core of a file, a PCR and control words
abbrev pub level_core : File → ℕ → Control → Core
level_core f p k = record { file = f; pcr = p; control = k }

-- the ring after a passed fetch to the place x by way of an entry of a ring that is not above the old one
abbrev pub ring_from : ℕ → ℕ → Place → ℕ
ring_from old ring (Load p) = ring
ring_from old ring (Store p) = old
ring_from old ring (LoadTable i) = old
ring_from old ring (StoreTable i) = old

abbrev pub ring_after : Rights → ℕ → Place → ℕ
ring_after r ring x = cond r.paging (ring_from r.ring ring x) r.ring

-- .. which one that failed leaves
abbrev pub ring_left : Rights → ℕ → Option Place → ℕ
ring_left r ring None = r.ring
ring_left r ring (Some p) = ring_after r ring p
