-- A privileged code fetched by way of an entry of ring 0 or 1 gives interrupt 6.
-- Assumes nothing.
use Prim.Native.Nat.{ℕ, ◌≤◌}
use native.Mathlib.Omega.{arith}
use mathlib.Core.Path.{◌≡◌}
use mathlib.Core.Bool.{false}
use lib.Dec.{ltb}
use borrow.Author.Tests.{eq-eqb, ltb-false, lt-leb}
use Rattle.isa.specs.Machine.{ring_of, core_of, with_pcr}
use Rattle.isa.specs.Pages.{lowered_pcr, lowered}
use Rattle.isa.specs.Step.{privileged, instruction_stage, after_fetch, fetched, step_in, far_stage, settled, step}
use Rattle.isa.specs.declared.machine.Core.{Core}
use Rattle.isa.specs.declared.access.Place.TheVariants.{Load}
use Rattle.isa.proofs.Tests.{decided}
use Rattle.laws.specs.Statement.{fetch_ring, PrivilegedTrapped}

-- with paging on, ring 0 or 1 is not privileged
pub not_privileged : (c : Core) → c.control.paging ≡ 1 → ring_of c.pcr ≤ 1 → privileged c ≡ false
not_privileged c on low = rw (eq-eqb c.control.paging 1 on, lt-leb 2 (ring_of c.pcr) (omega arith))

-- after a passed fetch the user's ring is not above the entry's
lowered_trapped : (c : Core) (ring p : ℕ) → c.control.paging ≡ 1 → ring ≤ 1
    → privileged (after_fetch c ring (Load p)) ≡ false
unfolding lowered
lowered_trapped c ring p on low =
    rw (eq-eqb c.control.paging 1 on)
    (decided (λ (d : Core). privileged d ≡ false) (ltb ring (ring_of c.pcr))
    (λ e. not_privileged (with_pcr c (lowered_pcr c.pcr ring)) on (omega arith))
    (λ e. not_privileged c on (omega (arith, ltb-false ring (ring_of c.pcr) e))))

pub privileged_trapped : PrivilegedTrapped
unfolding step step_in fetched instruction_stage settled far_stage
privileged_trapped s m t p o h low code =
    rw (h.runs, h.level_stays, h.passed, code, lowered_trapped (core_of s) (fetch_ring s t) p h.paging_on low)
