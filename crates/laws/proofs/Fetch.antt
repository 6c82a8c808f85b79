-- A fetch changes nothing of the running level but the ring in its PCR, which it may lower.
-- Assumes nothing.
use Prim.Native.Nat.{ℕ, ◌<◌}
use mathlib.Core.Path.{◌≡◌, refl}
use lib.Dec.{ltb, eqb}
use borrow.Author.Tests.{ltb-true}
use Rattle.isa.specs.Machine.{ring_of, with_pcr}
use Rattle.isa.specs.Pages.{lowered_pcr, lowered}
use Rattle.isa.specs.declared.machine.Core.{Core}
use Rattle.std.specs.declared.result.Result.{Result}
use Rattle.std.specs.declared.result.Result.TheVariants.{Ok, Err}
use Rattle.isa.specs.declared.access.Place.{Place}
use Rattle.isa.specs.declared.access.Place.TheVariants.{Load, Store, LoadTable, StoreTable}
use Rattle.isa.specs.declared.access.Fault.{Fault}
use Rattle.isa.proofs.Tests.{either, decided}
use Rattle.laws.specs.Statement.{after_outcome}

module _ (c : Core) (ring : ℕ) (x : Result Place Fault) where
  -- what a lower ring keeps, a fetch keeps
  pub fetch_keeps : (K : Core → Type 0)
      → (ring < ring_of c.pcr → K (with_pcr c (lowered_pcr c.pcr ring))) → K c → K (after_outcome c ring x)
  unfolding lowered
  fetch_keeps K low h = go x
    where
      go : (y : Result Place Fault) → K (after_outcome c ring y)
      go (Ok (Load p)) =
          either K (eqb c.control.paging 1)
          (decided K (ltb ring (ring_of c.pcr)) (λ e. low (ltb-true ring (ring_of c.pcr) e)) (λ e. h)) h
      go (Ok (Store p)) = h
      go (Ok (LoadTable i)) = h
      go (Ok (StoreTable i)) = h
      go (Err f) = h

  pub after_fetch_file : (after_outcome c ring x).file ≡ c.file
  after_fetch_file = fetch_keeps (λ d. d.file ≡ c.file) (λ l. refl) refl

  pub after_fetch_control : (after_outcome c ring x).control ≡ c.control
  after_fetch_control = fetch_keeps (λ d. d.control ≡ c.control) (λ l. refl) refl
