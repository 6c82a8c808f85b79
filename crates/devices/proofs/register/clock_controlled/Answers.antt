-- 013: bit 0 enables, bit 13 clears ready.
use Rattle.std.proofs.Common.{refl}
use Rattle.devices.proofs.Laws.{leaves_by}
use Rattle.devices.proofs.register.clock_controlled.Goals as goal

pub returns : goal.returns
returns c = leaves_by c.clock_asking.ensures refl (λ k. simp (c.ready_after.ensures, c.enabled.ensures))
