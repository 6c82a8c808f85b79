-- 0307: bit 0 enables.
use Rattle.std.proofs.Common.{refl}
use Rattle.devices.proofs.Laws.{leaves_by}
use Rattle.devices.proofs.register.output_controlled.Goals as goal

pub returns : goal.returns
returns c = leaves_by c.output_asking.ensures refl (λ k. simp c.enabled.ensures)
