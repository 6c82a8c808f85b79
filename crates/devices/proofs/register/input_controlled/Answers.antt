-- 0303: bit 0 enables, bits 12-11 are the length.
use Rattle.std.proofs.Common.{refl}
use Rattle.devices.proofs.Laws.{leaves_by}
use Rattle.devices.proofs.register.input_controlled.Goals as goal

pub returns : goal.returns
returns c = leaves_by c.input_asking.ensures refl (λ k. simp (c.length_of.ensures, c.enabled.ensures))
