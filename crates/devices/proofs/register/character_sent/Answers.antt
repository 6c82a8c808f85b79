-- 0305: the low bits of A are the character that waits.
use Rattle.std.proofs.Common.{refl}
use Rattle.devices.proofs.Laws.{leaves_by}
use Rattle.devices.proofs.register.character_sent.Goals as goal

pub returns : goal.returns
returns c = leaves_by c.answered.ensures refl (λ k. simp c.low_bits.ensures)
