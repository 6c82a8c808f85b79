-- It asks where it is enabled and ready.
use Rattle.std.proofs.Common.{refl}
use Rattle.devices.proofs.Laws.{leaves_by}
use Rattle.devices.proofs.input_asking.Goals as goal

pub returns : goal.returns
returns c =
    leaves_by c.answered.ensures refl
    (λ k. simp (c.pid_after.ensures, c.flip_flop_after-asks.ensures, c.asking-now.ensures))
