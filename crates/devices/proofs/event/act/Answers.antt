-- What is handed in between steps is always answered.
use Rattle.std.proofs.Common.{ap, Some}
use Rattle.devices.proofs.Laws.{leaves_core}
use Rattle.devices.proofs.event.act.Goals as goal

pub returns-in-Tick : goal.returns-in-Tick
returns-in-Tick c = rw c.in-Tick.is (record { core = λ f p k. ap Some (leaves_core c.ticked.ensures c.args.a f p k) })

pub returns-in-Typed : goal.returns-in-Typed
returns-in-Typed c = rw c.in-Typed.is (record { core = λ f p k. ap Some (leaves_core c.typed.ensures c.args.a f p k) })

pub returns-in-ReadOut : goal.returns-in-ReadOut
returns-in-ReadOut c =
    rw c.in-ReadOut.is (record { core = λ f p k. ap Some (leaves_core c.read_out.ensures c.args.a f p k) })
