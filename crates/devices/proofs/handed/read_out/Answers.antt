-- A read out is answered.
use Rattle.devices.proofs.handed.read_out.Goals as goal

pub returns : goal.returns
returns c = c.after.ensures (record { sts = 0; d = 0; p = 0; b = 0; l = 0; a = 0; t = 0; x = 0 }) 0
