-- What the loop holds: the run stands where the machine is, behind the inputs handed in.
use Rattle.std.proofs.Common.{◌<◌, ◌≤◌, length, take}
use Rattle.isa.specs.Machine.{level_count, state_with}
use Rattle.isa.specs.DeviceInput.{given_of}
use Rattle.run_input.proofs.Laws.{Stands}
use Rattle.run_input.proofs.run_with_input.Given as goal

abbrev pub invariant-loop-i : goal.invariant-loop-i
invariant-loop-i l = record {
  stands :
      Stands l.n (given_of (take (length l.fn.told) l.at) l.what) (state_with l.start l.fn.k l.fn.regs l.fn.pcrs)
      l.fn.mem l.fn.tables l.fn.told l.i l.steps l.references (state_with l.level l.control l.regs l.pcrs) l.mem
      l.tables l.told;
  level : l.level < level_count;
  within : l.i ≤ l.count;
}
