-- What the loop holds: the run stands where the machine is.
use Rattle.std.proofs.Common.{◌-◌, ◌<◌}
use Rattle.isa.specs.Machine.{level_count, pack}
use Rattle.run.specs.Runs.{turn_with}
use Rattle.run.proofs.Loops.{Going}
use Rattle.run.proofs.machine.run_in.Given as goal

abbrev pub invariant-loop-steps : goal.invariant-loop-steps
invariant-loop-steps l = record {
  going :
      Going l.first l.n (pack l.start l.fn.c l.fn.regs l.fn.pcrs) l.fn.mem l.fn.tables l.steps
      (turn_with l.references (pack l.level l.core l.regs l.pcrs) l.gave l.mem l.tables);
  level : l.level < level_count;
}

abbrev pub decreases-loop-steps : goal.decreases-loop-steps
decreases-loop-steps l = l.n - l.steps
