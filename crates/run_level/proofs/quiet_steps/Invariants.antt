use Rattle.std.proofs.Common.{ℕ, ◌-◌, ◌<◌, ◌≤◌, List, length}
use Rattle.isa.specs.declared.machine.File.{File}
use Rattle.paging.specs.Levels.{on_ring}
use Rattle.exec_step.specs.Fetches.{Kept}
use Rattle.run_level.proofs.Bursts.{Level, Quiet, level_on}
use Rattle.run_level.proofs.quiet_steps.Given as goal

-- the level as the burst began
abbrev pub begun : File → ℕ → List ℕ → List ℕ → Level
begun f p m t = record { file = f; pcr = p; memory = m; tables = t }

-- n - left quiet steps lead from there to where the level stands, with the page that is kept
abbrev pub invariant-loop-left : goal.invariant-loop-left
invariant-loop-left l = record {
  quiet :
      Quiet l.paging l.extended l.n (begun l.fn.f l.p l.fn.mem l.fn.tables) (l.n - l.left)
      (level_on l.file l.p l.ring l.mem l.tables) l.references;
  most : l.left ≤ l.n;
  on : l.ring < 4;
  kept : Kept (length l.mem) (on_ring l.base l.ring) l.page l.tables;
}

abbrev pub decreases-loop-left : goal.decreases-loop-left
decreases-loop-left l = l.left
