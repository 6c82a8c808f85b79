-- When a change of level is due, and what steps of the machine leave.
use Rattle.std.specs.Prelude.{ℕ, Bool, not, ◌&&◌, List, eqb}
use Rattle.isa.specs.Machine.{core_of, pack, state_with}
use Rattle.isa.specs.Step.{Turn, highest_level}
use Rattle.isa.specs.declared.machine.Control.{Control}
use Rattle.isa.specs.declared.machine.Core.{Core}
use Rattle.levels.specs.declared.change.Advanced.{Advanced}

-- the words of the level l among those of all levels, with the control words k
abbrev pub core_at : ℕ → Control → List ℕ → List ℕ → Core
core_at l k regs pcrs = core_of (state_with l k regs pcrs)

-- by the control words alone: whether a change of the level l is due
abbrev pub due_at : ℕ → Control → Bool
due_at l k = eqb k.interrupts 1 && not (eqb (highest_level k) l)

-- what the steps leave of the machine whose other words are regs and pcrs
abbrev pub advanced_turn : Advanced → List ℕ → List ℕ → List ℕ → List ℕ → Turn
advanced_turn r regs pcrs m t = record {
  state = pack r.level r.core regs pcrs;
  gave = r.gave;
  memory = m;
  tables = t;
  references = r.references;
}
