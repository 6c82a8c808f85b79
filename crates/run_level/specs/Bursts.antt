-- Steps of the level alone, as the run's definition has them.
use Rattle.isa.specs.Machine.{level_count, register_words}
use Rattle.std.specs.Prelude.{◌≡◌, ℕ, suc, ◌+◌, ◌-◌, ◌%◌, ◌<◌, Bool, false, List, length, nat_eq}
use Rattle.isa.specs.Machine.{pack}
use Rattle.isa.specs.Step.{Part, Turn, counted, counted_turn, far_stage, step_in}
use Rattle.isa.specs.Run.{Run, sum_range, after_step, run_from}
use Rattle.isa.specs.declared.machine.Control.{Control}
use Rattle.isa.specs.declared.machine.File.{File}
use Rattle.event.specs.Events.{event_part}
use Rattle.exec_memory.specs.Stages.{level_core}
use Rattle.levels.specs.Changes.{due_at}
use Rattle.run_level.specs.declared.Burst.{Burst}

-- the words of all levels: their number, and a level among them
pub record Levels (l : ℕ) (regs pcrs : List ℕ) : Type 0 where
  pub level : l < level_count
  pub registers : length regs ≡ register_words
  pub controls : length pcrs ≡ level_count

-- the next step of the level l is to fetch and execute
pub record Executes (l : ℕ) (k : Control) : Type 0 where
  pub runs : nat_eq k.stopped 1 ≡ false
  pub stays : due_at l k ≡ false

-- what a step of the level l leaves of the machine whose other words are regs and pcrs
abbrev pub leaves : ℕ → List ℕ → List ℕ → Part → Turn
leaves l regs pcrs r =
    counted_turn r.near.references
    (far_stage (pack l r.near.core regs pcrs) r.near.gave r.memory r.tables r.near.far)

-- .. with the low 64 bits of its references
abbrev pub low_turn : Turn → Turn
low_turn r = record {
  state = r.state;
  gave = r.gave;
  memory = r.memory;
  tables = r.tables;
  references = r.references % sum_range;
}

-- a run of n more steps, after j, goes on behind its next steps, of which `before` gave nothing and the last left r
abbrev pub goes_on : Bool → ℕ → ℕ → ℕ → Turn → Run
goes_on first n j before r = after_step first (run_from first (n - suc before)) (j + before) r

-- what a burst leaves of the level; the references of all its steps are told with the last
abbrev pub burst_part : ℕ → Control → Burst → List ℕ → List ℕ → Part
burst_part l k b m t = counted b.references (event_part l (level_core b.file b.pcr k) m t b.event)

-- in every machine whose level has these registers and PCR and these switches for paging and extended mode
abbrev pub QuietSteps : File → ℕ → ℕ → ℕ → List ℕ → List ℕ → ℕ → Burst → List ℕ → List ℕ → Type 0
QuietSteps f p g x m t n b m' t' =
    (first : Bool) (l j : ℕ) (k : Control) (regs pcrs : List ℕ) → k.paging ≡ g → k.extended ≡ x → Executes l k
    → Levels l regs pcrs
    → run_from first n j (pack l (level_core f p k) regs pcrs) m t
    ≡ goes_on first n j b.before (leaves l regs pcrs (burst_part l k b m' t'))

-- .. and where the burst is one step
abbrev pub QuietStep : File → ℕ → ℕ → ℕ → List ℕ → List ℕ → Burst → List ℕ → List ℕ → Type 0
QuietStep f p g x m t b m' t' =
    b.before ≡ 0 → (l : ℕ) (k : Control) → k.paging ≡ g → k.extended ≡ x
    → step_in l (level_core f p k) m t ≡ burst_part l k b m' t'
