-- One step of the running level by what the code has in hand: the file, and the rights with PTM 1.
use Rattle.std.specs.Prelude.{ℕ, ◌≡◌, Bool, true, false, List}
use Rattle.isa.specs.Machine.{reg, next}
use Rattle.isa.specs.Decode.{decode}
use Rattle.isa.specs.Instructions.{operand}
use Rattle.isa.specs.Pages.{lowered_pcr}
use Rattle.isa.specs.Step.{counted, instruction_stage, executed, step_in}
use Rattle.isa.specs.declared.access.Rights.{Rights}
use Rattle.isa.specs.declared.instruction.Instruction.{Instruction}
use Rattle.isa.specs.declared.instruction.Instruction.TheVariants.{Unprivileged, Privileged, Execute, Monitor, Illegal}
use Rattle.isa.specs.declared.machine.Control.{Control}
use Rattle.isa.specs.declared.machine.Core.{Core}
use Rattle.isa.specs.declared.machine.File.{File}
use Rattle.isa.specs.declared.machine.Register.TheVariants.{P}
use Rattle.paging.specs.Levels.{level_rights}
use Rattle.event.specs.Events.{event_part, ended_part, is_fine}
use Rattle.event.specs.declared.Ending.{Ending}
use Rattle.exec_memory.specs.Stages.{ExecutingAt, level_core}
use Rattle.exec_step.specs.declared.LevelStep.{LevelStep}

-- the ending e is what a stage answers for any instruction in every core that executes it
abbrev pub InstructionStage : File → ℕ → Rights → Instruction → List ℕ → List ℕ → Ending → List ℕ → List ℕ → Type 0
InstructionStage f at r i m t e m' t' =
    (l : ℕ) (c : Core) → ExecutingAt c f at r → ended_part l c e m' t' ≡ instruction_stage l c m t i

-- an unprivileged instruction
abbrev pub unprivileged : Instruction → Bool
unprivileged (Unprivileged u) = true
unprivileged (Privileged q) = false
unprivileged (Execute s) = false
unprivileged (Monitor n) = false
unprivileged Illegal = false

-- .. and no other ends fine: what a privileged one does is left to be done
abbrev pub FineAlone : Instruction → Ending → Type 0
FineAlone i e = is_fine e.event ≡ true → unprivileged i ≡ true

-- EXR's word is that of its register: the word that is decoded in the end, for the word w fetched
abbrev pub followed_by : File → ℕ → Instruction → ℕ
followed_by f w (Unprivileged u) = w
followed_by f w (Privileged q) = w
followed_by f w (Execute s) = operand f s
followed_by f w (Monitor n) = w
followed_by f w Illegal = w

abbrev pub followed : File → ℕ → ℕ
followed f w = followed_by f w (decode w)

-- the ending e is what a step answers for the word w, fetched from the address `at` in a file b of which f has P one
-- further
abbrev pub ExecutedWord : File → ℕ → Rights → ℕ → List ℕ → List ℕ → Ending → List ℕ → List ℕ → Type 0
ExecutedWord f at r w m t e m' t' =
    (l p : ℕ) (b : File) (k : Control) → next b ≡ f → reg b P ≡ at → level_rights p k.paging k.extended ≡ r
    → ended_part l (level_core b p k) e m' t' ≡ instruction_stage l (level_core b p k) m t (executed b (decode w))

-- s is what a step leaves of every level with the file f and the rights r
abbrev pub StepOfLevel : File → Rights → List ℕ → List ℕ → LevelStep → List ℕ → List ℕ → Type 0
StepOfLevel f r m t s m' t' =
    (l p : ℕ) (k : Control) → level_rights p k.paging k.extended ≡ r
    → counted s.references (event_part l (level_core s.file (lowered_pcr p s.ring) k) m' t' s.event)
    ≡ step_in l (level_core f p k) m t
