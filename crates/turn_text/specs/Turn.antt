-- Document 01, "A whole run": what `turn` finds, as the numbers that it prints.
use Rattle.std.specs.Prelude.{Result, Ok, Err, ℕ, ◌+◌, ◌*◌, ◌%◌, false, cond, not, List, get_or, length, replicate, ltb, eqb}
use Rattle.isa.specs.Devices.{device_count}
use Rattle.isa.specs.Machine.{table_words, file_size, register_words, control_count, number, file_at, state_of}
use Rattle.isa.specs.Answers.{Answer, RunAnswer, LoadCall, load_call, run_call}
use Rattle.isa.specs.declared.machine.Register.{Register}
use Rattle.isa.specs.declared.machine.State.{State}
use Rattle.isa.specs.declared.answer.Reason.{Reason}
use Rattle.isa.specs.declared.answer.Refusal.TheVariants.{Bodies}
use Rattle.turn_text.specs.Bytes.{bytes_as_words}
use Rattle.turn_text.specs.declared.End.{End}
use Rattle.isa.specs.declared.answer.Refusal.{Refusal}

-- "registers at 8 × level + number", of the running level
abbrev pub level_register : State → Register → ℕ
level_register s r = get_or s.regs (s.level * file_size + number r) 0

-- "prints reason .. steps and level in decimal, then the running level's registers in octal"
abbrev pub end_of : Reason → ℕ → State → End
end_of w k s = record {
  reason = w;
  steps = k;
  level = s.level;
  file = file_at s.regs s.level;
}

-- how an image ended, or why it was refused
abbrev pub Turned : Type 0
Turned = Result End Refusal

abbrev pub ran_by : RunAnswer → State → Turned
ran_by (Ok r) s = Ok (end_of r.reason r.steps s)
ran_by (Err r) s = Err r

-- "runs through at most 1,000 steps"
unfoldable pub ran_from : State → List ℕ → List ℕ → Turned
ran_from s m t = let r = run_call false 1000 s m t in ran_by r.answer r.state

abbrev pub after_load : Answer → LoadCall → Turned
after_load (Ok _) c = ran_from c.state c.memory c.tables
after_load (Err r) c = Err r

-- the state that load is handed, which nothing is taken from
abbrev pub cleared_state : State
cleared_state = state_of (replicate register_words 0) (replicate control_count 0) (replicate device_count 0)

-- an image loaded into lent memory and page tables, and run
unfoldable pub image_turned : List ℕ → List ℕ → List ℕ → Turned
image_turned i m t = let c = load_call cleared_state i m t in after_load c.answer c

-- "(at most 65,536 bytes; more, or an odd count, is 8 before all else), lends 16 pages"
unfoldable pub turned : List ℕ → Turned
turned bytes =
    cond (ltb 65536 (length bytes)) (Err Bodies)
    (cond (not (eqb (length bytes % 2) 0)) (Err Bodies)
    (image_turned (bytes_as_words bytes) (replicate 16384 0) (replicate table_words 0)))
