-- The words of a state that are read and written.
use Rattle.std.specs.Prelude.{ℕ}
use Rattle.isa.specs.Step.{register_at, put_register}
use Rattle.isa.specs.declared.machine.State.{State}
use Rattle.isa.specs.declared.machine.Register.TheVariants.{A, T}

-- A of the running level, the state with a word in it, and the state with a word in T of level 14
abbrev pub own_a : State → ℕ
own_a s = register_at s s.level A

abbrev pub with_a : State → ℕ → State
with_a s w = put_register s s.level A w

abbrev pub with_call : State → ℕ → State
with_call s w = put_register s 14 T w
