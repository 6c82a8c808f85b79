-- The register instructions as the machine's own definition has them.
-- Assumes nothing.
use Rattle.std.proofs.Common.{◌≡◌, ℕ, Bool, true, false, cond, Option, Some, None, List, refl, arith}
use lib.Dec as Dec
use Rattle.isa.specs.Machine.{reg, with_reg, next}
use Rattle.isa.specs.Flags.{division_fails}
use Rattle.isa.specs.Instructions.{Completed, complete, loads, divided, double_of}
use Rattle.isa.specs.declared.machine.File.{File}
use Rattle.isa.specs.declared.machine.Register.TheVariants.{D, P, A}
use Rattle.isa.specs.declared.instruction.Argument.TheVariants.{ArgumentB, ArgumentA, ArgumentT, ArgumentX}
use Rattle.isa.specs.declared.instruction.CarryIn.TheVariants.{NoCarry, One, Previous}
use Rattle.isa.specs.declared.instruction.User.{User}
use Rattle.isa.specs.declared.instruction.User.TheVariants.{Memory, Jump, Skip, Logic, RegisterAdd, NoOperation}
use Rattle.isa.specs.declared.instruction.User.TheVariants.{Shift, SetArgument, AddArgument, Bit, LoadByte}
use Rattle.isa.specs.declared.instruction.User.TheVariants.{StoreByte, Mix3, Multiply, Divide}
use Rattle.arithmetic.specs.Results.{division_of}
use Rattle.arithmetic.specs.declared.quotient.Division.{Division}
use Rattle.exec_register.specs.Completion.{in_registers, register_completion, failing}

-- ---- RDIV

pub division_fails_law : (f : File) (d : ℕ) → division_of (double_of f) d ≡ None → divided f d ≡ failing f
unfolding divided division_of
division_fails_law f d = go _ _ (division_fails (double_of f) d)
  where
    go : (q : Division) (x : Completed) (b : Bool)
        → cond {A = Option Division} b None (Some q) ≡ None → cond b (failing f) x ≡ failing f
    go q x true h = refl
    go q x false h = absurd (let z : ◌≡◌ {A = ℕ} 0 1 = cc in omega arith)

pub division_gives :
    (f : File) (d : ℕ) (q : Division) → division_of (double_of f) d ≡ Some q
    → divided f d ≡ loads (with_reg (with_reg f A q.quotient) D q.remainder)
unfolding divided division_of
division_gives f d q = go _ (division_fails (double_of f) d)
  where
    go :
        (p : Division) (b : Bool)
        → cond {A = Option Division} b None (Some p) ≡ Some q
        → cond b (failing f) (loads (with_reg (with_reg f A p.quotient) D p.remainder))
        ≡ loads (with_reg (with_reg f A q.quotient) D q.remainder)
    go p true h = absurd (let z : ◌≡◌ {A = ℕ} 0 1 = cc in omega arith)
    go p false h = let e : p ≡ q = cc in simp e

-- ---- the machine's definition

-- The instructions that work on the registers alone, with P one further and the instruction's own address, are those of
-- the definition.
pub register_completion_law :
    (u : User) (f : File) (i : ℕ) (ws : List ℕ) → Dec.T (in_registers u)
    → register_completion u (next f) (reg f P) ≡ complete u f i ws
register_completion_law (Memory o m d) f i ws h = absurd h
register_completion_law (Jump c d) f i ws h = refl
register_completion_law (Skip r s d) f i ws h = refl
register_completion_law (Logic o cld cm1 s d) f i ws h = refl
register_completion_law (RegisterAdd NoCarry cld cm1 s d) f i ws h = refl
register_completion_law (RegisterAdd One cld cm1 s d) f i ws h = refl
register_completion_law (RegisterAdd Previous cld cm1 s d) f i ws h = refl
register_completion_law NoOperation f i ws h = refl
register_completion_law (Shift t k n) f i ws h = refl
register_completion_law (SetArgument r n) f i ws h = refl
register_completion_law (AddArgument ArgumentB n) f i ws h = refl
register_completion_law (AddArgument ArgumentA n) f i ws h = refl
register_completion_law (AddArgument ArgumentT n) f i ws h = refl
register_completion_law (AddArgument ArgumentX n) f i ws h = refl
register_completion_law (Bit o n r) f i ws h = refl
register_completion_law LoadByte f i ws h = absurd h
register_completion_law StoreByte f i ws h = absurd h
register_completion_law Mix3 f i ws h = refl
register_completion_law (Multiply s d) f i ws h = refl
register_completion_law (Divide s) f i ws h = refl
