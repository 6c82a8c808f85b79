-- Document 01, "A whole run": the text that `turn` prints, in ASCII.
use Rattle.std.specs.Prelude.{Ok, Err, ℕ, zero, suc, ◌+◌, ◌/◌, ◌%◌, cond, List, [], ◌∷◌, ◌++◌, ltb}
use Prim.Native.Char.{code}
use Prim.Native.String.{String, [] as []ˢ, ◌∷◌ as ◌∷ˢ◌}
use Rattle.isa.specs.Machine.{reg}
use Rattle.isa.specs.Answers.{refusal_number}
use Rattle.isa.specs.declared.machine.File.{File}
use Rattle.isa.specs.declared.machine.Register.TheVariants.{Sts, D, P, B, L, A, T, X}
use Rattle.isa.specs.declared.answer.Reason.{Reason}
use Rattle.isa.specs.declared.answer.Reason.TheVariants.{Stopped, Level, Spent, Interrupt}
use Rattle.turn_text.specs.declared.End.{End}
use Rattle.turn_text.specs.Turn.{Turned}

abbrev pub ascii : String → List ℕ
ascii []ˢ = []
ascii (c ∷ˢ s) = code c ∷ ascii s

-- the digit "0" is 48
abbrev pub digit : ℕ → ℕ
digit d = 48 + d

-- a number's decimal digits, k at most, in front of those after them
abbrev pub decimal_before : ℕ → ℕ → List ℕ → List ℕ
decimal_before zero n after = after
decimal_before (suc k) n after =
    let more = digit (n % 10) ∷ after in
    cond (ltb n 10) more (decimal_before k (n / 10) more)

-- "in decimal"; a number of 64 bits has 20 digits at most
unfoldable pub decimal : ℕ → List ℕ
decimal n = decimal_before 20 n []

-- "in octal", six digits
abbrev pub octal : ℕ → List ℕ
octal w =
    digit (w / 32768) ∷ digit (w / 4096 % 8) ∷ digit (w / 512 % 8) ∷ digit (w / 64 % 8) ∷ digit (w / 8 % 8)
    ∷ digit (w % 8) ∷ []

unfoldable pub line : List ℕ → List ℕ → List ℕ
line name value = name ++ ascii " " ++ value ++ ascii "\n"

abbrev pub reason_name : Reason → List ℕ
reason_name Stopped = ascii "stopped"
reason_name Level = ascii "level"
reason_name Spent = ascii "spent"
reason_name Interrupt = ascii "interrupt"

-- a line for each register with a name of one letter: the names and the words in turn
abbrev pub register_lines : List ℕ → List ℕ → List ℕ
register_lines [] words = []
register_lines (n ∷ names) [] = []
register_lines (n ∷ names) (w ∷ words) = line (n ∷ []) (octal w) ++ register_lines names words

abbrev pub one_letter : File → List ℕ
one_letter f = reg f D ∷ reg f P ∷ reg f B ∷ reg f L ∷ reg f A ∷ reg f T ∷ reg f X ∷ []

-- "prints reason (`stopped` or `spent`), steps and level in decimal, then the running level's registers in octal"
abbrev pub end_text : End → List ℕ
end_text e =
    line (ascii "ended") (reason_name e.reason) ++ line (ascii "steps") (decimal e.steps)
    ++ line (ascii "level") (decimal e.level)
    ++ line (ascii "STS") (octal (reg e.file Sts))
    ++ register_lines (ascii "DPBLATX") (one_letter e.file)

-- "or `refused N`"
abbrev pub text_of : Turned → List ℕ
text_of (Err r) = line (ascii "refused") (decimal (refusal_number r))
text_of (Ok e) = end_text e
