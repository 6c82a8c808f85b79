-- What an instruction asks for at its effective address, and what it makes of the words.
use Rattle.std.specs.Prelude.{ℕ, true, false, cond, List, [], ◌∷◌, ◌==◌, bit_and, bit_or, slice_index}
use Rattle.isa.specs.Machine.{reg, with_reg}
use Rattle.isa.specs.Flags.{adder, complement}
use Rattle.isa.specs.Instructions.{Completed, loads, storing, takes, multiplied, incremented, memory_completion}
use Rattle.isa.specs.Instructions.{loaded_byte, stored_byte}
use Rattle.isa.specs.declared.machine.File.{File}
use Rattle.isa.specs.declared.machine.Register.TheVariants.{D, P, L, A, T, X}
use Rattle.isa.specs.declared.instruction.MemoryOp.{MemoryOp}
use Rattle.isa.specs.declared.instruction.MemoryOp.TheVariants.{Stz, Sta, Stt, Stx, Std, Ldd, Stf, Ldf, Min, Lda}
use Rattle.isa.specs.declared.instruction.MemoryOp.TheVariants.{Ldt, Ldx, Add, Sub, And, Ora, Mpy, Jmp, Jpl}
use Rattle.exec_address.specs.declared.request.Request.{Request}
use Rattle.exec_address.specs.declared.request.Request.TheVariants.{Jump, Link, Read, Write, Several, Update}
use Rattle.exec_address.specs.declared.request.Change.{Change}
use Rattle.exec_address.specs.declared.request.Change.TheVariants.{Increment, PutByte}
use Rattle.exec_address.specs.declared.request.Reading.{Reading}
use Rattle.exec_address.specs.declared.request.Reading.TheVariants as readings

-- a memory operation in the file g
abbrev pub request_of : MemoryOp → File → Request
request_of Stz g = Write 0
request_of Sta g = Write (reg g A)
request_of Stt g = Write (reg g T)
request_of Stx g = Write (reg g X)
request_of Std g = Several true 2
request_of Ldd g = Several false 2
request_of Stf g = Several true 3
request_of Ldf g = Several false 3
request_of Min g = Update Increment
request_of Lda g = Read readings.LoadA
request_of Ldt g = Read readings.LoadT
request_of Ldx g = Read readings.LoadX
request_of Add g = Read readings.Add
request_of Sub g = Read readings.Subtract
request_of And g = Read readings.And
request_of Ora g = Read readings.Or
request_of Mpy g = Read readings.Multiply
request_of Jmp g = Jump
request_of Jpl g = Link

-- A takes the byte of the word w
abbrev pub byte_loaded : File → ℕ → File
byte_loaded g w = with_reg g A (loaded_byte g w)

-- what is made of the word w
abbrev pub loaded_by : Reading → File → ℕ → File
loaded_by readings.LoadA g w = with_reg g A w
loaded_by readings.LoadT g w = with_reg g T w
loaded_by readings.LoadX g w = with_reg g X w
loaded_by readings.Add g w = takes g A (adder (reg g A) w 0)
loaded_by readings.Subtract g w = takes g A (adder (reg g A) (complement w) 1)
loaded_by readings.And g w = with_reg g A (bit_and (reg g A) w)
loaded_by readings.Or g w = with_reg g A (bit_or (reg g A) w)
loaded_by readings.Multiply g w = multiplied g w
loaded_by readings.Byte g w = byte_loaded g w

-- what becomes of the file g, and the word written for the word w
abbrev pub change_of : Change → File → ℕ → Completed
change_of Increment g w = incremented g w
change_of PutByte g w = storing g (stored_byte g w ∷ [])

-- LDD by two words, LDF by three
abbrev pub words_loaded : ℕ → File → List ℕ → File
words_loaded n g ws = cond (n == 2) (memory_completion Ldd g 0 ws).file (memory_completion Ldf g 0 ws).file

-- STD's two words, or STF's three; and two followed by 0
abbrev pub words_stored : ℕ → File → List ℕ
words_stored n g = cond (n == 2) (reg g A ∷ reg g D ∷ []) (reg g T ∷ reg g A ∷ reg g D ∷ [])

abbrev pub three_stored : ℕ → File → List ℕ
three_stored n g = cond (n == 2) (reg g A ∷ reg g D ∷ 0 ∷ []) (reg g T ∷ reg g A ∷ reg g D ∷ [])

-- what a request makes of the file g and the words read, at the address a
abbrev pub completion_of : Request → File → ℕ → List ℕ → Completed
completion_of Jump g a ws = loads (with_reg g P a)
completion_of Link g a ws = loads (with_reg (with_reg g L (reg g P)) P a)
completion_of (Read k) g a ws = loads (loaded_by k g (slice_index ws 0))
completion_of (Write w) g a ws = storing g (w ∷ [])
completion_of (Several store n) g a ws = cond store (storing g (words_stored n g)) (loads (words_loaded n g ws))
completion_of (Update k) g a ws = change_of k g (slice_index ws 0)
