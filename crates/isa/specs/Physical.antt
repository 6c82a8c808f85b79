-- Document 02, card 4: "the seven instructions that reach physical memory by T and X", LDATX to STDTX.
use Rattle.std.specs.Prelude.{ℕ, ◌+◌, ◌*◌, ◌%◌, Bool, true, false, cond, ◌&&◌, List, [], ◌∷◌, bit_or, nat_le, nat_lt}
use Rattle.std.specs.declared.result.Result.{Result}
use Rattle.std.specs.declared.result.Result.TheVariants.{Ok}
use Rattle.isa.specs.Machine.{word_range, reg, with_reg}
use Rattle.isa.specs.Pages.{window_start, window_words, in_tables, within_memory, Tested, none_tested, tested_first}
use Rattle.isa.specs.declared.access.AccessKind.{AccessKind}
use Rattle.isa.specs.declared.access.AccessKind.TheVariants.{Read, Write}
use Rattle.isa.specs.declared.access.Place.{Place}
use Rattle.isa.specs.declared.access.Fault.{Fault}
use Rattle.isa.specs.declared.access.Triple.{Triple}
use Rattle.isa.specs.declared.instruction.Transfer.{Transfer}
use Rattle.isa.specs.declared.instruction.Transfer.TheVariants.{Ldatx, Ldxtx, Lddtx, Ldbtx, Statx, Stztx, Stdtx}
use Rattle.isa.specs.declared.machine.File.{File}
use Rattle.isa.specs.declared.machine.Register.TheVariants.{D, B, A, T, X}

-- ---- where the words are

-- "The seven go by physical address, no carry dropped": by T, X and the displacement d; ruling R2: all 16 bits of T
abbrev pub transfer_address : File → ℕ → ℕ
transfer_address f d = reg f T * word_range + reg f X + d

-- "paging on or off, page tables included where the mode has them; past the memory they give 9": of the physical
-- address p, with so many words of memory. Ruling R3: on every ring, with no entry looked up.
unfoldable pub physical_place : Bool → ℕ → AccessKind → ℕ → Result Place Fault
physical_place form words k p =
    cond (nat_le (window_start form) p && nat_lt p word_range) (Ok (in_tables k (p % window_words form)))
    (within_memory words k p)

-- ---- ruling R1's table

-- what each does: whether it loads or stores; whether it has two words
abbrev pub transfer_kind : Transfer → AccessKind
transfer_kind Ldatx = Read
transfer_kind Ldxtx = Read
transfer_kind Lddtx = Read
transfer_kind Ldbtx = Read
transfer_kind Statx = Write
transfer_kind Stztx = Write
transfer_kind Stdtx = Write

abbrev pub two_words : Transfer → Bool
two_words Ldatx = false
two_words Ldxtx = false
two_words Lddtx = true
two_words Ldbtx = false
two_words Statx = false
two_words Stztx = false
two_words Stdtx = true

-- the words to store, first and second; of a load nothing is stored
abbrev pub triple : ℕ → ℕ → Triple
triple w v = record { a = w; b = v; c = 0 }

abbrev pub transfer_stores : Transfer → File → Triple
transfer_stores Ldatx f = triple 0 0
transfer_stores Ldxtx f = triple 0 0
transfer_stores Lddtx f = triple 0 0
transfer_stores Ldbtx f = triple 0 0
transfer_stores Statx f = triple (reg f A) 0
transfer_stores Stztx f = triple 0 0
transfer_stores Stdtx f = triple (reg f A) (reg f D)

-- the registers afterwards; w is the word at p, v the word at p + 1 where there are two. LDBTX: "177000 OR (2w mod
-- 65,536)".
abbrev pub transferred : Transfer → File → ℕ → ℕ → File
transferred Ldatx f w v = with_reg f A w
transferred Ldxtx f w v = with_reg f X w
transferred Lddtx f w v = with_reg (with_reg f A w) D v
transferred Ldbtx f w v = with_reg f B (bit_or 0o177000 (w * 2 % word_range))
transferred Statx f w v = f
transferred Stztx f w v = f
transferred Stdtx f w v = f

-- ---- the accesses of an instruction

-- "p, then p + 1" (ruling R4), if there are two words; "1, LDDTX and STDTX 2" (ruling 7.3)
abbrev pub word_addresses : Transfer → ℕ → List ℕ
word_addresses o p = p ∷ cond (two_words o) ((p + 1) ∷ []) []

-- one by one, up to and with the first that fails; they mark nothing
abbrev pub test_physical : List ℕ → Bool → ℕ → AccessKind → List ℕ → Tested
test_physical t form words k [] = none_tested t
test_physical t form words k (p ∷ ps) =
    tested_first t (physical_place form words k p) (test_physical t form words k ps)
