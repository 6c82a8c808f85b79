-- Document 01, "The machine that is built".
--
-- Here and in all modules, only so that definitions are total: a place past a list's end reads 0 (`slice_index l i`)
-- and is not written (`slice_set`, `paste`), and `a - b` is 0 where b is above a. By a state's type and range and the
-- sizes of lent words every place that the definitions name is there, and words are below 65,536. A cut to so many bits
-- (`%`) that the documents do not have is explained where it stands.
use Rattle.std.specs.Prelude.{◌≡◌, ℕ, zero, suc, ◌+◌, ◌*◌, ◌/◌, ◌%◌, ◌^◌, ◌<◌, Bool, true, cond, ◌&&◌, List, [], ◌∷◌, ◌++◌, length, take, drop, ◌==◌, nat_le, nat_lt, slice_index, slice_set}
use Rattle.std.proofs.Math.Seq.{paste}
use Rattle.isa.specs.declared.machine.Register.{Register}
use Rattle.isa.specs.declared.machine.Register.TheVariants.{Sts, D, P, B, L, A, T, X}
use Rattle.isa.specs.declared.machine.File.{File}
use Rattle.isa.specs.declared.machine.Scalars.{Scalars}
use Rattle.isa.specs.declared.machine.Added.{Added}
use Rattle.isa.specs.declared.machine.Control.{Control}
use Rattle.isa.specs.declared.machine.Core.{Core}
use Rattle.isa.specs.declared.machine.State.{State}
use Rattle.isa.specs.Devices.{device_count, device_words, devices_of, devices_in_range}

-- ---- numbers with names

-- a word has 16 bits: it is below this
abbrev pub word_range : ℕ
word_range = 65536

-- the word of sixteen ones
abbrev pub all_ones : ℕ
all_ones = 0o177777

-- "Sixteen levels, each with eight registers of 16 bits": levels, registers of a level, and of all levels together
abbrev pub level_count : ℕ
level_count = 16

abbrev pub file_size : ℕ
file_size = 8

abbrev pub register_words : ℕ
register_words = 128

-- "In a file STS is 0 to 255"
abbrev pub status_range : ℕ
status_range = 256

-- "10 to 25 PCR of levels 0 to 15": the first PCR among the control words. Document 02 adds words behind the PCRs; its
-- card 3: "Whether it is held is control word 26"; its card 4: "the extended flag (control word 27 ..)". The first of
-- these, how many they are, and all control words: 28
abbrev pub first_pcr : ℕ
first_pcr = 10

abbrev pub first_added : ℕ
first_added = 26

abbrev pub added_count : ℕ
added_count = 2

abbrev pub control_count : ℕ
control_count = first_added + added_count

-- registers, control words and devices' words together: a state's words, and the first device's among them
abbrev pub first_device : ℕ
first_device = register_words + control_count

abbrev pub state_words : ℕ
state_words = first_device + device_count

-- "Lent memory: words in pages of 1,024, at least one page"; document 02, card 4: "Memory may be up to 16,777,216 words
-- and the lent tables are always 512."
abbrev pub page_words : ℕ
page_words = 1024

abbrev pub largest_memory : ℕ
largest_memory = 16777216

abbrev pub table_words : ℕ
table_words = 512

-- "four tables of 64 entries": entries of a table, and of all
abbrev pub entries_in_table : ℕ
entries_in_table = 64

abbrev pub slot_count : ℕ
slot_count = 256

-- the internal interrupts: "MON gives interrupt 1"; "the needed permit missing .. interrupt 2"; "all three permits 0,
-- interrupt 3"; "Other codes are illegal (interrupt 4)"; RDIV "gives interrupt 5"; "Privileged codes need ring 2 or 3
-- after that, else interrupt 6"; "interrupt 7 stays for all other addresses"; "page beyond the memory, interrupt 9"
abbrev pub interrupt_mon : ℕ
interrupt_mon = 1

abbrev pub interrupt_protection : ℕ
interrupt_protection = 2

abbrev pub interrupt_page_fault : ℕ
interrupt_page_fault = 3

abbrev pub interrupt_illegal : ℕ
interrupt_illegal = 4

abbrev pub interrupt_error : ℕ
interrupt_error = 5

abbrev pub interrupt_privileged : ℕ
interrupt_privileged = 6

abbrev pub interrupt_iox : ℕ
interrupt_iox = 7

abbrev pub interrupt_out_of_range : ℕ
interrupt_out_of_range = 9

-- the level of internal interrupts: "PID bit 14 too", "T of level 14"
abbrev pub internal_level : ℕ
internal_level = 14

-- ---- bits, registers, control words

-- "Bit 0 is the lowest": bit n of a word, and the word with bit n set to v, which is 0 or 1.
abbrev pub bit : ℕ → ℕ → ℕ
bit n w = w / 2 ^ n % 2

abbrev pub with_bit : ℕ → ℕ → ℕ → ℕ
with_bit n v w = w / 2 ^ suc n * 2 ^ suc n + v * 2 ^ n + w % 2 ^ n

-- a test as a bit
abbrev pub flag_of : Bool → ℕ
flag_of b = cond b 1 0

-- "each with eight registers of 16 bits numbered STS 0, D 1, P 2, B 3, L 4, A 5, T 6, X 7"
abbrev pub number : Register → ℕ
number Sts = 0
number D = 1
number P = 2
number B = 3
number L = 4
number A = 5
number T = 6
number X = 7

-- "A level's registers are one file, and a write changes one place of it."
abbrev pub reg : File → Register → ℕ
reg f Sts = f.sts
reg f D = f.d
reg f P = f.p
reg f B = f.b
reg f L = f.l
reg f A = f.a
reg f T = f.t
reg f X = f.x

abbrev pub with_reg : File → Register → ℕ → File
with_reg f Sts v = record { sts = v; d = f.d; p = f.p; b = f.b; l = f.l; a = f.a; t = f.t; x = f.x }
with_reg f D v = record { sts = f.sts; d = v; p = f.p; b = f.b; l = f.l; a = f.a; t = f.t; x = f.x }
with_reg f P v = record { sts = f.sts; d = f.d; p = v; b = f.b; l = f.l; a = f.a; t = f.t; x = f.x }
with_reg f B v = record { sts = f.sts; d = f.d; p = f.p; b = v; l = f.l; a = f.a; t = f.t; x = f.x }
with_reg f L v = record { sts = f.sts; d = f.d; p = f.p; b = f.b; l = v; a = f.a; t = f.t; x = f.x }
with_reg f A v = record { sts = f.sts; d = f.d; p = f.p; b = f.b; l = f.l; a = v; t = f.t; x = f.x }
with_reg f T v = record { sts = f.sts; d = f.d; p = f.p; b = f.b; l = f.l; a = f.a; t = v; x = f.x }
with_reg f X v = record { sts = f.sts; d = f.d; p = f.p; b = f.b; l = f.l; a = f.a; t = f.t; x = v }

-- the file whose registers are those that g gives, and a file's words in the order of their numbers
abbrev pub file_by : (Register → ℕ) → File
file_by g = record { sts = g Sts; d = g D; p = g P; b = g B; l = g L; a = g A; t = g T; x = g X }

abbrev pub file_words : File → List ℕ
file_words f = f.sts ∷ f.d ∷ f.p ∷ f.b ∷ f.l ∷ f.a ∷ f.t ∷ f.x ∷ []

-- "STS holds eight flags: PTM bit 0, TG 1, K 2, Z 3, Q 4, O 5, C 6, M 7."
abbrev pub flag_ptm : ℕ
flag_ptm = 0

abbrev pub flag_k : ℕ
flag_k = 2

abbrev pub flag_z : ℕ
flag_z = 3

abbrev pub flag_q : ℕ
flag_q = 4

abbrev pub flag_o : ℕ
flag_o = 5

abbrev pub flag_c : ℕ
flag_c = 6

abbrev pub flag_m : ℕ
flag_m = 7

-- a flag of a file by its number, and the file with that flag set to v
abbrev pub flag : ℕ → File → ℕ
flag n f = bit n (reg f Sts)

abbrev pub with_flag : ℕ → ℕ → File → File
with_flag n v f = with_reg f Sts (with_bit n v (reg f Sts))

-- the file with P one further; a sum drops the carry out of bit 15
abbrev pub next : File → File
next f = with_reg f P ((reg f P + 1) % word_range)

-- "Sixteen levels": a level's file among all registers, and all registers with it replaced.
-- `paste b i ws 8` is b with its words i to i + 7 replaced by those of ws. A level below 16 has all its words in b.
unfoldable pub file_at : List ℕ → ℕ → File
file_at b l = file_by (λ r. slice_index b (l * file_size + number r))

unfoldable pub put_file : List ℕ → ℕ → File → List ℕ
put_file b l f = paste b (l * file_size) (file_words f) file_size

-- The control words that instructions work on, 1 to 9 and those behind the PCRs, with the devices' words: of a state,
-- and back into its parts.
abbrev pub control_of : State → Control
control_of s = record {
  interrupts = s.control.interrupts;
  held = s.added.held;
  paging = s.control.paging;
  stopped = s.control.stopped;
  pid = s.control.pid;
  pie = s.control.pie;
  pvl = s.control.pvl;
  iid = s.control.iid;
  iie = s.control.iie;
  pgs = s.control.pgs;
  extended = s.added.extended;
  devices = s.devices;
}

abbrev pub scalars_of : Control → Scalars
scalars_of k = record {
  interrupts = k.interrupts;
  paging = k.paging;
  stopped = k.stopped;
  pid = k.pid;
  pie = k.pie;
  pvl = k.pvl;
  iid = k.iid;
  iie = k.iie;
  pgs = k.pgs;
}

abbrev pub added_of : Control → Added
added_of k = record { held = k.held; extended = k.extended }

-- "Control words, in image order: 0 level, 1 interrupts on, 2 paging on, 3 stopped .. 4 PID (pending levels), 5 PIE
-- (enabled levels), 6 PVL (previous level), 7 IID (internal interrupts detected), 8 IIE (enabled), 9 PGS (paging
-- status), 10 to 25 PCR of levels 0 to 15."; behind them those that document 02 adds: 26, whether PGS is held, and 27,
-- the extended flag
abbrev pub scalar_words : ℕ → Control → List ℕ
scalar_words l k =
    l
    ∷ k.interrupts
    ∷ k.paging
    ∷ k.stopped
    ∷ k.pid
    ∷ k.pie
    ∷ k.pvl
    ∷ k.iid
    ∷ k.iie
    ∷ k.pgs
    ∷ []

abbrev pub added_words : Control → List ℕ
added_words k = k.held ∷ k.extended ∷ []

abbrev pub control_words : State → List ℕ
control_words s = scalar_words s.level (control_of s) ++ (s.pcr ++ added_words (control_of s))

-- the state of 128 registers, 28 control words and 12 devices' words in image order; a list of 28 has each that is
-- taken
abbrev pub state_of : List ℕ → List ℕ → List ℕ → State
state_of rs cs ds = record {
  regs = rs;
  level = slice_index cs 0;
  control = record {
    interrupts = slice_index cs 1;
    paging = slice_index cs 2;
    stopped = slice_index cs 3;
    pid = slice_index cs 4;
    pie = slice_index cs 5;
    pvl = slice_index cs 6;
    iid = slice_index cs 7;
    iie = slice_index cs 8;
    pgs = slice_index cs 9;
  };
  pcr = take level_count (drop first_pcr cs);
  added = record { held = slice_index cs first_added; extended = slice_index cs (first_added + 1) };
  devices = devices_of ds;
}

-- a state's words in a row (ruling 40: kinds 2, 3 and 5), and the state of such a row
abbrev pub state_ordered : State → List ℕ
state_ordered s = s.regs ++ (control_words s ++ device_words s.devices)

abbrev pub state_in : List ℕ → State
state_in w = state_of (take register_words w) (take control_count (drop register_words w)) (drop first_device w)

-- "In a file STS is 0 to 255": of the levels below l
abbrev pub flags_fit : ℕ → List ℕ → Bool
flags_fit zero b = true
flags_fit (suc l) b = nat_lt (slice_index b (l * file_size)) status_range && flags_fit l b

-- "IID and IIE use bits 1 to 10"
abbrev pub interrupt_bits : ℕ → Bool
interrupt_bits w = w % 2 == 0 && nat_lt w 2048

-- "PCR uses bits 0-1 (ring), 7-8 (alternate table), 9-10 (normal table)"
abbrev pub pcr_bits : ℕ → Bool
pcr_bits w = w / 4 % 32 == 0 && nat_lt w 2048

abbrev pub all_pcr_bits : List ℕ → Bool
all_pcr_bits [] = true
all_pcr_bits (w ∷ ws) = pcr_bits w && all_pcr_bits ws

-- "PGS uses bits 15, 14 and 7-0"
abbrev pub pgs_bits : ℕ → Bool
pgs_bits w = w / 256 % 64 == 0

-- .. and document 02, card 3: whether it is held "is control word 26 (0 or 1)"; ruling 43: whatever PGS is
abbrev pub status_in_range : Control → Bool
status_in_range c = pgs_bits c.pgs && nat_lt c.held 2

-- the control words but level and PCRs in range: "1 to 3 are 0 or 1", "Level and PVL are 0 to 15"; "bits not used are
-- 0"; document 02, card 4, ruling R10: control word 27 is 0 or 1; card 1: the devices' words
abbrev pub control_in_range : Control → Bool
control_in_range c =
    nat_lt c.interrupts 2 && nat_lt c.paging 2 && nat_lt c.stopped 2 && nat_lt c.pvl level_count
    && interrupt_bits c.iid
    && interrupt_bits c.iie
    && status_in_range c
    && nat_lt c.extended 2
    && devices_in_range c.devices

-- a state in "the ranges above"; ruling 29: every value of PID, PIE, page tables, memory and registers other than STS
-- is in range
unfoldable pub in_range : State → Bool
in_range s =
    nat_lt s.level level_count && control_in_range (control_of s) && all_pcr_bits s.pcr && flags_fit level_count s.regs

-- "bits not used are 0, and TRR drops them": what is left of a word for IIE, and for a PCR
abbrev pub interrupt_mask : ℕ → ℕ
interrupt_mask w = w / 2 % 1024 * 2

abbrev pub pcr_mask : ℕ → ℕ
pcr_mask w = w / 128 % 16 * 128 + w % 4

-- "bits 0-1 (ring), 7-8 (alternate table), 9-10 (normal table)" of a PCR
abbrev pub ring_of : ℕ → ℕ
ring_of p = p % 4

abbrev pub alternate_table_of : ℕ → ℕ
alternate_table_of p = p / 128 % 4

abbrev pub normal_table_of : ℕ → ℕ
normal_table_of p = p / 512 % 4

-- "at least one page"; document 02, card 4: "up to 16,777,216 words and the lent tables are always 512"
abbrev pub memory_size : ℕ → Bool
memory_size n = n % page_words == 0 && nat_le page_words n && nat_le n largest_memory

unfoldable pub sizes_fit : List ℕ → List ℕ → Bool
sizes_fit m t = memory_size (length m) && length t == table_words

-- each number of a list is a word; past its end `slice_index` gives 0, which is one
abbrev pub Words : List ℕ → Type 0
Words l = (i : ℕ) → slice_index l i < word_range

-- what the types say of a state: so many registers and PCRs, and each number a word
pub record Typed (s : State) : Type 0 where
  pub regs_length : length s.regs ≡ register_words
  pub pcr_length : length s.pcr ≡ level_count
  pub regs_words : Words s.regs
  pub control_words_law : Words (control_words s)
  pub device_words_law : Words (device_words s.devices)

-- A state of its parts: the level l, the control words k 1 to 9, 26 and 27 with the devices' words, the registers b and
-- the PCRs p of all levels.
abbrev pub state_with : ℕ → Control → List ℕ → List ℕ → State
state_with l k b p = record {
  regs = b;
  level = l;
  control = scalars_of k;
  pcr = p;
  added = added_of k;
  devices = k.devices;
}

-- the state s with other control words and devices
abbrev pub with_control_words : State → Control → State
with_control_words s k = state_with s.level k s.regs s.pcr

-- The parts that the engine keeps apart: what the running level works on (a level below 16 has its PCR) ..
abbrev pub core_of : State → Core
core_of s = record { file = file_at s.regs s.level; pcr = slice_index s.pcr s.level; control = control_of s }

-- .. and their one packing: the state at level l whose running level's words are c, and whose other words are those of
-- b (registers) and p (PCRs)
abbrev pub pack : ℕ → Core → List ℕ → List ℕ → State
pack l c b p = state_with l c.control (put_file b l c.file) (slice_set p l c.pcr)

abbrev pub with_core : State → Core → State
with_core s c = pack s.level c s.regs s.pcr

abbrev pub with_file : Core → File → Core
with_file c f = record { file = f; pcr = c.pcr; control = c.control }

abbrev pub with_pcr : Core → ℕ → Core
with_pcr c p = record { file = c.file; pcr = p; control = c.control }

abbrev pub with_control : Core → Control → Core
with_control c k = record { file = c.file; pcr = c.pcr; control = k }

-- the running level's core with P one further
abbrev pub next_core : Core → Core
next_core c = with_file c (next c.file)
