-- Document 01, "Twelve cases shown with the definitions": one table, one theorem. Each row is what one step leaves, and
-- what the document says that it leaves.
use Rattle.std.specs.Prelude.{◌≡◌, ℕ, List, [], ◌∷◌, ◌++◌, replicate, slice_index, refl}
use Rattle.isa.specs.Machine.{table_words, file_at, put_file, state_with}
use Rattle.isa.specs.Devices.{cleared_devices}
use Rattle.isa.specs.Flags.{adder, with_overflow, with_sum, product_overflow, division_fails, left_once, right_once}
use Rattle.isa.specs.Decode.{by_code, by_number, decode, tra_of, trr_of, masked_of, switch_of, transfer_of, srb_of}
use Rattle.isa.specs.Decode.{lrb_of, shift_of}
use Rattle.isa.specs.Address.{first_address}
use Rattle.isa.specs.Instructions.{divided}
use Rattle.isa.specs.Pages.{within_memory, judged, in_window, translate, marked, lowered}
use Rattle.isa.specs.Physical.{physical_place}
use Rattle.isa.specs.Step.{Turn, step, interrupted, faulted, finished, operands_tested, operands, indirect_tested}
use Rattle.isa.specs.Step.{user_stage, examined, deposited, transfer_stage, instruction_stage, fetched, step_in}
use Rattle.isa.specs.Step.{put_other, block_stored, block_loaded, far_stage, settled, change_due, level_changed}
use Rattle.isa.specs.declared.machine.Control.{Control}
use Rattle.isa.specs.declared.machine.State.{State}

-- ---- the starts

-- control words that are 0, but for the paging switch
abbrev pub quiet : ℕ → Control
quiet paging = record {
  interrupts = 0;
  paging = paging;
  stopped = 0;
  pid = 0;
  pie = 0;
  pvl = 0;
  iid = 0;
  iie = 0;
  pgs = 0;
  held = 0;
  extended = 0;
  devices = cleared_devices;
}

-- a machine on level 0, P 0, with the registers D, B, A and T and the paging switch and PCR of the level
abbrev pub start : ℕ → ℕ → ℕ → ℕ → ℕ → ℕ → State
start d b a t paging pcr =
    state_with 0 (quiet paging) (0 ∷ d ∷ 0 ∷ b ∷ 0 ∷ a ∷ t ∷ 0 ∷ replicate 120 0) (pcr ∷ replicate 15 0)

-- a page of memory that begins with these two words
abbrev pub memory_of : ℕ → ℕ → List ℕ
memory_of w v = w ∷ v ∷ replicate 1022 0

-- page tables whose first two entries are these
abbrev pub tables_of : ℕ → ℕ → List ℕ
tables_of e f = e ∷ f ∷ replicate 510 0

-- one step with paging off: the word w at address 0, v at address 1
abbrev pub bare : ℕ → ℕ → ℕ → ℕ → ℕ → ℕ → Turn
bare d b a t w v = step (start d b a t 0 0) (memory_of w v) (replicate table_words 0)

-- one step on ring 1 with paging on, by the first two entries e and f of table 0
abbrev pub paged : ℕ → ℕ → ℕ → ℕ → Turn
paged w v e f = step (start 0 0 0 0 1 1) (memory_of w v) (tables_of e f)

-- ---- what is looked at: register n of level 0; STS and A; the interrupt, PGS and the first two entries

abbrev pub register : ℕ → Turn → ℕ
register n r = slice_index r.state.regs n

abbrev pub flags_and_a : Turn → List ℕ
flags_and_a r = register 0 r ∷ register 5 r ∷ []

abbrev pub fault_seen : Turn → List ℕ
fault_seen r = r.gave ∷ r.state.control.pgs ∷ slice_index r.tables 0 ∷ slice_index r.tables 1 ∷ []

-- ---- the table: O is 000040 of STS, Q 000020, C 000100, M 000200, Z 000010

unfoldable pub cases : List (List ℕ × List ℕ)
cases =
    -- 044376 at 000100: ea 000076. The word there is 001234.
    (
      flags_and_a
          (step
          (state_with 0 (quiet 0) (0 ∷ 0 ∷ 0o100 ∷ replicate 125 0) (replicate 16 0))
          (replicate 0o76 0 ++ (0o001234 ∷ 0 ∷ 0o044376 ∷ replicate 959 0))
          (replicate table_words 0)),
      0 ∷ 0o001234 ∷ [],
    )
    -- B 177777, disp 1: ea 000000. LDA 1,B loads the word there, itself.
    ∷ (flags_and_a (bare 0 0o177777 0 0 0o044401 0), 0 ∷ 0o044401 ∷ [])
    -- ADD 077777 + 1: 100000, O Q.
    ∷ (flags_and_a (bare 0 0 0o077777 0 0o060001 1), 0o60 ∷ 0o100000 ∷ [])
    -- ADD 177777 + 1: 0, C.
    ∷ (flags_and_a (bare 0 0 0o177777 0 0o060001 1), 0o100 ∷ 0 ∷ [])
    -- MPY 100000 by 1: 100000, O Q.
    ∷ (flags_and_a (bare 0 0 0o100000 0 0o120001 1), 0o60 ∷ 0o100000 ∷ [])
    -- MPY 181 by 181: no O; 182 by 181: 100256, O Q.
    ∷ (
      flags_and_a (bare 0 0 181 0 0o120001 181) ++ flags_and_a (bare 0 0 182 0 0o120001 181),
      0 ∷ 32761 ∷ 0o60 ∷ 0o100256 ∷ [],
    )
    -- dr 077777, sr 177777: GRE skips, GEQ doesn't. dr is A, sr is D.
    ∷ (
      register 2 (bare 0o177777 0 0o077777 0 0o141015 0) ∷ register 2 (bare 0o177777 0 0o077777 0 0o140415 0) ∷ [],
      2 ∷ 1 ∷ [],
    )
    -- Arithmetic right shift by 1 of 100001: 140000, M.
    ∷ (flags_and_a (bare 0 0 0o100001 0 0o154477 0), 0o200 ∷ 0o140000 ∷ [])
    -- RDIV by 0: 5. The divisor is T; A and D stay, Z is set.
    ∷ (let r = bare 3 0 7 0 0o141660 0 in r.gave ∷ register 1 r ∷ flags_and_a r, 5 ∷ 3 ∷ 0o10 ∷ 7 ∷ [])
    -- Entry 000000: 3. The fetch fails: PGS bits 15 and 14, no mark.
    ∷ (fault_seen (paged 0 0 0 0), 3 ∷ 0o140000 ∷ 0 ∷ 0 ∷ [])
    -- Store by entry 040000: 2, PGS bit 14 set. STA 2000 (indirect, by the next word) in virtual page 1; only the
    -- fetch's page and the indirect word's are marked.
    ∷ (fault_seen (paged 0o005001 0o002000 0o060000 0o040000), 2 ∷ 0o040001 ∷ 0o064000 ∷ 0o040000 ∷ [])
    -- Ring 1 read by entry 163000: 2, bit 14 clear.
    ∷ (fault_seen (paged 0o045001 0o002000 0o060000 0o163000), 2 ∷ 1 ∷ 0o064000 ∷ 0o163000 ∷ [])
    ∷ []

-- the columns of a table: what the definitions give, and what is stated
abbrev pub given : {Value : Type 0} → List (Value × Value) → List Value
given [] = []
given (r ∷ rs) = r.0 ∷ given rs

abbrev pub stated : {Value : Type 0} → List (Value × Value) → List Value
stated [] = []
stated (r ∷ rs) = r.1 ∷ stated rs

pub all_hold : given cases ≡ stated cases
unfolding cases file_at put_file adder with_overflow with_sum product_overflow division_fails left_once right_once
    by_code by_number decode tra_of trr_of masked_of switch_of transfer_of srb_of lrb_of shift_of first_address divided
    within_memory judged in_window translate marked lowered physical_place step interrupted faulted finished
    operands_tested operands indirect_tested user_stage examined deposited transfer_stage instruction_stage fetched
    step_in put_other block_stored block_loaded far_stage settled change_due level_changed
all_hold = refl
