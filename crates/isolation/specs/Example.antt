-- A worked pair: a regulator on level 1, ring 1, beside a page that is not its own, in 19-bit mode and in extended
-- mode, without and with device input. docs/ISOLATION.md tells it in prose.
use Rattle.std.specs.Prelude.{ℕ, ◌+◌, ◌*◌, ◌≡◌, refl, Bool, true, false, cond, List, [], ◌∷◌, ◌++◌, get_or, replicate}
use Rattle.isa.specs.Machine.{flag_of, file_at, put_file, in_range, sizes_fit, state_with}
use Rattle.isa.specs.Devices.{device_words, devices_of}
use Rattle.isa.specs.System.{with_switches, with_pie, with_extended, with_devices}
use Rattle.isa.specs.Flags.{adder, with_overflow, with_sum, product_overflow, division_fails, left_once, right_once}
use Rattle.isa.specs.Decode.{by_code, by_number, decode, tra_of, trr_of, masked_of, switch_of, transfer_of, srb_of, lrb_of}
use Rattle.isa.specs.Decode.{shift_of}
use Rattle.isa.specs.Address.{first_address}
use Rattle.isa.specs.Instructions.{divided}
use Rattle.isa.specs.Pages.{within_memory, judged, in_window, translate, marked, lowered}
use Rattle.isa.specs.Step.{step, interrupted, faulted, finished, operands_tested, operands, indirect_tested, user_stage}
use Rattle.isa.specs.Step.{examined, deposited, instruction_stage, fetched, step_in, put_other, block_stored, block_loaded}
use Rattle.isa.specs.Step.{far_stage, settled, change_due, level_changed}
use Rattle.isa.specs.Answers.{RunCall, run_call, state_answer, steps_taken, references_made, run_values}
use Rattle.isa.specs.DeviceInput.{Given, InputRunCall, input_run_call}
use Rattle.isa.specs.Isolation.{in_either, reachable, writable}
use Rattle.isa.specs.Cases.{quiet, given, stated}
use Rattle.isa.specs.declared.machine.Control.{Control}
use Rattle.isa.specs.declared.machine.State.{State}
use Rattle.isa.specs.declared.device.DeviceInput.TheVariants.{Raise, Tick, Typed, ReadOut}

-- Physical page 0 holds four small programs. Each begins at its address with BSET ONE SSPTM, so that PTM is 1 whatever
-- it was, takes the word that B points to, adds one, gives it back, and then tries the foreign page, where X points:
-- 000: LDA ,X by the alternate table; 010: STA ,X by the alternate table; 020: the same after BSET ZRO SSPTM, so by the
-- normal table, LDA;
-- 030: by the normal table, STA.
abbrev pub programs : List ℕ
programs =
    0o174200 ∷ 0o044400 ∷ 0o172401 ∷ 0o004400 ∷ 0o046000 ∷ 0 ∷ 0 ∷ 0
    ∷ 0o174200 ∷ 0o044400 ∷ 0o172401 ∷ 0o004400 ∷ 0o006000 ∷ 0 ∷ 0 ∷ 0
    ∷ 0o174200 ∷ 0o044400 ∷ 0o172401 ∷ 0o004400 ∷ 0o174000 ∷ 0o046000 ∷ 0 ∷ 0
    ∷ 0o174200 ∷ 0o044400 ∷ 0o172401 ∷ 0o004400 ∷ 0o174000 ∷ 0o006000 ∷ 0 ∷ 0
    ∷ []

-- Physical page 1 holds the message, 000007; physical page 2 is foreign. The two memories differ there in two words.
abbrev pub own : List ℕ
own = programs ++ (replicate 992 0 ++ (0o000007 ∷ replicate 1023 0))

abbrev pub left : List ℕ
left = own ++ (0o111111 ∷ 0o000001 ∷ replicate 1022 0)

abbrev pub right : List ℕ
right = own ++ (0o022222 ∷ 0o000002 ∷ replicate 1022 0)

-- Normal table 0: virtual page 0 is the program's (fetch and read, ring 1), page 2 names physical page 2 for ring 3.
-- Alternate table 1: virtual page 1 is the message's (read and write, ring 1), page 2 names physical page 2 with no
-- permit at all. Both modes have the same entries, each in its form; in 19-bit mode the words from 256 on are 0.
abbrev pub entry : Bool → ℕ → ℕ → List ℕ
entry form permits page = cond form (permits ∷ page ∷ []) ((permits + page) ∷ [])

abbrev pub no_entries : Bool → ℕ → List ℕ
no_entries form n = replicate (cond form (n * 2) n) 0

abbrev pub tables : Bool → List ℕ
tables form =
    entry form 0o061000 0
    ++ (no_entries form 1
    ++ (entry form 0o163000 2
    ++ (no_entries form 62
    ++ (entry form 0o141000 1 ++ (entry form 0 2 ++ (no_entries form 189 ++ replicate (cond form 0 256) 0))))))

-- Level 1 with P as given, B at virtual page 1, X at virtual page 2; control words as given, in the mode given; PCR:
-- ring 1, alternate table 1, normal table 0.
abbrev pub pair_start : Bool → Control → ℕ → State
pair_start form k p =
    state_with 1 (with_extended k (flag_of form))
    (replicate 8 0 ++ (0 ∷ 0 ∷ p ∷ 0o002000 ∷ 0 ∷ 0 ∷ 0 ∷ 0o004000 ∷ replicate 112 0))
    (0 ∷ 0o201 ∷ replicate 14 0)

-- What is looked at after a run: steps taken, references made, A, P and STS of level 1, IID, PGS, the message, and the
-- two foreign words.
abbrev pub seen : RunCall → List ℕ
seen r =
    steps_taken r.answer
    ∷ references_made r.answer
    ∷ get_or r.state.regs 13 0
    ∷ get_or r.state.regs 10 0
    ∷ get_or r.state.regs 8 0
    ∷ r.state.control.iid
    ∷ r.state.control.pgs
    ∷ get_or r.memory 1024 0
    ∷ get_or r.memory 2048 0
    ∷ get_or r.memory 2049 0
    ∷ []

-- paging on, and else control words and devices that are 0
abbrev pub run : Bool → ℕ → List ℕ → RunCall
run form p m = run_call true 100 (pair_start form (quiet 1) p) m (tables form)

-- By the alternate table an entry without permits gives interrupt 3 (IID 000010), PGS 040000 + table 1, page 2; by the
-- normal table ring 3 gives interrupt 2 (IID 000004), PGS table 0, page 2. The message is 000010 in every run; the
-- foreign words are as they were. PGS names the slot, in either mode. References (document 02, card 7; rulings 7.1 and
-- 7.2): each step has its fetch; LDA and STA, none of them indirect, have one operand beside it, the last one's failing
-- access too. So BSET, LDA, AAA, STA and the last make 1 + 2 + 1 + 2 + 2, and the second BSET 1 more.
unfoldable pub pair : Bool → List (List ℕ × List ℕ)
pair form =
    (seen (run form 0o00 left), 5 ∷ 8 ∷ 8 ∷ 5 ∷ 1 ∷ 8 ∷ 0o040102 ∷ 8 ∷ 0o111111 ∷ 1 ∷ [])
    ∷ (seen (run form 0o00 right), 5 ∷ 8 ∷ 8 ∷ 5 ∷ 1 ∷ 8 ∷ 0o040102 ∷ 8 ∷ 0o022222 ∷ 2 ∷ [])
    ∷ (seen (run form 0o10 left), 5 ∷ 8 ∷ 8 ∷ 13 ∷ 1 ∷ 8 ∷ 0o040102 ∷ 8 ∷ 0o111111 ∷ 1 ∷ [])
    ∷ (seen (run form 0o10 right), 5 ∷ 8 ∷ 8 ∷ 13 ∷ 1 ∷ 8 ∷ 0o040102 ∷ 8 ∷ 0o022222 ∷ 2 ∷ [])
    ∷ (seen (run form 0o20 left), 6 ∷ 9 ∷ 8 ∷ 22 ∷ 0 ∷ 4 ∷ 0o000002 ∷ 8 ∷ 0o111111 ∷ 1 ∷ [])
    ∷ (seen (run form 0o20 right), 6 ∷ 9 ∷ 8 ∷ 22 ∷ 0 ∷ 4 ∷ 0o000002 ∷ 8 ∷ 0o022222 ∷ 2 ∷ [])
    ∷ (seen (run form 0o30 left), 6 ∷ 9 ∷ 8 ∷ 30 ∷ 0 ∷ 4 ∷ 0o000002 ∷ 8 ∷ 0o111111 ∷ 1 ∷ [])
    ∷ (seen (run form 0o30 right), 6 ∷ 9 ∷ 8 ∷ 30 ∷ 0 ∷ 4 ∷ 0o000002 ∷ 8 ∷ 0o022222 ∷ 2 ∷ [])
    ∷ []

-- ---- with device input

-- Program 000 again, with devices in use: the clock and terminal input are enabled, and the character A (0o101) waits
-- to be read out. Interrupts are off (0) or on (1), PIE has levels 13 and 1, PID level 1.
abbrev pub in_use : ℕ → Control
in_use interrupts =
    with_devices (with_pie (with_switches (quiet 1) interrupts 1 0) 0o020002) 0o000002
    (devices_of (1 ∷ 0 ∷ 0 ∷ 1 ∷ 0 ∷ 0 ∷ 0 ∷ 0 ∷ 0 ∷ 1 ∷ 0 ∷ 0o101 ∷ []))

abbrev pub device_input : List Given
device_input =
    record { at = 0; input = ReadOut }
    ∷ record { at = 1; input = Tick }
    ∷ record { at = 2; input = Typed 0o102 }
    ∷ record { at = 2; input = Typed 0o103 }
    ∷ record { at = 3; input = ReadOut }
    ∷ record { at = 3; input = Raise 14 }
    ∷ record { at = 4; input = Raise 11 }
    ∷ record { at = 5; input = Tick }
    ∷ []

abbrev pub run_with_input : Bool → ℕ → List ℕ → InputRunCall
run_with_input form interrupts m =
    input_run_call 100 device_input (pair_start form (in_use interrupts) 0) m (tables form)

-- What is looked at: steps, reason and references; what the inputs were told; PID; the devices' words; the message and
-- the two foreign words.
abbrev pub seen_with_input : InputRunCall → List (List ℕ)
seen_with_input r =
    run_values r.answer
    ∷ r.told
    ∷ (r.state.control.pid ∷ [])
    ∷ device_words r.state.devices
    ∷ (get_or r.memory 1024 0 ∷ get_or r.memory 2048 0 ∷ get_or r.memory 2049 0 ∷ [])
    ∷ []

-- Interrupts off: the tick and the first character ask (PID bits 13 and 12), the raise sets bit 11; the second
-- character is refused (11) and so is level 14 (3); the second read out finds none (256). Interrupt 3 in step 5 ends
-- the run, so the last tick is not handed in. The references are those of program 000 above: an input makes none.
abbrev pub ends_interrupted : List ℕ → List (List ℕ)
ends_interrupted foreign =
    (5 ∷ 3 ∷ 8 ∷ [])
    ∷ (0o101 ∷ 0 ∷ 0 ∷ 11 ∷ 256 ∷ 3 ∷ 0 ∷ [])
    ∷ (0o034002 ∷ [])
    ∷ (1 ∷ 1 ∷ 1 ∷ 1 ∷ 1 ∷ 1 ∷ 0o102 ∷ 0 ∷ 0 ∷ 0 ∷ 0 ∷ 0o101 ∷ [])
    ∷ (8 ∷ foreign)
    ∷ []

-- Interrupts on: the tick makes level 13 due, and the run ends there, after one step, which made its fetch alone.
abbrev pub ends_due : List ℕ → List (List ℕ)
ends_due foreign =
    (1 ∷ 1 ∷ 1 ∷ [])
    ∷ (0o101 ∷ 0 ∷ [])
    ∷ (0o020002 ∷ [])
    ∷ (1 ∷ 1 ∷ 1 ∷ 1 ∷ 0 ∷ 0 ∷ 0 ∷ 0 ∷ 0 ∷ 0 ∷ 0 ∷ 0o101 ∷ [])
    ∷ (7 ∷ foreign)
    ∷ []

-- both sides leave the same but for the foreign words, which are as they were
unfoldable pub pair_with_input : Bool → List (List (List ℕ) × List (List ℕ))
pair_with_input form =
    (seen_with_input (run_with_input form 0 left), ends_interrupted (0o111111 ∷ 1 ∷ []))
    ∷ (seen_with_input (run_with_input form 0 right), ends_interrupted (0o022222 ∷ 2 ∷ []))
    ∷ (seen_with_input (run_with_input form 1 left), ends_due (0o111111 ∷ 1 ∷ []))
    ∷ (seen_with_input (run_with_input form 1 right), ends_due (0o022222 ∷ 2 ∷ []))
    ∷ []

pub pair_holds : (form : Bool)
    → (given (pair form) ≡ stated (pair form)) × (given (pair_with_input form) ≡ stated (pair_with_input form))
unfolding pair pair_with_input run_call input_run_call state_answer sizes_fit in_range file_at put_file adder
    with_overflow with_sum product_overflow division_fails left_once right_once by_code by_number decode tra_of trr_of
    masked_of switch_of transfer_of srb_of lrb_of shift_of first_address divided within_memory judged in_window
    translate marked lowered step interrupted faulted finished operands_tested operands indirect_tested user_stage
    examined deposited instruction_stage fetched step_in put_other block_stored block_loaded far_stage settled
    change_due level_changed
pair_holds true = (refl, refl)
pair_holds false = (refl, refl)

-- the pages that are permitted to the start: 0 to 2 for reading, 0 and 1 for writing
abbrev pub pages : Bool → List Bool
pages form =
    let s = pair_start form (quiet 1) 0 in
    reachable s (tables form) 0
    ∷ reachable s (tables form) 1
    ∷ reachable s (tables form) 2
    ∷ writable s (tables form) 0
    ∷ writable s (tables form) 1
    ∷ []

pub pages_hold : (form : Bool) → pages form ≡ true ∷ true ∷ false ∷ false ∷ true ∷ []
unfolding in_either
pages_hold true = refl
pages_hold false = refl
