-- The number of references of one step, computed from the definitions; the answers are worked out by hand from rulings
-- 7.1 to 7.3.
-- Assumes nothing.
use Rattle.std.proofs.Common.{◌≡◌, ℕ, List, [], ◌∷◌, replicate, refl}
use Rattle.isa.specs.Machine.{file_at, put_file, state_with}
use Rattle.isa.specs.Decode.{by_code, by_number, decode, switch_of, transfer_of, srb_of, lrb_of}
use Rattle.isa.specs.Address.{first_address}
use Rattle.isa.specs.System.{with_switches}
use Rattle.isa.specs.InputOutput.{register_of}
use Rattle.isa.specs.Pages.{within_memory, judged, in_window, translate, lowered}
use Rattle.isa.specs.Physical.{physical_place}
use Rattle.isa.specs.Step.{step, finished, operands_tested, operands, indirect_tested, user_stage, examined}
use Rattle.isa.specs.Step.{deposited, transfer_stage, device_stage, instruction_stage, fetched, step_in, block_stored}
use Rattle.isa.specs.Step.{block_loaded, far_stage, settled, change_due}
use Rattle.isa.specs.Cases.{quiet, memory_of, tables_of, bare, paged, given, stated}
use Rattle.isa.specs.declared.machine.Control.{Control}

-- the word w at P 0, with B, A and T; 1,024 words of memory, of which the one at 1 is the address 000100; paging off
abbrev by : ℕ → ℕ → ℕ → ℕ → ℕ
by b a t w = (bare 0 b a t w 0o100).references

-- the word w on ring 1, fetched by the entry e
abbrev on_ring1 : ℕ → ℕ → ℕ
on_ring1 w e = (paged w 0 e 0).references

-- LDA on level 1, with these control words
abbrev on_level1 : Control → ℕ
on_level1 k =
    (step (state_with 1 k (replicate 128 0) (replicate 16 0)) (memory_of 0o044001 0) (tables_of 0 0)).references

abbrev counts : List (ℕ × ℕ)
counts =
    -- fetch and operand: LDA, LBYT, EXR of T, which holds an LDA, and LDA of the window's first word
    (by 0 0 0 0o044001, 2)
    ∷ (by 0 0 0 0o142200, 2)
    ∷ (by 0 0 0o044001 0o140660, 2)
    ∷ (by 0o177400 0 0 0o044400, 2)
    -- read and written: MIN, SBYT
    ∷ (by 0 0 0 0o040001, 3)
    ∷ (by 0 0 0 0o142600, 3)
    -- with an indirect word: LDA, MIN, STF of three words
    ∷ (by 0 0 0 0o045001, 3)
    ∷ (by 0 0 0 0o041001, 4)
    ∷ (by 0 0 0 0o031001, 5)
    -- none at the target: JMP, JMP I
    ∷ (by 0 0 0 0o124001, 1)
    ∷ (by 0 0 0 0o125001, 2)
    -- by a physical address: EXAM, DEPO past the memory, LDDTX, and LDDTX whose first word fails
    ∷ (by 0 0 0 0o150416, 2)
    ∷ (by 0 1 0 0o150417, 2)
    ∷ (by 0 0 0 0o143302, 3)
    ∷ (by 0 0 1 0o143302, 2)
    -- a register block: SRB of level 3, LRB of the running level
    ∷ (by 0 0 0 0o152432, 9)
    ∷ (by 0 0 0 0o152600, 9)
    -- the fetch alone: MON 1, an illegal word, IOX 302, WAIT; IOX on ring 1, refused
    ∷ (by 0 0 0 0o153001, 1)
    ∷ (by 0 0 0 0o100000, 1)
    ∷ (by 0 0 0 0o164302, 1)
    ∷ (by 0 0 0 0o151000, 1)
    ∷ (on_ring1 0o164302 0o161000, 1)
    -- up to the one that fails: STD at the last word of memory, an indirect word past it, a fetch with no permit
    ∷ (by 1023 0 0 0o020400, 3)
    ∷ (by 1024 0 0 0o045400, 2)
    ∷ (on_ring1 0o044001 0, 1)
    -- a change of level, from 1 to 0; a stopped machine; and LDA on level 1 with neither
    ∷ (on_level1 (with_switches (quiet 0) 1 0 0), 0)
    ∷ (on_level1 (with_switches (quiet 0) 0 0 1), 0)
    ∷ (on_level1 (quiet 0), 2)
    ∷ []

pub counts_hold : given counts ≡ stated counts
unfolding file_at put_file by_code by_number decode switch_of transfer_of srb_of lrb_of first_address within_memory
    judged in_window translate lowered physical_place step finished operands_tested operands indirect_tested user_stage
    examined deposited transfer_stage device_stage register_of instruction_stage fetched step_in block_stored
    block_loaded far_stage settled change_due
counts_hold = refl
