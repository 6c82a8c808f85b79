-- Facts at the ends of ranges and of rules, computed from the definitions: one theorem for each table.
-- Assumes nothing.
use Rattle.std.proofs.Common.{◌≡◌, ℕ, suc, Bool, true, false, cond, List, [], ◌∷◌, ◌++◌, get_or, replicate, refl}
use Rattle.isa.specs.Machine.{file_at, put_file, state_with}
use Rattle.isa.specs.Flags.{adder, with_overflow, with_sum, product_overflow, division_fails, left_once, right_once}
use Rattle.isa.specs.Decode.{by_code, by_number, decode, tra_of, trr_of, masked_of, switch_of, transfer_of, srb_of}
use Rattle.isa.specs.Decode.{lrb_of, shift_of}
use Rattle.isa.specs.Address.{first_address}
use Rattle.isa.specs.System.{with_paging_status, with_extended, status_word}
use Rattle.isa.specs.Instructions.{divided}
use Rattle.isa.specs.Pages.{Entry, entry_of, entry_at, within_memory, judged, in_window, translate, marked, lowered}
use Rattle.isa.specs.Physical.{transfer_address, physical_place, transferred}
use Rattle.isa.specs.Step.{Turn, step, interrupted, faulted, finished, operands_tested, operands, indirect_tested}
use Rattle.isa.specs.Step.{user_stage, examined, deposited, transfer_stage, instruction_stage, fetched, step_in}
use Rattle.isa.specs.Step.{put_other, block_stored, block_loaded, far_stage, settled, change_due, level_changed}
use Rattle.isa.specs.Cases.{quiet, memory_of, tables_of, given, stated}
use Rattle.isa.specs.Isolation.{permits, permits_writing, in_either, reachable}
use Rattle.isa.specs.declared.machine.State.{State}
use Rattle.isa.specs.declared.access.Rights.{Rights}
use Rattle.isa.specs.declared.access.AccessKind.TheVariants.{Read}
use Rattle.std.specs.declared.result.Result.{Result}
use Rattle.std.specs.declared.result.Result.TheVariants.{Ok, Err}
use Rattle.isa.specs.declared.access.Place.{Place}
use Rattle.isa.specs.declared.access.Place.TheVariants.{Load, LoadTable}
use Rattle.isa.specs.declared.access.Fault.{Fault}
use Rattle.isa.specs.declared.access.Fault.TheVariants.{OutOfRange}
use Rattle.isa.specs.declared.instruction.Instruction.{Instruction}
use Rattle.isa.specs.declared.instruction.Instruction.TheVariants.{Privileged, Illegal}
use Rattle.isa.specs.declared.instruction.System.TheVariants.{Control, Physical}
use Rattle.isa.specs.declared.instruction.ControlOp.TheVariants.{Sex, Rex}
use Rattle.isa.specs.declared.instruction.Transfer.TheVariants.{Ldatx, Ldxtx, Lddtx, Ldbtx, Statx, Stztx, Stdtx}
use Rattle.isa.specs.declared.machine.File.{File}

-- "Addresses 177400 to 177777 are the page tables when paging is off or the ring is 3"; in extended mode "177000 to
-- 177777"
abbrev rights : Bool → Bool → ℕ → Rights
rights form paging ring = record { paging = paging; extended = form; ring = ring; normal = 0; alternate = 0 }

-- whether the address is in the window in 19-bit mode, and in extended mode
abbrev window_by : Bool → ℕ → ℕ → List Bool
window_by paging ring a = in_window (rights false paging ring) a ∷ in_window (rights true paging ring) a ∷ []

abbrev windows : List (List Bool × List Bool)
windows =
    (window_by true 0 0o177400, false ∷ false ∷ [])
    ∷ (window_by true 1 0o177400, false ∷ false ∷ [])
    ∷ (window_by true 2 0o177400, false ∷ false ∷ [])
    ∷ (window_by true 3 0o176777, false ∷ false ∷ [])
    ∷ (window_by true 3 0o177000, false ∷ true ∷ [])
    ∷ (window_by true 3 0o177377, false ∷ true ∷ [])
    ∷ (window_by true 3 0o177400, true ∷ true ∷ [])
    ∷ (window_by false 0 0o177777, true ∷ true ∷ [])
    ∷ []

pub window_rings : given windows ≡ stated windows
unfolding in_window
window_rings = refl

-- Which page an entry permits to a ring. Of one word: 163000 has all permits, ring 3 and page 0; 041005 is read alone,
-- ring 1, page 5; 101005 write alone; 015005 has marks and no permit. Of two words: 041777 is 041000 with its unused
-- bits set, and the page is that of the second word, without bits 15 and 14.
abbrev short : ℕ → Entry
short e = entry_at false (0 ∷ e ∷ []) 1

abbrev long : ℕ → ℕ → Entry
long e page = entry_at true (0 ∷ 0 ∷ e ∷ page ∷ []) 1

abbrev permissions : List (Bool × Bool)
permissions =
    (permits (short 0o163000) 3 0, true)
    ∷ (permits (short 0o163000) 2 0, false)
    ∷ (permits (short 0o041005) 1 5, true)
    ∷ (permits (short 0o041005) 1 4, false)
    ∷ (permits (short 0o041005) 0 5, false)
    ∷ (permits (short 0o015005) 3 5, false)
    ∷ (permits_writing (short 0o041005) 1 5, false)
    ∷ (permits_writing (short 0o101005) 1 5, true)
    ∷ (permits (long 0o041777 5) 1 5, true)
    ∷ (permits (long 0o041777 5) 1 0o777, false)
    ∷ (permits (long 0o041777 5) 0 5, false)
    ∷ (permits (long 0o041777 0o177777) 1 16383, true)
    ∷ (permits (long 0o015000 5) 3 5, false)
    ∷ (permits_writing (long 0o041000 5) 1 5, false)
    ∷ (permits_writing (long 0o101000 5) 1 5, true)
    ∷ []

pub permits_rings : given permissions ≡ stated permissions
permits_rings = refl

-- ---- the seven instructions by T and X (document 02, card 4)

-- T, X and the displacement; the physical address
abbrev registers : ℕ → ℕ → File
registers t x = record { sts = 0; d = 0; p = 0; b = 0; l = 0; a = 0; t = t; x = x }

abbrev addresses : List (ℕ × ℕ)
addresses =
    (transfer_address (registers 0 0o177777) 1, 65536)
    ∷ (transfer_address (registers 1 0o177777) 1, 131072)
    ∷ (transfer_address (registers 0o177777 0o177777) 7, 4294967302)
    ∷ []

-- the word w, and B after LDBTX loads it
abbrev loaded_b : ℕ → ℕ
loaded_b w = (transferred Ldbtx (registers 0 0) w 0).b

abbrev doubled : List (ℕ × ℕ)
doubled = (loaded_b 0o000005, 0o177012) ∷ (loaded_b 0o100001, 0o177002) ∷ (loaded_b 0o177777, 0o177776) ∷ []

-- where a load from a physical address goes, with 66,560 words of memory, in 19-bit and in extended mode
abbrev loads_from : ℕ → List (Result Place Fault)
loads_from p = physical_place false 66560 Read p ∷ physical_place true 66560 Read p ∷ []

abbrev places : List (List (Result Place Fault) × List (Result Place Fault))
places =
    (loads_from 0o176777, Ok (Load 0o176777) ∷ Ok (Load 0o176777) ∷ [])
    ∷ (loads_from 0o177000, Ok (Load 0o177000) ∷ Ok (LoadTable 0) ∷ [])
    ∷ (loads_from 0o177377, Ok (Load 0o177377) ∷ Ok (LoadTable 255) ∷ [])
    ∷ (loads_from 0o177400, Ok (LoadTable 0) ∷ Ok (LoadTable 256) ∷ [])
    ∷ (loads_from 0o177777, Ok (LoadTable 255) ∷ Ok (LoadTable 511) ∷ [])
    ∷ (loads_from 65536, Ok (Load 65536) ∷ Ok (Load 65536) ∷ [])
    ∷ (loads_from 66560, Err OutOfRange ∷ Err OutOfRange ∷ [])
    ∷ []

-- the words of displacement 5, and those of SEX and REX
abbrev codes : List (Instruction × Instruction)
codes =
    (decode 0o143350, Privileged (Physical Ldatx 5))
    ∷ (decode 0o143351, Privileged (Physical Ldxtx 5))
    ∷ (decode 0o143352, Privileged (Physical Lddtx 5))
    ∷ (decode 0o143353, Privileged (Physical Ldbtx 5))
    ∷ (decode 0o143354, Privileged (Physical Statx 5))
    ∷ (decode 0o143355, Privileged (Physical Stztx 5))
    ∷ (decode 0o143356, Privileged (Physical Stdtx 5))
    ∷ (decode 0o143357, Illegal)
    ∷ (decode 0o150406, Privileged (Control Sex))
    ∷ (decode 0o150407, Privileged (Control Rex))
    ∷ []

-- bit 13 of the status word is the extended flag: level 3, flags 000201
abbrev status_words : List (ℕ × ℕ)
status_words =
    (status_word 3 (with_extended (quiet 0) 0) 0o201, 0o011601)
    ∷ (status_word 3 (with_extended (quiet 0) 1) 0o201, 0o031601)
    ∷ (status_word 3 (with_extended (quiet 1) 1) 0o201, 0o071601)
    ∷ []

pub by_t_and_x : (given addresses ≡ stated addresses) × (given doubled ≡ stated doubled)
    × (given places ≡ stated places) × (given codes ≡ stated codes) × (given status_words ≡ stated status_words)
unfolding physical_place within_memory by_code decode transfer_of switch_of
by_t_and_x = (refl, refl, refl, refl, refl)

-- ---- which table each access goes by

-- One step of the word w at P 0 with B 004000, X 010000, T 0 and the flags given, paging on, normal table 0, alternate
-- table 1. Every entry of both tables permits all of physical page 0, so that the marks alone tell which entries were
-- used. The word at displacement 1 is 014000.
abbrev start : ℕ → State
start sts =
    state_with 0 (quiet 1) (sts ∷ 0 ∷ 0 ∷ 0o4000 ∷ 0 ∷ 0 ∷ 0 ∷ 0o10000 ∷ replicate 120 0) (0o200 ∷ replicate 15 0)

abbrev after : ℕ → ℕ → Turn
after sts w = step (start sts) (w ∷ 0o014000 ∷ replicate 1022 0) (replicate 128 0o160000 ++ replicate 384 0)

-- the slots, table * 64 + virtual page, of the entries whose PGU is set
abbrev used_from : ℕ → List ℕ → List ℕ
used_from i [] = []
used_from i (e ∷ es) = cond (entry_of e 0).pgu (i ∷ []) [] ++ used_from (suc i) es

abbrev used : ℕ → ℕ → List ℕ
used sts w = used_from 0 (after sts w).tables

-- LDA and STA by the eight modes with displacement 1, and the byte instructions; with PTM 1, then LDA with PTM 0. The
-- fetch is slot 0. B is in virtual page 2, X in 4, the indirect word's address in 6, B + X in 6, that address + X in
-- 10, T + X / 2 in 2.
abbrev accesses : List (List ℕ × List ℕ)
accesses =
    (used 1 0o044001, 0 ∷ [])
    ∷ (used 1 0o044401, 0 ∷ 66 ∷ [])
    ∷ (used 1 0o045001, 0 ∷ 70 ∷ [])
    ∷ (used 1 0o045401, 0 ∷ 66 ∷ 70 ∷ [])
    ∷ (used 1 0o046001, 0 ∷ 68 ∷ [])
    ∷ (used 1 0o046401, 0 ∷ 70 ∷ [])
    ∷ (used 1 0o047001, 0 ∷ 74 ∷ [])
    ∷ (used 1 0o047401, 0 ∷ 66 ∷ 74 ∷ [])
    ∷ (used 1 0o004001, 0 ∷ [])
    ∷ (used 1 0o004401, 0 ∷ 66 ∷ [])
    ∷ (used 1 0o005001, 0 ∷ 70 ∷ [])
    ∷ (used 1 0o005401, 0 ∷ 66 ∷ 70 ∷ [])
    ∷ (used 1 0o006001, 0 ∷ 68 ∷ [])
    ∷ (used 1 0o006401, 0 ∷ 70 ∷ [])
    ∷ (used 1 0o007001, 0 ∷ 74 ∷ [])
    ∷ (used 1 0o007401, 0 ∷ 66 ∷ 74 ∷ [])
    ∷ (used 1 0o142200, 0 ∷ 66 ∷ [])
    ∷ (used 1 0o142600, 0 ∷ 66 ∷ [])
    ∷ (used 0 0o044001, 0 ∷ [])
    ∷ (used 0 0o044401, 0 ∷ 2 ∷ [])
    ∷ (used 0 0o045001, 0 ∷ 6 ∷ [])
    ∷ (used 0 0o045401, 0 ∷ 2 ∷ 6 ∷ [])
    ∷ (used 0 0o046001, 0 ∷ 4 ∷ [])
    ∷ (used 0 0o046401, 0 ∷ 6 ∷ [])
    ∷ (used 0 0o047001, 0 ∷ 10 ∷ [])
    ∷ (used 0 0o047401, 0 ∷ 2 ∷ 10 ∷ [])
    ∷ (used 0 0o142200, 0 ∷ 2 ∷ [])
    ∷ []

-- ---- which fault PGS keeps (document 02, card 3)

-- One step of the word w on that ring, with paging on, by the entry e of the page that it is fetched from; PGS is
-- 000377 before it, and h is whether it is held. Seen are the interrupt, PGS, whether it is held, and A.
abbrev kept : ℕ → ℕ → ℕ → ℕ → List ℕ
kept ring h w e =
    let k = with_paging_status (quiet 1) 0o377 h in
    let r = step (state_with 0 k (replicate 128 0) (ring ∷ replicate 15 0)) (memory_of w 0) (tables_of e 0) in
    r.gave ∷ r.state.control.pgs ∷ r.state.added.held ∷ get_or r.state.regs 5 0 ∷ []

abbrev first_faults : List (List ℕ × List ℕ)
first_faults =
    -- no permit at all, 3; no permit to fetch, 2; an entry of ring 2, 2; a page past the memory, 9
    (kept 1 0 0 0, 3 ∷ 0o140000 ∷ 1 ∷ 0 ∷ [])
    ∷ (kept 1 1 0 0, 3 ∷ 0o377 ∷ 1 ∷ 0 ∷ [])
    ∷ (kept 1 0 0 0o041000, 2 ∷ 0o140000 ∷ 1 ∷ 0 ∷ [])
    ∷ (kept 1 1 0 0o041000, 2 ∷ 0o377 ∷ 1 ∷ 0 ∷ [])
    ∷ (kept 1 0 0 0o162000, 2 ∷ 0o100000 ∷ 1 ∷ 0 ∷ [])
    ∷ (kept 1 1 0 0o162000, 2 ∷ 0o377 ∷ 1 ∷ 0 ∷ [])
    ∷ (kept 1 0 0 0o161777, 9 ∷ 0o377 ∷ 0 ∷ 0 ∷ [])
    ∷ (kept 1 1 0 0o161777, 9 ∷ 0o377 ∷ 1 ∷ 0 ∷ [])
    -- TRA PGS, and the same on ring 1, 6; TRA IIC
    ∷ (kept 2 1 0o150003 0o162000, 0 ∷ 0o377 ∷ 0 ∷ 0o377 ∷ [])
    ∷ (kept 2 0 0o150003 0o162000, 0 ∷ 0o377 ∷ 0 ∷ 0o377 ∷ [])
    ∷ (kept 1 1 0o150003 0o161000, 6 ∷ 0o377 ∷ 1 ∷ 0 ∷ [])
    ∷ (kept 2 1 0o150005 0o162000, 0 ∷ 0o377 ∷ 1 ∷ 0 ∷ [])
    ∷ []

-- ---- one step in extended mode (document 02, card 4)

-- The word w on that ring, with paging on, by the entry of two words of the page that it is fetched from. Seen are the
-- interrupt, PGS, the extended flag, and the entry's words with their marks.
abbrev in_extended : ℕ → ℕ → ℕ → ℕ → List ℕ
in_extended ring w e page =
    let k = with_extended (quiet 1) 1 in
    let r = step (state_with 0 k (replicate 128 0) (ring ∷ replicate 15 0)) (memory_of w 0) (tables_of e page) in
    r.gave ∷ r.state.control.pgs ∷ r.state.added.extended ∷ get_or r.tables 0 0 ∷ get_or r.tables 1 0 ∷ []

abbrev extended_steps : List (List ℕ × List ℕ)
extended_steps =
    -- the fetch: no permit at all, 3; an entry of ring 2, 2; a page past the memory, 9; bits 15 and 14 of the page
    (in_extended 1 0 0 0, 3 ∷ 0o140000 ∷ 1 ∷ 0 ∷ 0 ∷ [])
    ∷ (in_extended 1 0 0o162000 0, 2 ∷ 0o100000 ∷ 1 ∷ 0o162000 ∷ 0 ∷ [])
    ∷ (in_extended 1 0 0o161000 1, 9 ∷ 0 ∷ 1 ∷ 0o161000 ∷ 1 ∷ [])
    ∷ (in_extended 2 0o150406 0o162377 0o140000, 0 ∷ 0 ∷ 1 ∷ 0o166377 ∷ 0o140000 ∷ [])
    -- REX on ring 2; SEX, REX and STATX on ring 1, 6
    ∷ (in_extended 2 0o150407 0o162000 0, 0 ∷ 0 ∷ 0 ∷ 0o166000 ∷ 0 ∷ [])
    ∷ (in_extended 1 0o150406 0o161000 0, 6 ∷ 0 ∷ 1 ∷ 0o165000 ∷ 0 ∷ [])
    ∷ (in_extended 1 0o150407 0o161000 0, 6 ∷ 0 ∷ 1 ∷ 0o165000 ∷ 0 ∷ [])
    ∷ (in_extended 1 0o143304 0o161000 0, 6 ∷ 0 ∷ 1 ∷ 0o165000 ∷ 0 ∷ [])
    ∷ []

-- which pages a start in extended mode reaches: ring 1, one entry, of page 5
abbrev reached : ℕ → Bool
reached page =
    let k = with_extended (quiet 1) 1 in
    reachable (state_with 0 k (replicate 128 0) (1 ∷ replicate 15 0)) (tables_of 0o041000 5) page

-- all three tables, and the pages 5 and 0
pub access_tables : (given accesses ≡ stated accesses) × (given first_faults ≡ stated first_faults)
    × (given extended_steps ≡ stated extended_steps) × (reached 5 ≡ true) × (reached 0 ≡ false)
unfolding file_at put_file adder with_overflow with_sum product_overflow division_fails left_once right_once by_code
    by_number decode tra_of trr_of masked_of switch_of transfer_of srb_of lrb_of shift_of first_address divided
    within_memory judged in_window translate marked lowered physical_place step interrupted faulted finished
    operands_tested operands indirect_tested user_stage examined deposited transfer_stage instruction_stage fetched
    step_in put_other block_stored block_loaded far_stage settled change_due level_changed in_either
access_tables = (refl, refl, refl, refl, refl)
