-- What the devices' registers do, and IOX on each ring, computed from the definitions. The answers are worked out by
-- hand from document 000, section 6.9, and rulings 31 to 34.
-- Assumes nothing.
use Rattle.std.proofs.Common.{◌≡◌, ℕ, ◌+◌, ◌*◌, Option, Some, List, [], ◌∷◌, replicate, refl}
use Rattle.isa.specs.Devices.{device_words, devices_of}
use Rattle.isa.specs.Machine.{file_at, put_file, reg, with_reg, state_with}
use Rattle.isa.specs.Flags.{adder, with_overflow, with_sum, product_overflow, division_fails, left_once, right_once}
use Rattle.isa.specs.Decode.{by_code, by_number, decode, tra_of, trr_of, masked_of, switch_of, transfer_of, srb_of}
use Rattle.isa.specs.Decode.{lrb_of, shift_of}
use Rattle.isa.specs.Address.{first_address}
use Rattle.isa.specs.System.{with_devices}
use Rattle.isa.specs.InputOutput.{register_of, exchanged, line_of, identified, ticked, typed, read_out}
use Rattle.isa.specs.Instructions.{divided}
use Rattle.isa.specs.Pages.{within_memory, judged, in_window, translate, marked, lowered}
use Rattle.isa.specs.Physical.{physical_place}
use Rattle.isa.specs.Step.{step, interrupted, faulted, finished, operands_tested, operands, indirect_tested}
use Rattle.isa.specs.Step.{user_stage, examined, deposited, transfer_stage, device_stage, ident_stage, fetched}
use Rattle.isa.specs.Step.{step_in, instruction_stage, put_other, block_stored, block_loaded, far_stage, settled}
use Rattle.isa.specs.Step.{change_due, level_changed}
use Rattle.isa.specs.Cases.{quiet, memory_of, tables_of, given, stated}
use Rattle.isa.specs.declared.device.DeviceRegister.{DeviceRegister}
use Rattle.isa.specs.declared.machine.Control.{Control}
use Rattle.isa.specs.declared.machine.Core.{Core}
use Rattle.isa.specs.declared.machine.Register.TheVariants.{A}

-- ---- the registers

-- Clock and input are enabled and ready, the input's character is 377, of 7 bits; output is enabled, none waits, and
-- 101 was sent last. None asks.
abbrev busy : Control
busy = with_devices (quiet 0) 0 (devices_of (1 ∷ 1 ∷ 0 ∷ 1 ∷ 1 ∷ 0 ∷ 0o377 ∷ 1 ∷ 1 ∷ 0 ∷ 0 ∷ 0o101 ∷ []))

-- a core with the word w in A
abbrev core_of : Control → ℕ → Core
core_of k w = record { file = with_reg (file_at (replicate 8 0) 0) A w; pcr = 0; control = k }

-- what is looked at: PID and the devices; with A before them
abbrev lines : Control → List ℕ
lines k = k.pid ∷ device_words k.devices

abbrev seen : Core → List ℕ
seen c = reg c.file A ∷ lines c.control

-- the register at an address, given or giving A, which held w
abbrev by_register : Option DeviceRegister → ℕ → List ℕ
by_register (Some r) w = seen (exchanged (core_of busy w) r)
by_register _ w = []

abbrev by : ℕ → ℕ → List ℕ
by address w = by_register (register_of address) w

abbrev registers : List (List ℕ × List ℕ)
registers =
    -- 010 and 0304 give 0; 011 and 0301 do nothing
    (by 0o10 7, 0 ∷ lines busy)
    ∷ (by 0o11 7, 7 ∷ lines busy)
    ∷ (by 0o301 7, 7 ∷ lines busy)
    ∷ (by 0o304 7, 0 ∷ lines busy)
    -- the three status words: enabled, and ready
    ∷ (by 0o12 7, 0o11 ∷ lines busy)
    ∷ (by 0o302 7, 0o11 ∷ lines busy)
    ∷ (by 0o306 7, 0o11 ∷ lines busy)
    -- the clock enabled while it is ready asks, on level 13; with bit 13 ready is cleared before
    ∷ (by 0o13 1, 1 ∷ 0o20000 ∷ 1 ∷ 1 ∷ 1 ∷ 1 ∷ 1 ∷ 0 ∷ 0o377 ∷ 1 ∷ 1 ∷ 0 ∷ 0 ∷ 0o101 ∷ [])
    ∷ (by 0o13 0o20001, 0o20001 ∷ 0 ∷ 1 ∷ 0 ∷ 0 ∷ 1 ∷ 1 ∷ 0 ∷ 0o377 ∷ 1 ∷ 1 ∷ 0 ∷ 0 ∷ 0o101 ∷ [])
    -- the character's low 7 bits; it is then read
    ∷ (by 0o300 7, 0o177 ∷ 0 ∷ 1 ∷ 1 ∷ 0 ∷ 1 ∷ 0 ∷ 0 ∷ 0o377 ∷ 1 ∷ 1 ∷ 0 ∷ 0 ∷ 0o101 ∷ [])
    -- 5 bits; enabled while a character is unread, the input asks, on level 12; disabled it does not
    ∷ (by 0o303 0o14001, 0o14001 ∷ 0o10000 ∷ 1 ∷ 1 ∷ 0 ∷ 1 ∷ 1 ∷ 1 ∷ 0o377 ∷ 3 ∷ 1 ∷ 0 ∷ 0 ∷ 0o101 ∷ [])
    ∷ (by 0o303 0o14000, 0o14000 ∷ 0 ∷ 1 ∷ 1 ∷ 0 ∷ 0 ∷ 1 ∷ 0 ∷ 0o377 ∷ 3 ∷ 1 ∷ 0 ∷ 0 ∷ 0o101 ∷ [])
    -- the low 7 bits of A wait
    ∷ (by 0o305 0o543, 0o543 ∷ 0 ∷ 1 ∷ 1 ∷ 0 ∷ 1 ∷ 1 ∷ 0 ∷ 0o377 ∷ 1 ∷ 1 ∷ 1 ∷ 0 ∷ 0o143 ∷ [])
    -- output enabled while none waits asks, on level 10
    ∷ (by 0o307 1, 1 ∷ 0o2000 ∷ 1 ∷ 1 ∷ 0 ∷ 1 ∷ 1 ∷ 0 ∷ 0o377 ∷ 1 ∷ 1 ∷ 0 ∷ 1 ∷ 0o101 ∷ [])
    ∷ []

-- a tick, a character typed, one read out; then IDENT about each line
abbrev handed_in : List (List ℕ × List ℕ)
handed_in =
    (lines (ticked busy), 0o20000 ∷ 1 ∷ 1 ∷ 1 ∷ 1 ∷ 1 ∷ 0 ∷ 0o377 ∷ 1 ∷ 1 ∷ 0 ∷ 0 ∷ 0o101 ∷ [])
    ∷ (lines (typed busy 0o40), 0o10000 ∷ 1 ∷ 1 ∷ 0 ∷ 1 ∷ 1 ∷ 1 ∷ 0o40 ∷ 1 ∷ 1 ∷ 0 ∷ 0 ∷ 0o101 ∷ [])
    ∷ (lines (read_out busy), 0o2000 ∷ 1 ∷ 1 ∷ 0 ∷ 1 ∷ 1 ∷ 0 ∷ 0o377 ∷ 1 ∷ 1 ∷ 0 ∷ 1 ∷ 0o101 ∷ [])
    ∷ (seen (identified (core_of (ticked busy) 7) (line_of 0o43)), 1 ∷ 0o20000 ∷ device_words busy.devices)
    ∷ (seen (identified (core_of (read_out busy) 7) (line_of 0o04)), 1 ∷ 0o2000 ∷ device_words busy.devices)
    ∷ []

pub registers_hold : (given registers ≡ stated registers) × (given handed_in ≡ stated handed_in)
unfolding file_at register_of line_of
registers_hold = (refl, refl)

-- ---- the interrupt that one step gives: the word w, paging on or off, on a ring, by an entry of that ring

abbrev gave : ℕ → ℕ → ℕ → ℕ
gave w paging ring =
    (step (state_with 0 (quiet paging) (replicate 128 0) (ring ∷ replicate 15 0)) (memory_of w 0)
    (tables_of (0o160000 + ring * 0o1000) 0)).gave

-- IOX 302, and IDENT PL12 that no device answers: 6 on rings 0 and 1, and not with paging off; IOX 14 has no device
abbrev rings : List (List ℕ × List ℕ)
rings =
    (gave 0o164302 1 0 ∷ gave 0o164302 1 1 ∷ gave 0o164302 1 2 ∷ gave 0o164302 0 0 ∷ [], 6 ∷ 6 ∷ 0 ∷ 0 ∷ [])
    ∷ (gave 0o143622 1 1 ∷ gave 0o143622 1 2 ∷ gave 0o143622 0 0 ∷ [], 6 ∷ 7 ∷ 7 ∷ [])
    ∷ (gave 0o164014 1 1 ∷ gave 0o164014 1 2 ∷ gave 0o164014 0 0 ∷ [], 6 ∷ 7 ∷ 7 ∷ [])
    ∷ []

pub rings_hold : given rings ≡ stated rings
unfolding file_at put_file adder with_overflow with_sum product_overflow division_fails left_once right_once by_code
    by_number decode tra_of trr_of masked_of switch_of transfer_of srb_of lrb_of shift_of first_address divided
    within_memory judged in_window translate marked lowered physical_place step interrupted faulted finished
    operands_tested operands indirect_tested user_stage examined deposited transfer_stage device_stage ident_stage
    register_of line_of instruction_stage fetched step_in put_other block_stored block_loaded far_stage settled
    change_due level_changed
rings_hold = refl
