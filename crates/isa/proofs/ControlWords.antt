-- The control words of a state in image order, taken apart again: the PCRs, the words behind them, and the state.
-- Assumes nothing.
use Rattle.std.proofs.Common.{◌≡◌, ℕ, ◌+◌, List, length, get_or, take, drop, sym, ap, ◌∙◌, arith, length-append, get_or-drop, take_at, drop_at}
use Rattle.isa.specs.Machine.{level_count, first_pcr, first_added, control_count, control_of, added_words}
use Rattle.isa.specs.Machine.{control_words, state_of}
use Rattle.isa.specs.Devices.{device_words}
use Rattle.isa.specs.declared.machine.State.{State}

module _ (s : State) (h : length s.pcr ≡ level_count) where
  pcrs_of_words : take level_count (drop first_pcr (control_words s)) ≡ s.pcr
  pcrs_of_words = take_at s.pcr (added_words (control_of s)) level_count h

  added_of_words : drop first_added (control_words s) ≡ added_words (control_of s)
  added_of_words = drop_at s.pcr (added_words (control_of s)) level_count h

  pub control_length : length (control_words s) ≡ control_count
  control_length = omega (arith, h, length-append s.pcr (added_words (control_of s)))

  -- the i-th word behind the PCRs
  word_of_added : (i : ℕ) → get_or (control_words s) (first_added + i) 0 ≡ get_or (added_words (control_of s)) i 0
  word_of_added i =
      sym (get_or-drop first_added (control_words s) i 0) ∙ ap (λ (ws : List ℕ). get_or ws i 0) added_of_words

  pub state_of_words : state_of s.regs (control_words s) (device_words s.devices) ≡ s
  state_of_words =
      λ i. record {
        regs = s.regs;
        level = s.level;
        control = s.control;
        pcr = pcrs_of_words i;
        added = record { held = word_of_added 0 i; extended = word_of_added 1 i };
        devices = s.devices;
      }
