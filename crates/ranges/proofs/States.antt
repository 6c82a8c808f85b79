-- A state in range, part by part; it is what the types and the test `in_range` say together.
-- Assumes nothing.
use Rattle.isa.specs.Machine.{level_count, register_words, control_of}
use Prim.Native.Nat.{ℕ, zero, suc, ◌*◌, ◌/◌, ◌%◌, ◌<◌, ◌≤◌}
use native.Mathlib.Omega.{arith}
use native.Mathlib.Decide.{dec_lt, ℕ_discrete}
use mathlib.Core.Path.{◌≡◌, refl, subst}
use mathlib.Core.Bool.{Bool, true, ◌&&◌}
use mathlib.Core.List.{List, [], ◌∷◌, ◌++◌}
use lib.ListN.{get_or, length, get_or-eq_default}
use lib.Dec.{ltb, eqb}
use borrow.Author.Tests.{ltb-true, eqb-true, lt-ltb, eq-eqb}
use Rattle.isa.specs.Machine.{Words, Typed, in_range, control_in_range, interrupt_bits, pcr_bits, all_pcr_bits, flags_fit}
use Rattle.isa.specs.Machine.{added_words, control_words, with_control_words}
use Rattle.isa.specs.Devices.{device_words}
use Rattle.isa.specs.declared.device.Devices.{Devices}
use Rattle.isa.specs.declared.machine.Control.{Control}
use Rattle.isa.specs.declared.machine.State.{State}
use Rattle.isa.proofs.Tests.{and_left, and_right, and_both}
use Rattle.ranges.proofs.Places.{Each, nil_words, cons_words, append_words}
use Rattle.ranges.proofs.Files.{Fits}
use Rattle.ranges.proofs.Devices.{DevicesFit, devices_range, devices_test}
use Rattle.ranges.proofs.Control.{InterruptFits, PcrFits, ControlFits}

-- the parts of a state
pub record StateFits (s : State) : Type 0 where
  pub level : s.level < level_count
  pub regs_length : length s.regs ≡ register_words
  pub regs : Each Fits s.regs
  pub control : ControlFits (control_of s)
  pub pcr_length : length s.pcr ≡ level_count
  pub pcr : Each (λ i. PcrFits) s.pcr

-- the state with other control words and devices
pub words_fit : {s : State} {k : Control} → StateFits s → ControlFits k → StateFits (with_control_words s k)
words_fit h q = record {
  level = h.level;
  regs_length = h.regs_length;
  regs = h.regs;
  control = q;
  pcr_length = h.pcr_length;
  pcr = h.pcr;
}

-- ---- from the tests

-- IID and IIE
interrupt_bits_law : (w : ℕ) → interrupt_bits w ≡ true → InterruptFits w
interrupt_bits_law w h = record {
  even = eqb-true (w % 2) 0 (and_left _ (ltb w 2048) h);
  low = ltb-true w 2048 (and_right (eqb (w % 2) 0) _ h);
}

-- a PCR
pcr_bits_law : (w : ℕ) → pcr_bits w ≡ true → PcrFits w
pcr_bits_law w h = record {
  clear = eqb-true (w / 4 % 32) 0 (and_left _ (ltb w 2048) h);
  low = ltb-true w 2048 (and_right (eqb (w / 4 % 32) 0) _ h);
}

-- all PCRs
pcrs_each : (ps : List ℕ) → all_pcr_bits ps ≡ true → Each (λ i. PcrFits) ps
pcrs_each [] h i = record { clear = refl; low = omega arith }
pcrs_each (p ∷ ps) h zero = pcr_bits_law p (and_left (pcr_bits p) (all_pcr_bits ps) h)
pcrs_each (p ∷ ps) h (suc i) = pcrs_each ps (and_right (pcr_bits p) (all_pcr_bits ps) h) i

-- the STS of each level below n
flags_below : (n : ℕ) (b : List ℕ) → flags_fit n b ≡ true → (l : ℕ) → l < n → get_or b (l * 8) 0 < 256
flags_below zero b h l k = absurd (omega arith)
flags_below (suc n) b h l k =
    go (ℕ_discrete l n) (flags_below n b (and_right (ltb (get_or b (n * 8) 0) 256) (flags_fit n b) h) l)
  where
    go : Dec (l ≡ n) → (l < n → get_or b (l * 8) 0 < 256) → get_or b (l * 8) 0 < 256
    go (yes e) r = rw e (ltb-true (get_or b (n * 8) 0) 256 (and_left (ltb (get_or b (n * 8) 0) 256) (flags_fit n b) h))
    go (no e) r = r (omega arith)

-- so each place that is a level's STS
regs_each : (b : List ℕ) → length b ≡ register_words → Words b → flags_fit 16 b ≡ true → Each Fits b
regs_each b n w h i = record { word = w i; flags = λ e. go e (dec_lt i 128) }
  where
    go : i % 8 ≡ 0 → Dec (i < 128) → get_or b i 0 < 256
    go e (yes k) =
        let s : i / 8 * 8 ≡ i = omega arith in
        subst (λ (j : ℕ). get_or b j 0 < 256) s (flags_below 16 b h (i / 8) (omega arith))
    go e (no k) = rw (get_or-eq_default b 0 {n = i} (omega arith)) (omega arith)

-- the control words
control_range : (k : Control) → control_in_range k ≡ true → k.pid < 65536 → k.pie < 65536 → k.pgs < 65536
    → ControlFits k
control_range k h d e g = record {
  interrupts = ltb-true k.interrupts 2 (search (and_left, and_right) depth 8);
  paging = ltb-true k.paging 2 (search (and_left, and_right) depth 8);
  stopped = ltb-true k.stopped 2 (search (and_left, and_right) depth 8);
  pid = d;
  pie = e;
  pvl = ltb-true k.pvl 16 (search (and_left, and_right) depth 8);
  iid = interrupt_bits_law k.iid (search (and_left, and_right) depth 8);
  iie = interrupt_bits_law k.iie (search (and_left, and_right) depth 8);
  pgs = record { clear = eqb-true (k.pgs / 256 % 64) 0 (search (and_left, and_right) depth 8); word = g };
  held = ltb-true k.held 2 (search (and_left, and_right) depth 8);
  extended = ltb-true k.extended 2 (search (and_left, and_right) depth 8);
  devices = devices_range k.devices (search (and_left, and_right) depth 8);
}

-- four tests that all pass; the last is long to compute
four : (a b c d : Bool) → (a && b && c && d) ≡ true → (a ≡ true) × (b ≡ true) × (c ≡ true) × (d ≡ true)
four a b c d h = (
  search (and_left, and_right),
  search (and_left, and_right),
  search (and_left, and_right),
  search (and_left, and_right),
)

-- the state
pub state_fits : (s : State) → Typed s → in_range s ≡ true → StateFits s
unfolding in_range
state_fits s t h =
    let q = four (ltb s.level 16) (control_in_range (control_of s)) (all_pcr_bits s.pcr) (flags_fit 16 s.regs) h in
    record {
      level = ltb-true s.level 16 q.0;
      regs_length = t.regs_length;
      regs = regs_each s.regs t.regs_length t.regs_words q.3;
      control =
          control_range (control_of s) q.1 (t.control_words_law 4) (t.control_words_law 5) (t.control_words_law 9);
      pcr_length = t.pcr_length;
      pcr = pcrs_each s.pcr q.2;
    }

-- ---- and back

-- IID and IIE
interrupt_test : (w : ℕ) → InterruptFits w → interrupt_bits w ≡ true
interrupt_test w h = and_both (eq-eqb (w % 2) 0 h.even) (lt-ltb w 2048 h.low)

-- a PCR
pcr_test : (w : ℕ) → PcrFits w → pcr_bits w ≡ true
pcr_test w h = and_both (eq-eqb (w / 4 % 32) 0 h.clear) (lt-ltb w 2048 h.low)

-- all PCRs
pcrs_test : (ps : List ℕ) → Each (λ i. PcrFits) ps → all_pcr_bits ps ≡ true
pcrs_test [] h = refl
pcrs_test (p ∷ ps) h = and_both (pcr_test p (h 0)) (pcrs_test ps (λ i. h (suc i)))

-- the STS of each level below n
flags_test : (n : ℕ) (b : List ℕ) → Each Fits b → flags_fit n b ≡ true
flags_test zero b h = refl
flags_test (suc n) b h = and_both (lt-ltb (get_or b (n * 8) 0) 256 ((h (n * 8)).flags (omega arith))) (flags_test n b h)

-- the control words
control_test : (k : Control) → ControlFits k → control_in_range k ≡ true
control_test k h =
    and_both
    (and_both
    (and_both
    (and_both
    (and_both
    (and_both
    (and_both (and_both (lt-ltb k.interrupts 2 h.interrupts) (lt-ltb k.paging 2 h.paging))
    (lt-ltb k.stopped 2 h.stopped))
    (lt-ltb k.pvl 16 h.pvl))
    (interrupt_test k.iid h.iid))
    (interrupt_test k.iie h.iie))
    (and_both (eq-eqb (k.pgs / 256 % 64) 0 h.pgs.clear) (lt-ltb k.held 2 h.held)))
    (lt-ltb k.extended 2 h.extended))
    (devices_test k.devices h.devices)

-- four tests together
all_four : (a b c d : Bool) → a ≡ true → b ≡ true → c ≡ true → d ≡ true → (a && b && c && d) ≡ true
all_four a b c d h i j k = and_both (and_both (and_both h i) j) k

-- the state passes the test
pub state_range : (s : State) → StateFits s → in_range s ≡ true
unfolding in_range
state_range s h =
    all_four (ltb s.level 16) (control_in_range (control_of s)) (all_pcr_bits s.pcr) (flags_fit 16 s.regs)
    (lt-ltb s.level 16 h.level)
    (control_test (control_of s) h.control)
    (pcrs_test s.pcr h.pcr)
    (flags_test 16 s.regs h.regs)

-- the control words in image order are words
record Row (xs : List ℕ) : Type 0 where
  at : Words xs

-- one word more
first : {x n : ℕ} {xs : List ℕ} → x < n → n ≤ 65536 → Row xs → Row (x ∷ xs)
first {x} {n} {xs} h k r = let l : x < 65536 = omega arith in record { at = cons_words x xs l r.at }

-- the PCRs
pcr_row : (ps : List ℕ) → Each (λ i. PcrFits) ps → Row ps
pcr_row ps h = record { at = λ i. omega (arith, (h i).low) }

-- the words behind the PCRs
added_row : {k : Control} → ControlFits k → Row (added_words k)
added_row h = first h.held (omega arith) (first h.extended (omega arith) (record { at = nil_words }))

-- the PCRs, and the words behind them
last_row : (ps : List ℕ) {k : Control} → Each (λ i. PcrFits) ps → ControlFits k → Row (ps ++ added_words k)
last_row ps {k} h f = record { at = append_words ps (added_words k) (pcr_row ps h).at (added_row f).at }

-- all of them
control_row : (s : State) → StateFits s → Row (control_words s)
control_row s h =
    let k = h.control in
    first h.level (omega arith)
    (first k.interrupts (omega arith)
    (first k.paging (omega arith)
    (first k.stopped (omega arith)
    (first k.pid (omega arith)
    (first k.pie (omega arith)
    (first k.pvl (omega arith)
    (first k.iid.low (omega arith)
    (first k.iie.low (omega arith)
    (first k.pgs.word (omega arith) (last_row s.pcr h.pcr k))))))))))

-- the devices' words
device_row : {d : Devices} → DevicesFit d → Row (device_words d)
device_row h =
    let c = h.clock in
    let i = h.input in
    let o = h.output in
    first c.enabled (omega arith)
    (first c.ready (omega arith)
    (first c.asks (omega arith)
    (first i.enabled (omega arith)
    (first i.unread (omega arith)
    (first i.asks (omega arith)
    (first i.character (omega arith)
    (first i.length (omega arith)
    (first o.enabled (omega arith)
    (first o.waits (omega arith)
    (first o.asks (omega arith)
    (first o.character (omega arith) (record { at = nil_words }))))))))))))

-- the state has its types
pub state_typed : (s : State) → StateFits s → Typed s
state_typed s h = record {
  regs_length = h.regs_length;
  pcr_length = h.pcr_length;
  regs_words = λ i. (h.regs i).word;
  control_words_law = (control_row s h).at;
  device_words_law = (device_row h.control.devices).at;
}
