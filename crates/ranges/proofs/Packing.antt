-- The running level taken out of a state and put back, and what leaves the level, all in range.
-- Assumes nothing.
use Rattle.isa.specs.Machine.{level_count, register_words}
use Prim.Native.Nat.{ℕ, suc, ◌+◌, ◌*◌, ◌%◌, ◌<◌}
use native.Mathlib.Omega.{arith}
use mathlib.Core.Path.{◌≡◌, refl, sym, subst, ◌∙◌}
use mathlib.Core.Bool.{◌&&◌}
use mathlib.Core.List.{List, [], ◌∷◌}
use lib.ListN.{get_or, set, drop, length, length-set}
use lib.Dec.{eqb}
use Rattle.isa.specs.Machine.{Words, file_words, file_at, put_file, core_of, with_core, pcr_mask}
use Rattle.isa.specs.Pages.{Tested, words_at, rights_of}
use Rattle.isa.specs.Step.{Turn, counted_turn, with_pcrs, place_of, register_at, kept, put_register, is_p, put_other, pcr_level}
use Rattle.isa.specs.Step.{block_order, block_request, block_words, put_block, block_failed, block_stored, block_loaded}
use Rattle.isa.specs.Step.{block_tested, far_stage}
use Rattle.isa.specs.declared.machine.Core.{Core}
use Rattle.isa.specs.declared.machine.File.{File}
use Rattle.isa.specs.declared.machine.State.{State}
use Rattle.isa.specs.declared.machine.Register.{Register}
use Rattle.isa.specs.declared.machine.Register.TheVariants.{Sts, D, P, B, L, A, T, X}
use Rattle.isa.specs.declared.access.AccessKind.{AccessKind}
use Rattle.isa.specs.declared.access.AccessKind.TheVariants.{Read, Write}
use Rattle.std.specs.declared.option.Option.{Option}
use Rattle.std.specs.declared.option.Option.TheVariants.{None, Some}
use Rattle.isa.specs.declared.access.Fault.{Fault}
use Rattle.isa.specs.declared.answer.Far.{Far}
use Rattle.isa.specs.declared.answer.Far.TheVariants.{Call, ReadRegister, WriteRegister, ReadPcr, WritePcr}
use Rattle.isa.specs.declared.answer.Far.TheVariants.{StoreBlock, LoadBlock}
use Rattle.isa.proofs.Packing.{words_at_law, put_length}
use Rattle.isa.proofs.Tests.{either}
use Rattle.ranges.proofs.Places.{Each, set_each, take_each, drop_each, paste_each, nil_words, cons_words}
use Rattle.ranges.proofs.Files.{Fits, FileFits}
use Rattle.ranges.proofs.Control.{PcrFits, CoreFits, pcr_mask_fits}
use Rattle.ranges.proofs.Pages.{FaultFits, FirstFits, after_test_fits, LentFits, rights_fit, faulted_fits, tested_fits, tested_fault}
use Rattle.ranges.proofs.Pages.{stored_fits, read_words}
use Rattle.ranges.proofs.States.{StateFits}

-- ---- the running level in the state

-- a place in a level's file and its place among all registers are alike
in_file : (l i v : ℕ) → Fits (l * 8 + i) v → Fits i v
in_file l i v h = record { word = h.word; flags = λ e. h.flags (omega arith) }

in_regs : (l i v : ℕ) → Fits i v → Fits (l * 8 + i) v
in_regs l i v h = record { word = h.word; flags = λ e. h.flags (omega arith) }

-- a level's file taken out
file_at_fits : (b : List ℕ) (l : ℕ) → l < level_count → length b ≡ register_words → Each Fits b → FileFits (file_at b l)
file_at_fits b l k n h = record {
  each = subst (Each Fits) (sym (words_at_law b l k n))
      (take_each Fits 8 (drop (l * 8) b) (λ i. record { word = omega arith; flags = λ e. omega arith })
      (λ i. in_file l i (get_or (drop (l * 8) b) i 0) (drop_each Fits (l * 8) b h i)));
}

-- the running level taken out
pub core_fits : {s : State} → StateFits s → CoreFits (core_of s)
core_fits {s} h = record {
  file = file_at_fits s.regs s.level h.level h.regs_length h.regs;
  pcr = h.pcr s.level;
  control = h.control;
}

-- a level's file put back
put_each : (b : List ℕ) (l : ℕ) (f : File) → l < level_count → length b ≡ register_words → Each Fits b → FileFits f
    → Each Fits (put_file b l f)
unfolding put_file
put_each b l f k n q h =
    paste_each Fits b (l * 8) (file_words f) 8 refl (omega arith) q
    (λ i. in_regs l i (get_or (file_words f) i 0) (h.each i))

-- the running level put back
pub with_core_fits : {s : State} {c : Core} → StateFits s → CoreFits c → StateFits (with_core s c)
with_core_fits {s} {c} h q = record {
  level = h.level;
  regs_length = put_length s.regs s.level h.level h.regs_length c.file;
  regs = put_each s.regs s.level c.file h.level h.regs_length h.regs q.file;
  control = q.control;
  pcr_length = length-set s.pcr s.level c.pcr ∙ h.pcr_length;
  pcr = set_each (λ i. PcrFits) s.pcr s.level c.pcr h.pcr q.pcr;
}

-- ---- registers and PCRs of other levels

-- what is kept of a word fits the register's place
kept_fits : (l : ℕ) (r : Register) (w : ℕ) → w < 65536 → Fits (place_of l r) (kept r w)
kept_fits l Sts w h = record { word = omega arith; flags = λ e. omega arith }
kept_fits l D w h = record { word = h; flags = λ e. absurd (omega arith) }
kept_fits l P w h = record { word = h; flags = λ e. absurd (omega arith) }
kept_fits l B w h = record { word = h; flags = λ e. absurd (omega arith) }
kept_fits l L w h = record { word = h; flags = λ e. absurd (omega arith) }
kept_fits l A w h = record { word = h; flags = λ e. absurd (omega arith) }
kept_fits l T w h = record { word = h; flags = λ e. absurd (omega arith) }
kept_fits l X w h = record { word = h; flags = λ e. absurd (omega arith) }

-- a level's register is a word
register_word : {s : State} → StateFits s → (l : ℕ) (r : Register) → register_at s l r < 65536
register_word h l r = (h.regs (place_of l r)).word

-- .. and takes one
put_register_fits : {s : State} → StateFits s → (l : ℕ) (r : Register) (w : ℕ) → w < 65536
    → StateFits (put_register s l r w)
put_register_fits {s} h l r w q = record {
  level = h.level;
  regs_length = length-set s.regs (place_of l r) (kept r w) ∙ h.regs_length;
  regs = set_each Fits s.regs (place_of l r) (kept r w) h.regs (kept_fits l r w q);
  control = h.control;
  pcr_length = h.pcr_length;
  pcr = h.pcr;
}

-- IRW, of which P of the running level takes none
put_other_fits : {s : State} → StateFits s → (l : ℕ) (r : Register) (w : ℕ) → w < 65536 → StateFits (put_other s l r w)
unfolding put_other
put_other_fits {s} h l r w q = either StateFits (eqb (l % 16) s.level && is_p r) h (put_register_fits h l r w q)

-- LRB's registers
put_block_fits : (rs : List Register) {s : State} → StateFits s → (l : ℕ) (ws : List ℕ) → Words ws
    → StateFits (put_block s l rs ws)
put_block_fits [] h l ws w = h
put_block_fits (r ∷ rs) h l [] w = h
put_block_fits (r ∷ rs) h l (x ∷ ws) w = put_block_fits rs (put_other_fits h l r x (w 0)) l ws (λ i. w (suc i))

-- SRB's words
block_words_law : (rs : List Register) {s : State} → StateFits s → (l : ℕ) → Words (block_words s l rs)
block_words_law [] h l = nil_words
block_words_law (r ∷ rs) {s} h l =
    cons_words (register_at s l r) (block_words s l rs) (register_word h l r) (block_words_law rs h l)

-- a level's PCR
put_pcr_fits : {s : State} → StateFits s → (l p : ℕ) → PcrFits p → StateFits (with_pcrs s (set s.pcr l p))
put_pcr_fits {s} h l p q = record {
  level = h.level;
  regs_length = h.regs_length;
  regs = h.regs;
  control = h.control;
  pcr_length = length-set s.pcr l p ∙ h.pcr_length;
  pcr = set_each (λ i. PcrFits) s.pcr l p h.pcr q;
}

-- ---- what leaves the level

-- what a step leaves
pub record TurnFits (r : Turn) : Type 0 where
  pub state : StateFits r.state
  pub lent : LentFits r.memory r.tables

-- .. with references before it
pub counted_turn_fits : (n : ℕ) {r : Turn} → TurnFits r → TurnFits (counted_turn n r)
counted_turn_fits n h = record { state = h.state; lent = h.lent }

-- a block's access that failed
block_failed_fits : {s : State} → StateFits s → (x : Fault) (m t : List ℕ) → FaultFits x
    → LentFits m t → TurnFits (block_failed s (Some x) m t)
block_failed_fits h x m t f k = record { state = with_core_fits h (faulted_fits x f (core_fits h)); lent = k }

-- SRB, with the tables after the block's tests and their first fault
block_stored_fits : {s : State} → StateFits s → (l : ℕ) (m : List ℕ) (r : Tested)
    → LentFits m r.tables → FirstFits r.fault → TurnFits (block_stored s l m r)
unfolding block_stored
block_stored_fits {s} h l m r k f =
    counted_turn_fits r.made
    (after_test_fits TurnFits r.fault f
    (record {
      state = h;
      lent = stored_fits r.places m r.tables (block_words s l block_order) k (block_words_law block_order h l);
    })
    (λ x g. block_failed_fits h x m r.tables g k))

-- LRB
block_loaded_fits : {s : State} → StateFits s → (l : ℕ) (m : List ℕ) (r : Tested)
    → LentFits m r.tables → FirstFits r.fault → TurnFits (block_loaded s l m r)
unfolding block_loaded
block_loaded_fits {s} h l m r k f =
    counted_turn_fits r.made
    (after_test_fits TurnFits r.fault f
    (record {
      state = put_block_fits block_order h l (words_at m r.tables r.places) (read_words k r.places);
      lent = k;
    })
    (λ x g. block_failed_fits h x m r.tables g k))

-- a block's tests
block_tested_fits : (x : AccessKind) (s : State) (m t : List ℕ) → LentFits m t
    → LentFits m (block_tested x s m t).tables
block_tested_fits x s m t k = tested_fits (block_request x s) m t (length m) (rights_of (core_of s)) k

block_fault : (x : AccessKind) (s : State) (m t : List ℕ) → FirstFits (block_tested x s m t).fault
block_fault x s m t = tested_fault (block_request x s) t (length m) (rights_fit (core_of s))

-- MON's number is a word
abbrev pub FarFits : Option Far → Type 0
FarFits None = Unit
FarFits (Some (Call w)) = w < 65536
FarFits (Some (ReadRegister l r)) = Unit
FarFits (Some (WriteRegister l r)) = Unit
FarFits (Some ReadPcr) = Unit
FarFits (Some WritePcr) = Unit
FarFits (Some (StoreBlock l)) = Unit
FarFits (Some (LoadBlock l)) = Unit

-- what the running level left to be done
pub far_fits : {s : State} → StateFits s → (n : ℕ) (m t : List ℕ) (x : Option Far) → FarFits x → LentFits m t
    → TurnFits (far_stage s n m t x)
unfolding far_stage
far_fits h n m t None f k = record { state = h; lent = k }
far_fits h n m t (Some (Call w)) f k = record { state = put_register_fits h 14 T w f; lent = k }
far_fits {s} h n m t (Some (ReadRegister l r)) f k =
    record { state = put_register_fits h s.level A (register_at s l r) (register_word h l r); lent = k }
far_fits {s} h n m t (Some (WriteRegister l r)) f k =
    record { state = put_other_fits h l r (register_at s s.level A) (register_word h s.level A); lent = k }
far_fits {s} h n m t (Some ReadPcr) f k =
    let w : get_or s.pcr (pcr_level s) 0 < 65536 = omega (arith, (h.pcr (pcr_level s)).low) in
    record { state = put_register_fits h s.level A (get_or s.pcr (pcr_level s) 0) w; lent = k }
far_fits {s} h n m t (Some WritePcr) f k =
    let w : ℕ = register_at s s.level A in
    record { state = put_pcr_fits h (pcr_level s) (pcr_mask w) (pcr_mask_fits w); lent = k }
far_fits {s} h n m t (Some (StoreBlock l)) f k =
    block_stored_fits h l m (block_tested Write s m t) (block_tested_fits Write s m t k) (block_fault Write s m t)
far_fits {s} h n m t (Some (LoadBlock l)) f k =
    block_loaded_fits h l m (block_tested Read s m t) (block_tested_fits Read s m t k) (block_fault Read s m t)
