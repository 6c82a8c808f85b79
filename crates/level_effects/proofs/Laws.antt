-- Laws of what a step leaves, and of register blocks.
-- Assumes nothing.
use Rattle.isa.specs.Machine.{level_count, register_words}
use Prim.Native.Nat.{ℕ, ◌%◌, ◌<◌}
use native.Mathlib.Nat.{add-zero}
use native.Mathlib.Omega.{arith}
use mathlib.Core.Path.{◌≡◌, refl, sym, ap, subst, ◌∙◌}
use mathlib.Core.Bool.{Bool, true, false, cond, ◌&&◌}
use mathlib.Core.List.{List, [], ◌∷◌, map}
use lib.Dec.{eqb}
use lib.ListN.{length}
use Rattle.isa.specs.Machine.{reg, with_reg, file_at, put_file, pack, with_core}
use Rattle.std.specs.declared.option.Option.TheVariants.{None, Some}
use Rattle.std.specs.declared.result.Result.TheVariants.{Ok, Err}
use Rattle.isa.specs.Pages.{fault_number, Tested, test_all, words_at, store_all, Lent, rights_of}
use Rattle.isa.specs.Step.{Turn, turn, counted_turn, faulted, with_regs, kept, is_p, put_register, put_other, block_order}
use Rattle.isa.specs.Step.{block_from, block_words, put_block, block_failed, block_stored, block_loaded, block_tested}
use Rattle.isa.specs.declared.access.AccessKind.{AccessKind}
use Rattle.isa.specs.declared.access.AccessKind.TheVariants.{Write}
use Rattle.isa.specs.declared.machine.Core.{Core}
use Rattle.isa.specs.declared.machine.File.{File}
use Rattle.isa.specs.declared.machine.Register.{Register}
use Rattle.isa.specs.declared.machine.Register.TheVariants.{X}
use Rattle.isa.specs.declared.machine.State.{State}
use Rattle.isa.proofs.Packing.{put_put, put_take, open_pack, pack_pack}
use Rattle.isa.specs.declared.access.Place.{Place}
use Rattle.paging.specs.declared.failure.Failure.{Failure}
use Rattle.paging.proofs.Outcomes.{made_all}
use Rattle.memory_words.specs.Accesses.{AllStoring}
use Rattle.memory_words.specs.Blocks.{list_of}
use Rattle.memory_words.proofs.StoreLaws.{all_stored}
use Rattle.isa.proofs.Packing.{register_at_law}
use Rattle.levels.specs.Changes.{advanced_turn}
use Rattle.levels.specs.declared.change.Advanced.{Advanced}
use Rattle.levels.proofs.TransferLaws.{put_set, own_register}
use Rattle.level_effects.specs.Blocks.{BlockTest, with_block}
use Rattle.level_effects.specs.Leaving.{leaving}

-- a turn in which so many references were made
abbrev pub turn_with : ℕ → State → ℕ → List ℕ → List ℕ → Turn
turn_with made s n m t = record { state = s; gave = n; memory = m; tables = t; references = made }

turn_counted : (made : ℕ) (s : State) (n : ℕ) (m t : List ℕ)
    → turn_with made s n m t ≡ counted_turn made (turn s n m t)
turn_counted made s n m t = ap (λ (k : ℕ). turn_with k s n m t) (sym (add-zero made))

-- the registers of a level in the order of a list
pub level_words :
    (s : State) (b : List ℕ) (l : ℕ) (rs : List Register)
    → map (reg (file_at b (l % 16))) rs ≡ block_words (with_regs s b) l rs
level_words s b l [] = refl
level_words s b l (r ∷ rs) =
    let q = sym (register_at_law b (l % 16) r) in
    let n = level_words s b l rs in
    λ i. q i ∷ n i

-- a word goes to a register of a level in its file
module _ (s : State) (b : List ℕ) (e : length b ≡ register_words) (l : ℕ) where
  abbrev own : Bool
  own = eqb (l % 16) s.level

  abbrev put : File → State
  put f = with_regs s (put_file b (l % 16) f)

  other_file : (f : File) (r : Register) (w : ℕ)
      → put_other (put f) l r w ≡ put (cond (own && is_p r) f (with_reg f r (kept r w)))
  unfolding put_other
  other_file f r w = go (own && is_p r)
    where
      go : (x : Bool) → cond x (put f) (put_register (put f) l r w) ≡ put (cond x f (with_reg f r (kept r w)))
      go true = refl
      go false = ap (with_regs s) (put_set b (l % 16) (omega arith) e f r (kept r w))

  -- .. and words to registers, one after the other
  file_block : (f : File) (rs : List Register) (ws : List ℕ) → put_block (put f) l rs ws ≡ put (with_block own f rs ws)
  file_block f [] ws = refl
  file_block f (r ∷ rs) [] = refl
  file_block f (r ∷ rs) (w ∷ ws) =
      ap (λ (x : State). put_block x l rs ws) (other_file f r w)
      ∙ file_block (cond (own && is_p r) f (with_reg f r (kept r w))) rs ws

  pub level_block : (ws : List ℕ)
      → put (with_block own (file_at b (l % 16)) block_order ws) ≡ put_block (with_regs s b) l block_order ws
  level_block ws =
      let h : l % 16 < 16 = omega arith in
      sym (file_block (file_at b (l % 16)) block_order ws)
      ∙ ap (λ (x : List ℕ). put_block (with_regs s x) l block_order ws) (put_take b (l % 16) h e)

-- all accesses of a block to be stored passed: its places are to store to
pub block_storing : (l : ℕ) (c : Core) (b : List ℕ) (words : ℕ) (t : List ℕ) (ps : List Place) (d u : List ℕ)
    → BlockTest l c Write b words t (Ok ps) d u → AllStoring ps
block_storing l c b words t ps d u x =
    subst AllStoring x.outcome.1 (all_stored t words (rights_of c) true (reg c.file X) 8)

-- the running level's registers were put back for a block's test
module _ (l : ℕ) (c : Core) (q : AccessKind) (b m t d u p : List ℕ) (k : length p ≡ level_count) where
  abbrev state : State
  state = pack l c b p

  abbrev test : Tested
  test = block_tested q state m t

  -- the test by the words in hand
  abbrev here : Tested
  here = test_all t (length m) (rights_of c) (block_from q (reg c.file X) block_order)

  put_back : d ≡ put_file b l c.file → l < level_count → length b ≡ register_words → (n : Core)
      → pack l n d p ≡ pack l n b p
  put_back put level registers n =
      ap (λ (v : List ℕ). pack l n v p) put
      ∙ ap (with_regs (pack l n b p)) (put_put b l level registers c.file n.file)

  tested_here : l < level_count → length b ≡ register_words → test ≡ here
  tested_here level registers =
      let o = open_pack l c b p level registers k in
      let a = own_register l c b p level registers X in
      λ i. test_all t (length m) (rights_of (o i)) (block_from q (a i) block_order)

  -- all accesses passed
  module _ (ps : List Place) (x : BlockTest l c q b (length m) t (Ok ps) d u) (n : ℕ) where
    passed_test : test ≡ record { tables = u; places = ps; fault = None; made = 8 }
    passed_test =
        let made = made_all t (length m) (rights_of c) (block_from q (reg c.file X) block_order) x.outcome.0 in
        tested_here x.level x.registers
        ∙ λ i. record { tables = sym x.tables i; places = x.outcome.1 i; fault = x.outcome.0 i; made = made i }

    pub block_to_memory : (w : File) → w ≡ file_at d (n % 16) → (j : Lent) → j ≡ store_all m u ps (list_of w)
        → turn_with 8 (pack l c d p) 0 j.memory j.tables ≡ block_stored state n m test
    unfolding block_stored
    block_to_memory w y j z =
        let words =
        ap list_of y
        ∙ level_words state d n block_order
        ∙ ap (λ (v : List ℕ). block_words (with_regs state v) n block_order) x.put in
        ap (λ (s : State). turn_with 8 s 0 j.memory j.tables) (put_back x.put x.level x.registers c)
        ∙ ap (λ (v : Lent). turn_with 8 state 0 v.memory v.tables) (z ∙ ap (store_all m u ps) words)
        ∙ turn_counted 8 state 0 _ _
        ∙ sym (ap (block_stored state n m) passed_test)

    pub block_from_memory : (ws : List ℕ) → ws ≡ words_at m u ps → (s : State)
        → s ≡ put_block (with_regs state d) n block_order ws
        → turn_with 8 s 0 m u ≡ block_loaded state n m test
    unfolding block_loaded
    block_from_memory ws y s z =
        ap (λ (s : State). turn_with 8 s 0 m u)
        (z ∙ λ i. put_block (with_regs state (x.put i)) n block_order (y i))
        ∙ turn_counted 8 _ 0 m u
        ∙ sym (ap (block_loaded state n m) passed_test)

  -- one failed: neither SRB nor LRB moves a word
  module _ (e : Failure) (x : BlockTest l c q b (length m) t (Err e) d u) (n : ℕ) where
    fault_here : test.fault ≡ Some e.fault
    fault_here = ap (λ (v : Tested). v.fault) (tested_here x.level x.registers) ∙ x.outcome.0

    abbrev left : Core
    left = faulted (Some e.fault) c

    failed_here : turn (pack l left d p) (fault_number e.fault) m u ≡ block_failed state (Some e.fault) m test.tables
    failed_here =
        let z = ap (λ (v : Tested). v.tables) (tested_here x.level x.registers) ∙ sym x.tables in
        let opened = open_pack l c b p x.level x.registers k in
        ap (λ (s : State). turn s (fault_number e.fault) m u) (put_back x.put x.level x.registers left)
        ∙ sym ((λ i. block_failed state (Some e.fault) m (z i))
        ∙ ap (λ (v : Core). turn (with_core state (faulted (Some e.fault) v)) (fault_number e.fault) m u) opened
        ∙ ap (λ (s : State). turn s (fault_number e.fault) m u) (pack_pack l c b p x.level x.registers k left))

    pub not_moved : (y : Advanced) (j : ℕ) → y ≡ leaving l j left e.made (fault_number e.fault)
        → (advanced_turn y d p m u ≡ block_stored state n m test)
        × (advanced_turn y d p m u ≡ block_loaded state n m test)
    unfolding block_stored block_loaded
    not_moved y j z =
        let made = sym (ap (λ (v : Tested). v.made) (tested_here x.level x.registers) ∙ x.outcome.1) in
        let f =
        ap (λ (y : Advanced). advanced_turn y d p m u) z
        ∙ turn_counted e.made (pack l left d p) (fault_number e.fault) m u
        ∙ (λ i. counted_turn (made i) (failed_here i)) in
        (rw fault_here f, rw fault_here f)
