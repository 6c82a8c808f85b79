-- The running level's words in the state: taken out, put back, and both in a row.
-- Assumes nothing.
use Rattle.isa.specs.Machine.{level_count, register_words, control_of, state_with}
use Rattle.std.proofs.Common.{◌≡◌, ℕ, suc, ◌+◌, ◌*◌, ◌<◌, List, [], ◌∷◌, ◌++◌, length, get_or, take, drop, set, sym, refl, ap, ◌∙◌, append_assoc, le_refl, add-one, arith, length-set, take-append-drop, length-take-le, get_or-drop, drop-cons, get_or-set_same, take-take, take_at, drop-set-lt, take-add, drop_at, set-set}
use lib.Seq.{paste, length-paste}
use lib.Seq.{drop-paste, set-get_or, take-set-le, drop-set-add, take-set-lt}
use Rattle.isa.specs.Machine.{number, reg, with_reg, file_by, file_words, file_at, put_file, core_of, pack, with_core}
use Rattle.isa.specs.declared.machine.File.{File}
use Rattle.isa.specs.declared.machine.Register.{Register}
use Rattle.isa.specs.declared.machine.Register.TheVariants.{Sts, D, P, B, L, A, T, X}
use Rattle.isa.specs.declared.machine.Control.{Control}
use Rattle.isa.specs.declared.machine.Core.{Core}
use Rattle.isa.specs.declared.machine.State.{State}

-- ---- a level's eight words among 128

-- a write to the file is a write to its words
pub words_with : (f : File) (r : Register) (v : ℕ) → file_words (with_reg f r v) ≡ set (file_words f) (number r) v
words_with f Sts v = refl
words_with f D v = refl
words_with f P v = refl
words_with f B v = refl
words_with f L v = refl
words_with f A v = refl
words_with f T v = refl
words_with f X v = refl

-- a register among its file's words, whatever follows them
pub word_of : (f : File) (ws : List ℕ) (r : Register) → get_or (file_words f ++ ws) (number r) 0 ≡ reg f r
word_of f ws Sts = refl
word_of f ws D = refl
word_of f ws P = refl
word_of f ws B = refl
word_of f ws L = refl
word_of f ws A = refl
word_of f ws T = refl
word_of f ws X = refl

module _ (b : List ℕ) (l : ℕ) (h : l < level_count) (e : length b ≡ register_words) where
  pub put_length : (f : File) → length (put_file b l f) ≡ register_words
  unfolding put_file
  put_length f = length-paste b (l * 8) (file_words f) 8 (omega arith) (le_refl 8) ∙ e

  -- the words from the level's on
  put_drop : (f : File) → drop (l * 8) (put_file b l f) ≡ file_words f ++ drop (l * 8 + 8) b
  unfolding put_file
  put_drop f =
      let front : List ℕ = take (l * 8) b in
      let rest : List ℕ = drop (l * 8 + 8) b in
      ap (drop (l * 8)) (append_assoc front (file_words f) rest)
      ∙ drop_at front (file_words f ++ rest) (l * 8) (length-take-le (l * 8) b (omega arith))

  pub take_put : (f : File) → file_at (put_file b l f) l ≡ f
  unfolding file_at
  take_put f =
      let q : (r : Register) → get_or (put_file b l f) (l * 8 + number r) 0 ≡ reg f r =
      λ r. sym (get_or-drop (l * 8) (put_file b l f) (number r) 0)
      ∙ ap (λ (x : List ℕ). get_or x (number r) 0) (put_drop f)
      ∙ word_of f (drop (l * 8 + 8) b) r in
      λ i. file_by (λ r. q r i)

  pub put_put : (f g : File) → put_file (put_file b l f) l g ≡ put_file b l g
  unfolding put_file
  put_put f g =
      let front : List ℕ = take (l * 8) b in
      let rest : List ℕ = drop (l * 8 + 8) b in
      let p : take (l * 8) (paste b (l * 8) (file_words f) 8) ≡ front =
      ap (take (l * 8)) (append_assoc front (file_words f) rest)
      ∙ take_at front (file_words f ++ rest) (l * 8) (length-take-le (l * 8) b (omega arith)) in
      let q : drop (l * 8 + 8) (paste b (l * 8) (file_words f) 8) ≡ rest =
      drop-paste b (l * 8) (file_words f) 8 (omega arith) (le_refl 8) in
      λ i. p i ++ file_words g ++ q i

  -- one word more in front
  front : (i j n : ℕ) → j ≡ i + 1 → i < 128 → (ws : List ℕ) → ws ≡ take n (drop j b)
      → get_or b i 0 ∷ ws ≡ take (suc n) (drop i b)
  front i j n q k ws w =
      ap (λ (x : List ℕ). get_or b i 0 ∷ x) w
      ∙ sym
      (ap (take (suc n)) (drop-cons b i 0 (omega arith))
      ∙ ap (λ (x : ℕ). get_or b i 0 ∷ take n (drop x b)) (sym (q ∙ add-one i)))

  pub words_at_law : file_words (file_at b l) ≡ take 8 (drop (l * 8) b)
  unfolding file_at
  words_at_law =
      let i : ℕ = l * 8 in
      let z : i + 0 ≡ i = omega arith in
      front (i + 0) (i + 1) 7 (omega arith) (omega arith) _
      (front (i + 1) (i + 2) 6 (omega arith) (omega arith) _
      (front (i + 2) (i + 3) 5 (omega arith) (omega arith) _
      (front (i + 3) (i + 4) 4 (omega arith) (omega arith) _
      (front (i + 4) (i + 5) 3 (omega arith) (omega arith) _
      (front (i + 5) (i + 6) 2 (omega arith) (omega arith) _
      (front (i + 6) (i + 7) 1 (omega arith) (omega arith) _
      (front (i + 7) (i + 8) 0 (omega arith) (omega arith) [] refl)))))))
      ∙ ap (λ (x : ℕ). take 8 (drop x b)) z

  pub put_take : put_file b l (file_at b l) ≡ b
  unfolding put_file
  put_take =
      ap (λ (x : List ℕ). take (l * 8) b ++ take 8 x ++ drop (l * 8 + 8) b) words_at_law
      ∙ ap (λ (x : List ℕ). take (l * 8) b ++ x ++ drop (l * 8 + 8) b) (take-take 8 8 (drop (l * 8) b) (omega arith))
      ∙ ap (λ (x : List ℕ). x ++ drop (l * 8 + 8) b) (sym (take-add (l * 8) 8 b))
      ∙ take-append-drop (l * 8 + 8) b

-- a level's registers among all

pub register_at_law : (b : List ℕ) (l : ℕ) (r : Register) → get_or b (l * 8 + number r) 0 ≡ reg (file_at b l) r
unfolding file_at
register_at_law b l Sts = refl
register_at_law b l D = refl
register_at_law b l P = refl
register_at_law b l B = refl
register_at_law b l L = refl
register_at_law b l A = refl
register_at_law b l T = refl
register_at_law b l X = refl

number_small : (r : Register) → number r < 8
number_small Sts = omega arith
number_small D = omega arith
number_small P = omega arith
number_small B = omega arith
number_small L = omega arith
number_small A = omega arith
number_small T = omega arith
number_small X = omega arith

module _ (b : List ℕ) (l : ℕ) (h : l < level_count) (e : length b ≡ register_words) where
  -- a register is set in the level's file, and nowhere else
  pub register_set : (r : Register) (v : ℕ) → set b (l * 8 + number r) v ≡ put_file b l (with_reg (file_at b l) r v)
  unfolding put_file
  register_set r v =
      let n = number_small r in
      let i : ℕ = l * 8 + number r in
      let d : List ℕ = set b i v in
      let k : length d ≡ register_words = length-set b i v ∙ e in
      let front : take (l * 8) d ≡ take (l * 8) b = take-set-le (l * 8) b i v (omega arith) in
      let rest : drop (l * 8 + 8) d ≡ drop (l * 8 + 8) b = drop-set-lt (l * 8 + 8) b i v (omega (arith, n)) in
      let words : file_words (file_at d l) ≡ file_words (with_reg (file_at b l) r v) =
      words_at_law d l h k
      ∙ ap (take 8) (drop-set-add (l * 8) b (number r) v)
      ∙ take-set-lt 8 (drop (l * 8) b) (number r) v n
      ∙ ap (λ (ws : List ℕ). set ws (number r) v) (sym (words_at_law b l h e))
      ∙ sym (words_with (file_at b l) r v) in
      sym (put_take d l h k) ∙ λ j. front j ++ take 8 (words j) ++ rest j

-- ---- the running level in the state

module _ (l : ℕ) (c : Core) (b p : List ℕ) (h : l < level_count) (e : length b ≡ register_words)
    (k : length p ≡ level_count) where
  pub open_pack : core_of (pack l c b p) ≡ c
  open_pack =
      let f = take_put b l h e c.file in
      let q = get_or-set_same p l c.pcr 0 (omega arith) in
      λ i. record { file = f i; pcr = q i; control = c.control }

  pub pack_pack : (d : Core) → with_core (pack l c b p) d ≡ pack l d b p
  pack_pack d =
      let r = put_put b l h e c.file d.file in
      let q = set-set p l c.pcr d.pcr in
      λ i. state_with l d.control (r i) (q i)

pub pack_open : (s : State) → s.level < level_count → length s.regs ≡ register_words → with_core s (core_of s) ≡ s
pack_open s h e =
    let r = put_take s.regs s.level h e in
    let q = set-get_or s.pcr s.level 0 in
    λ i. state_with s.level (control_of s) (r i) (q i)

-- a state of its own parts is the state, the control words by whatever is equal to them
pub parts_state : (s : State) {k : Control} → k ≡ control_of s → state_with s.level k s.regs s.pcr ≡ s
parts_state s e = λ i. state_with s.level (e i) s.regs s.pcr
