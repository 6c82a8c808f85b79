-- What holds of the word at each place of a list, by the place, and is kept where parts of the list are taken or
-- replaced.
-- Assumes nothing.
use Prim.Native.Nat.{ℕ, zero, suc, ◌+◌, ◌<◌}
use native.Mathlib.Nat.{add-zero, add-suc, suc-add}
use native.Mathlib.Omega.{arith}
use mathlib.Core.Path.{◌≡◌, sym, subst, ◌∙◌}
use mathlib.Core.List.{List, [], ◌∷◌, ◌++◌}
use lib.ListN.{get_or, set, take, drop, length}
use lib.Seq.{get_or-drop, sets, sets-eq, take_all, paste}
use Rattle.isa.specs.Machine.{Words}

-- each place of the list has a word that fits it
abbrev pub Each : (ℕ → ℕ → Type 0) → List ℕ → Type 0
Each Q l = (i : ℕ) → Q i (get_or l i 0)

-- a word that fits its place may be stored
pub set_each : (Q : ℕ → ℕ → Type 0) (l : List ℕ) (i v : ℕ) → Each Q l → Q i v → Each Q (set l i v)
set_each Q [] i v h q j = h j
set_each Q (x ∷ xs) zero v h q zero = q
set_each Q (x ∷ xs) zero v h q (suc j) = h (suc j)
set_each Q (x ∷ xs) (suc i) v h q zero = h zero
set_each Q (x ∷ xs) (suc i) v h q (suc j) = set_each (λ k. Q (suc k)) xs i v (λ k. h (suc k)) q j

-- words that fit may be stored from a place on
pub sets_each : (Q : ℕ → ℕ → Type 0) (vs l : List ℕ) (i : ℕ) → Each Q l → Each (λ k. Q (i + k)) vs
    → Each Q (sets l i vs)
sets_each Q [] l i h q = h
sets_each Q (v ∷ vs) l i h q =
    sets_each Q vs (set l i v) (suc i) (set_each Q l i v h (subst (λ (k : ℕ). Q k v) (add-zero i) (q zero)))
    (λ k. subst (λ (j : ℕ). Q j (get_or vs k 0)) (add-suc i k ∙ sym (suc-add i k)) (q (suc k)))

-- words that fit may be taken from the front; past the end of a list is 0, which is to fit
pub take_each : (Q : ℕ → ℕ → Type 0) (n : ℕ) (l : List ℕ) → ((i : ℕ) → Q i 0) → Each Q l → Each Q (take n l)
take_each Q zero l z h i = z i
take_each Q (suc n) [] z h i = z i
take_each Q (suc n) (x ∷ xs) z h zero = h zero
take_each Q (suc n) (x ∷ xs) z h (suc i) = take_each (λ k. Q (suc k)) n xs (λ k. z (suc k)) (λ k. h (suc k)) i

-- .. and from a place on
pub drop_each : (Q : ℕ → ℕ → Type 0) (n : ℕ) (l : List ℕ) → Each Q l → Each (λ k. Q (n + k)) (drop n l)
drop_each Q n l h i = subst (λ (v : ℕ). Q (n + i) v) (sym (get_or-drop n l i 0)) (h (n + i))

-- a whole list pasted into another is its words stored one by one
pub paste_each : (Q : ℕ → ℕ → Type 0) (b : List ℕ) (i : ℕ) (vs : List ℕ) (n : ℕ) → length vs ≡ n
    → i + n < suc (length b)
    → Each Q b → Each (λ k. Q (i + k)) vs → Each Q (paste b i vs n)
paste_each Q b i vs n e f h q =
    subst (Each Q)
    (sets-eq vs b i (omega arith) ∙ (λ j. take i b ++ sym (take_all n vs (omega arith)) j ++ drop (i + e j) b))
    (sets_each Q vs b i h q)

-- ---- words

-- a word may be stored anywhere among words
pub set_words : (l : List ℕ) (i v : ℕ) → Words l → v < 65536 → Words (set l i v)
set_words = set_each (λ i v. v < 65536)

-- no words, and one word before others
pub nil_words : Words []
nil_words i = omega arith

pub cons_words : (x : ℕ) (xs : List ℕ) → x < 65536 → Words xs → Words (x ∷ xs)
cons_words x xs h w zero = h
cons_words x xs h w (suc i) = w i

-- .. and words behind others
pub append_words : (xs ys : List ℕ) → Words xs → Words ys → Words (xs ++ ys)
append_words [] ys h w = w
append_words (x ∷ xs) ys h w = cons_words x (xs ++ ys) (h 0) (append_words xs ys (λ i. h (suc i)) w)
