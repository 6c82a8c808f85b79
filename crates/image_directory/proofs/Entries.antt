-- The entries of an image, one by one.
-- Assumes nothing.
use Prim.Native.Nat.{ℕ, suc, ◌+◌, ◌-◌, ◌*◌, ◌≤◌, ◌<◌}
use mathlib.Core.Path.{◌≡◌, sym, ap, ◌∙◌}
use mathlib.Core.Bool.{true, ◌&&◌}
use mathlib.Core.List.{List, [], ◌∷◌}
use native.Mathlib.Omega.{arith}
use native.Mathlib.Nat.{add-zero}
use lib.ListN.{length, get_or, drop}
use lib.Seq.{get_or-drop, drop-drop}
use lib.Dec.{ltb, leb}
use borrow.Author.Tests.{ltb-true, leb-true}
use Rattle.isa.specs.Images.{ImageEntry, high_low, image_entry_of, entries_of, entry_count, contents_fit, named_words}
use Rattle.isa.proofs.Tests.{and_left, and_right}
use Rattle.image_directory.specs.Entries.{image_entry_at, rest_of}

-- ---- reading

-- five words are an entry
pub entry_read : (i : List ℕ) (k s n : ℕ) → s ≡ high_low (get_or i (1 + k * 5 + 1) 0) (get_or i (1 + k * 5 + 2) 0)
    → n ≡ high_low (get_or i (1 + k * 5 + 3) 0) (get_or i (1 + k * 5 + 4) 0)
    → ◌≡◌ {A = ImageEntry} (record { kind = get_or i (1 + k * 5) 0; start = s; count = n }) (image_entry_at k i)
unfolding image_entry_at
entry_read i k s n p q = λ j. record { kind = z j; start = (p ∙ a) j; count = (q ∙ b) j }
  where
    z : get_or i (1 + k * 5) 0 ≡ get_or (drop (1 + k * 5) i) 0 0
    z = ap (λ (x : ℕ). get_or i x 0) (sym (add-zero (1 + k * 5))) ∙ sym (get_or-drop (1 + k * 5) i 0 0)

    a : high_low (get_or i (1 + k * 5 + 1) 0) (get_or i (1 + k * 5 + 2) 0)
        ≡ high_low (get_or (drop (1 + k * 5) i) 1 0) (get_or (drop (1 + k * 5) i) 2 0)
    a = λ j. high_low (sym (get_or-drop (1 + k * 5) i 1 0) j) (sym (get_or-drop (1 + k * 5) i 2 0) j)

    b : high_low (get_or i (1 + k * 5 + 3) 0) (get_or i (1 + k * 5 + 4) 0)
        ≡ high_low (get_or (drop (1 + k * 5) i) 3 0) (get_or (drop (1 + k * 5) i) 4 0)
    b = λ j. high_low (sym (get_or-drop (1 + k * 5) i 3 0) j) (sym (get_or-drop (1 + k * 5) i 4 0) j)

-- the entries from k on: entry k and those after it, or none
pub rest_next : (k n : ℕ) (i : List ℕ) → k < n → rest_of k n i ≡ image_entry_at k i ∷ rest_of (k + 1) n i
unfolding rest_of image_entry_at
rest_next k n i h =
    ap (λ (x : ℕ). entries_of x (drop (1 + k * 5) i)) a
    ∙ ap (λ (x : List ℕ). image_entry_of (drop (1 + k * 5) i) ∷ entries_of (n - (k + 1)) x)
    (drop-drop 5 (1 + k * 5) i ∙ ap (λ (x : ℕ). drop x i) b)
  where
    a : n - k ≡ suc (n - (k + 1))
    a = omega arith

    b : 1 + k * 5 + 5 ≡ 1 + (k + 1) * 5
    b = omega arith

pub rest_end : (k n : ℕ) (i : List ℕ) → n ≤ k → rest_of k n i ≡ []
unfolding rest_of
rest_end k n i h = ap (λ (x : ℕ). entries_of x (drop (1 + k * 5) i)) a
  where
    a : n - k ≡ 0
    a = omega arith

pub rest_start : (n : ℕ) (i : List ℕ) → rest_of 0 n i ≡ entries_of n (drop 1 i)
unfolding rest_of
rest_start n i = ap (λ (x : ℕ). entries_of x (drop 1 i)) q
  where
    q : n - 0 ≡ n
    q = omega arith

-- ---- contents

module _ (i : List ℕ) where
  -- what contents that fit say
  module _ (h : contents_fit i ≡ true) where
    first_two : (ltb 0 (length i) && leb (entry_count i) 32) ≡ true
    unfolding contents_fit
    first_two = and_left (ltb 0 (length i) && leb (entry_count i) 32) (leb (1 + entry_count i * 5) (length i)) h

    pub contents_some : 0 < length i
    contents_some = ltb-true 0 (length i) (and_left (ltb 0 (length i)) (leb (entry_count i) 32) first_two)

    pub contents_few : get_or i 0 0 ≤ 32
    contents_few = leb-true (entry_count i) 32 (and_right (ltb 0 (length i)) (leb (entry_count i) 32) first_two)

    pub contents_whole : get_or i 0 0 * 5 + 1 ≤ length i
    unfolding contents_fit
    contents_whole =
        let q = leb-true (1 + entry_count i * 5) (length i)
        (and_right (ltb 0 (length i) && leb (entry_count i) 32) (leb (1 + entry_count i * 5) (length i)) h) in
        omega arith

-- ---- the words named

pub named_next : (k n : ℕ) (i : List ℕ) → k < n
    → named_words (rest_of k n i) ≡ (image_entry_at k i).count + named_words (rest_of (k + 1) n i)
named_next k n i h = ap named_words (rest_next k n i h)

pub named_end : (k n : ℕ) (i : List ℕ) → n ≤ k → named_words (rest_of k n i) ≡ 0
named_end k n i h = ap named_words (rest_end k n i h)
