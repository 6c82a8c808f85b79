-- Overlap, refusals entry by entry, and bodies.
-- Assumes nothing.
use Prim.Native.Nat.{ℕ, suc, ◌+◌, ◌-◌, ◌≤◌, ◌<◌}
use mathlib.Core.Path.{◌≡◌, refl, sym, ap, ◌∙◌}
use mathlib.Core.Bool.{Bool, true, false, cond, not, ◌||◌}
use mathlib.Core.List.{List, [], ◌∷◌}
use native.Mathlib.Omega.{arith}
use native.Mathlib.Numerals.{add-one}
use lib.ListN.{drop}
use lib.Dec.{ltb}
use borrow.Author.Tests.{ltb-false}
use Rattle.isa.specs.Images.{ImageEntry, entries_of, known_kind, size_of, meets, meets_any, entries_answer}
use Rattle.isa.specs.declared.answer.Refusal.{Refusal}
use Rattle.isa.specs.declared.answer.Refusal.TheVariants.{Kind, Target, Overlap}
use Rattle.std.specs.declared.result.Result.TheVariants.{Ok, Err}
use Rattle.isa.specs.Answers.{Answer}
use Rattle.image_directory.specs.declared.entry.Kind.{Kind as EntryKind}
use Rattle.image_directory.specs.declared.entry.Kind.TheVariants.{Memory, Registers, Control, Tables, Devices}
use Rattle.image_directory.specs.Entries.{kind_number, image_entry_at, rest_of}
use Rattle.image_directory.proofs.Entries.{rest_next, rest_end, rest_start}
use Rattle.image_directory.specs.Listing.{seen_of, entry_answer}

-- one more seen
pub seen_next : (k : ℕ) (i : List ℕ) → seen_of (k + 1) i ≡ image_entry_at k i ∷ seen_of k i
unfolding seen_of
seen_next k i = ap (λ (x : ℕ). seen_of x i) (add-one k)

-- ---- overlap

module _ (e : ImageEntry) (k : ℕ) (i : List ℕ) (h : 0 < k) where
  any_split : meets_any e (seen_of k i) ≡ (meets e (image_entry_at (k - 1) i) || meets_any e (seen_of (k - 1) i))
  unfolding seen_of
  any_split = ap (λ (x : ℕ). meets_any e (seen_of x i)) a
    where
      a : k ≡ suc (k - 1)
      a = omega arith

  pub any_found : meets e (image_entry_at (k - 1) i) ≡ true → meets_any e (seen_of k i) ≡ true
  any_found q = any_split ∙ ap (λ (b : Bool). b || meets_any e (seen_of (k - 1) i)) q

  pub any_next : meets e (image_entry_at (k - 1) i) ≡ false
      → meets_any e (seen_of k i) ≡ meets_any e (seen_of (k - 1) i)
  any_next q = any_split ∙ ap (λ (b : Bool). b || meets_any e (seen_of (k - 1) i)) q

pub any_none : (e : ImageEntry) (k : ℕ) (i : List ℕ) → k ≤ 0 → meets_any e (seen_of k i) ≡ false
unfolding seen_of
any_none e k i h = ap (λ (x : ℕ). meets_any e (seen_of x i)) a
  where
    a : k ≡ 0
    a = omega arith

-- ---- answers

-- the number of a kind is known
pub kind_known : (k : EntryKind) → known_kind (kind_number k) ≡ true
kind_known Memory = refl
kind_known Registers = refl
kind_known Control = refl
kind_known Tables = refl
kind_known Devices = refl

-- the answer to the rest, where the first is not refused
abbrev pub then : Answer → Answer → Answer
then (Ok _) x = x
then (Err r) x = Err r

-- the first entry's answer, then those of the rest
pub entries_split : (words : ℕ) (seen : List ImageEntry) (e : ImageEntry) (es : List ImageEntry)
    → entries_answer words seen (e ∷ es) ≡ then (entry_answer words seen e) (entries_answer words (e ∷ seen) es)
unfolding entry_answer
entries_split words seen e es =
    go (known_kind e.kind) (ltb (size_of words e.kind) (e.start + e.count)) (meets_any e seen)
    (entries_answer words (e ∷ seen) es)
  where
    go : (a b c : Bool) (x : Answer)
        → cond (not a) (Err Kind) (cond b (Err Target) (cond c (Err Overlap) x))
        ≡ then (cond (not a) (Err Kind) (cond b (Err Target) (cond c (Err Overlap) (Ok tt)))) x
    go false b c x = refl
    go true true c x = refl
    go true false true x = refl
    go true false false x = refl

-- an entry that is not refused lies in its target, and then the rest are not
pub entry_passed : (words : ℕ) (seen : List ImageEntry) (e : ImageEntry) (es : List ImageEntry)
    → entries_answer words seen (e ∷ es) ≡ Ok tt
    → (e.start + e.count ≤ size_of words e.kind) × (entries_answer words (e ∷ seen) es ≡ Ok tt)
entry_passed words seen e es p =
    go (known_kind e.kind) (ltb (size_of words e.kind) (e.start + e.count)) (meets_any e seen) refl p
  where
    go : (a b c : Bool) → ltb (size_of words e.kind) (e.start + e.count) ≡ b
        → ◌≡◌ {A = Answer} (cond (not a) (Err Kind)
        (cond b (Err Target) (cond c (Err Overlap) (entries_answer words (e ∷ seen) es)))) (Ok tt)
        → (e.start + e.count ≤ size_of words e.kind) × (entries_answer words (e ∷ seen) es ≡ Ok tt)
    go false b c l d = cc
    go true true c l d = cc
    go true false true l d = cc
    go true false false l d = (ltb-false (size_of words e.kind) (e.start + e.count) l, d)

module _ (words k n : ℕ) (i : List ℕ) where
  at_k : k < n → entries_answer words (seen_of k i) (rest_of k n i)
      ≡ then (entry_answer words (seen_of k i) (image_entry_at k i))
      (entries_answer words (seen_of (k + 1) i) (rest_of (k + 1) n i))
  at_k h =
      ap (entries_answer words (seen_of k i)) (rest_next k n i h)
      ∙ entries_split words (seen_of k i) (image_entry_at k i) (rest_of (k + 1) n i)
      ∙ ap (λ (x : List ImageEntry). then (entry_answer words (seen_of k i) (image_entry_at k i))
      (entries_answer words x (rest_of (k + 1) n i))) (sym (seen_next k i))

  pub entries_pass : k < n → entry_answer words (seen_of k i) (image_entry_at k i) ≡ Ok tt
      → entries_answer words (seen_of k i) (rest_of k n i)
      ≡ entries_answer words (seen_of (k + 1) i) (rest_of (k + 1) n i)
  entries_pass h e =
      at_k h ∙ ap (λ (x : Answer). then x (entries_answer words (seen_of (k + 1) i) (rest_of (k + 1) n i))) e

  pub entries_stop : (r : Refusal) → k < n → entry_answer words (seen_of k i) (image_entry_at k i) ≡ Err r
      → entries_answer words (seen_of k i) (rest_of k n i) ≡ Err r
  entries_stop r h e =
      at_k h ∙ ap (λ (x : Answer). then x (entries_answer words (seen_of (k + 1) i) (rest_of (k + 1) n i))) e

  pub entries_end : n ≤ k → entries_answer words (seen_of k i) (rest_of k n i) ≡ Ok tt
  entries_end h = ap (entries_answer words (seen_of k i)) (rest_end k n i h)

pub entries_start : (words n : ℕ) (i : List ℕ)
    → entries_answer words (seen_of 0 i) (rest_of 0 n i) ≡ entries_answer words [] (entries_of n (drop 1 i))
unfolding seen_of
entries_start words n i = ap (entries_answer words []) (rest_start n i)
