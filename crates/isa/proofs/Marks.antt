-- What a mark leaves of an entry: all but its marks.
-- Assumes nothing.
use Rattle.std.proofs.Common.{◌≡◌, ℕ, ◌+◌, ◌*◌, ◌/◌, ◌%◌, ◌<◌, Bool, true, false, eqb, List, length, get_or, set, refl, ap, ◌∙◌, arith, get_or-set_other, get_or-set_same, eq-eqb, eqb-true}
use native.Mathlib.Decide.{dec_lt, ℕ_discrete}
use lib.Seq.{set-get_or, set_out}
use Rattle.isa.specs.Pages.{Entry, entry_of, entry_at, first_word, last_word, page_numbers, mark_of, with_mark}
use Rattle.isa.specs.Isolation.{MarksAlone}
use Rattle.isa.specs.declared.access.AccessKind.{AccessKind}
use Rattle.isa.specs.declared.access.AccessKind.TheVariants.{Fetch, Read, Write, Indirect}
use Rattle.isa.proofs.Tables.{Lasting}

-- the entries of t, all of one form, are those of t₀ but for their marks
abbrev pub Marked : Bool → List ℕ → List ℕ → Type 0
Marked form t t₀ = (i : ℕ) → MarksAlone (entry_at form t i) (entry_at form t₀ i)

pub same_entry : (e : Entry) → MarksAlone e e
same_entry e = record { write = refl; read = refl; fetch = refl; ring = refl; page = refl }

then_entry : (e f g : Entry) → MarksAlone e f → MarksAlone f g → MarksAlone e g
then_entry e f g p q = record {
  write = p.write ∙ q.write;
  read = p.read ∙ q.read;
  fetch = p.fetch ∙ q.fetch;
  ring = p.ring ∙ q.ring;
  page = p.page ∙ q.page;
}

-- a word whose bits 15-13 and 10-0 are those of another
like_write : (e f : ℕ) → e / 8192 ≡ f / 8192 → e / 32768 % 2 ≡ f / 32768 % 2
like_write e f q = omega arith

like_read : (e f : ℕ) → e / 8192 ≡ f / 8192 → e / 16384 % 2 ≡ f / 16384 % 2
like_read e f q = omega arith

like_ring : (e f : ℕ) → e % 2048 ≡ f % 2048 → e / 512 % 4 ≡ f / 512 % 4
like_ring e f q = omega arith

-- .. makes an entry that differs in its marks alone, if the page is the same
like_word : (e f p q : ℕ) → e / 8192 ≡ f / 8192 → e % 2048 ≡ f % 2048 → p ≡ q → MarksAlone (entry_of e p) (entry_of f q)
like_word e f p q h l same = record {
  write = ap (λ (x : ℕ). eqb x 1) (like_write e f h);
  read = ap (λ (x : ℕ). eqb x 1) (like_read e f h);
  fetch = ap (λ (x : ℕ). eqb (x % 2) 1) h;
  ring = like_ring e f l;
  page = same;
}

-- a mark changes marks alone
mark_top : (k : AccessKind) (e : ℕ) → mark_of k e / 8192 ≡ e / 8192
mark_top Fetch e = omega arith
mark_top Read e = omega arith
mark_top Write e = omega arith
mark_top Indirect e = omega arith

mark_low : (k : AccessKind) (e : ℕ) → mark_of k e % 2048 ≡ e % 2048
mark_low Fetch e = omega arith
mark_low Read e = omega arith
mark_low Write e = omega arith
mark_low Indirect e = omega arith

-- the words of t are those of u but for marks in the word i
record ButMarks (i : ℕ) (t u : List ℕ) : Type 0 where
  top : (j : ℕ) → get_or t j 0 / 8192 ≡ get_or u j 0 / 8192
  low : (j : ℕ) → get_or t j 0 % 2048 ≡ get_or u j 0 % 2048
  other : (j : ℕ) → (j ≡ i → ⊥) → get_or t j 0 ≡ get_or u j 0

mark_words : (t : List ℕ) (i : ℕ) (k : AccessKind) → ButMarks i (set t i (mark_of k (get_or t i 0))) t
mark_words t i k = record {
  top = λ j. kept (λ (x : ℕ). x / 8192) (mark_top k (get_or t i 0)) j (ℕ_discrete j i) (dec_lt i (length t));
  low = λ j. kept (λ (x : ℕ). x % 2048) (mark_low k (get_or t i 0)) j (ℕ_discrete j i) (dec_lt i (length t));
  other = λ j q. get_or-set_other t i j v 0 q;
}
  where
    v : ℕ
    v = mark_of k (get_or t i 0)

    -- what a mark leaves of its word, it leaves of every word
    kept : (part : ℕ → ℕ) → part v ≡ part (get_or t i 0) → (j : ℕ) → Dec (j ≡ i) → Dec (i < length t)
        → part (get_or (set t i v) j 0) ≡ part (get_or t j 0)
    kept part h j (no q) d = ap part (get_or-set_other t i j v 0 q)
    kept part h j (yes q) (yes l) = rw q (ap part (get_or-set_same t i v 0 l) ∙ h)
    kept part h j (yes q) (no l) = ap (λ (x : List ℕ). part (get_or x j 0)) (set_out t i v (omega arith))

-- The one place where an entry's form matters: a mark leaves every entry's page. In the form of two words no page is in
-- a first word; in that of one word a mark leaves the page's bits.
odd_word : (i j : ℕ) → j * 2 + 1 ≡ i * 2 → ⊥
odd_word i j q = omega arith

like_page : (e f : ℕ) → e % 2048 ≡ f % 2048 → e % 512 ≡ f % 512
like_page e f q = omega arith

pages_stay : (form : Bool) (t u : List ℕ) (i j : ℕ) → ButMarks (first_word form i) t u
    → get_or t (last_word form j) 0 % page_numbers form ≡ get_or u (last_word form j) 0 % page_numbers form
pages_stay true t u i j h = ap (λ (x : ℕ). x % 16384) (h.other (j * 2 + 1) (odd_word i j))
pages_stay false t u i j h = like_page (get_or t j 0) (get_or u j 0) (h.low j)

pub mark_keeps : (form : Bool) (t₀ : List ℕ) → Lasting form (λ (t : List ℕ). Marked form t t₀)
mark_keeps form t₀ t i k h j =
    let w = mark_words t (first_word form i) k in
    then_entry (entry_at form (with_mark form t i k) j) (entry_at form t j) (entry_at form t₀ j)
    (like_word _ _ _ _ (w.top (first_word form j)) (w.low (first_word form j))
    (pages_stay form (with_mark form t i k) t i j w))
    (h j)

-- ---- PGU, once set, stays

-- of a word
abbrev used_bit : ℕ → Bool
used_bit e = (entry_of e 0).pgu

mark_sets : (k : AccessKind) (e : ℕ) → used_bit (mark_of k e) ≡ true
mark_sets Fetch e = eq-eqb (mark_of Fetch e / 2048 % 2) 1 (omega arith)
mark_sets Read e = eq-eqb (mark_of Read e / 2048 % 2) 1 (omega arith)
mark_sets Write e = eq-eqb (mark_of Write e / 2048 % 2) 1 (omega arith)
mark_sets Indirect e = eq-eqb (mark_of Indirect e / 2048 % 2) 1 (omega arith)

-- the entry at the slot of a mark
pub set_by_mark : (form : Bool) (t : List ℕ) (i : ℕ) (k : AccessKind) → first_word form i < length t
    → (entry_at form (with_mark form t i k) i).pgu ≡ true
set_by_mark form t i k l =
    let e : ℕ = get_or t (first_word form i) 0 in
    ap used_bit (get_or-set_same t (first_word form i) (mark_of k e) 0 l) ∙ mark_sets k e

pub pgu_stays : (form : Bool) (i : ℕ) → Lasting form (λ (t : List ℕ). (entry_at form t i).pgu ≡ true)
pgu_stays form i t j k h = go (ℕ_discrete (first_word form i) w) (dec_lt w (length t))
  where
    w : ℕ
    w = first_word form j

    v : ℕ
    v = mark_of k (get_or t w 0)

    go : Dec (first_word form i ≡ w) → Dec (w < length t) → (entry_at form (set t w v) i).pgu ≡ true
    go (no q) d = ap used_bit (get_or-set_other t w (first_word form i) v 0 q) ∙ h
    go (yes q) (yes l) = rw q (ap used_bit (get_or-set_same t w v 0 l) ∙ mark_sets k (get_or t w 0))
    go (yes q) (no l) = ap (λ (x : List ℕ). (entry_at form x i).pgu) (set_out t w v (omega arith)) ∙ h

-- the mark of a fetch by an entry that has it changes nothing
pub marked_already : (form : Bool) (t : List ℕ) (i : ℕ) → (entry_at form t i).pgu ≡ true → with_mark form t i Fetch ≡ t
marked_already form t i h =
    let e : ℕ = get_or t (first_word form i) 0 in
    let bit : e / 2048 % 2 ≡ 1 = eqb-true (e / 2048 % 2) 1 h in
    let same : mark_of Fetch e ≡ e = omega (arith, bit) in
    ap (set t (first_word form i)) same ∙ set-get_or t (first_word form i) 0
