-- Tests of accesses, one after the other.
-- Assumes nothing.
use Rattle.std.proofs.Common.{◌≡◌, ℕ, suc, ◌+◌, ◌-◌, ◌<◌, Bool, false, List, [], ◌∷◌, ◌++◌, length, sym, ap, ◌∙◌, append_assoc, length-append, arith}
use mathlib.Core.Bool.{and-false}
use Rattle.std.specs.declared.result.Result.TheVariants.{Ok, Err}
use Rattle.isa.specs.Address.{access, sum}
use Rattle.isa.specs.Pages.{Tested, translate, marked, passes, tested_first, test_all}
use Rattle.isa.specs.declared.access.Access.{Access}
use Rattle.isa.specs.declared.access.AccessKind.{AccessKind}
use Rattle.isa.specs.declared.access.Rights.{Rights}
use Rattle.isa.specs.declared.access.Place.{Place}
use Rattle.isa.specs.declared.access.Fault.{Fault}
use Rattle.paging.specs.Within.{Within, AllWithin}
use Rattle.paging.specs.Outcome.{Outcome}
use Rattle.memory_words.specs.Accesses.{words_from}

-- what tests leave that come after accesses to the places ps, which passed
abbrev after : List Place → Tested → Tested
after ps q =
    record { tables = q.tables; places = ps ++ q.places; fault = q.fault; made = length ps + q.made }

-- .. so after one more
after_more : (ps : List Place) (p : Place) (u : List ℕ) (q : Tested)
    → after ps (tested_first u (Ok p) q) ≡ after (ps ++ p ∷ []) q
after_more ps p u q =
    let more : length ps + suc q.made ≡ length (ps ++ p ∷ []) + q.made =
    let h = length-append ps (p ∷ []) in omega (arith, h) in
    λ i. record {
      tables = q.tables;
      places = sym (append_assoc ps (p ∷ []) q.places) i;
      fault = q.fault;
      made = more i;
    }

-- a failed access marks nothing
unmarked : (t : List ℕ) (words : ℕ) (r : Rights) (x : Access) → passes (translate t words r x) ≡ false
    → marked t words r x ≡ t
unfolding marked
unmarked t words r x h = simp (h, and-false)

pub unmarked_err : (t : List ℕ) (words : ℕ) (r : Rights) (x : Access) (f : Fault) → Err f ≡ translate t words r x
    → marked t words r x ≡ t
unmarked_err t words r x f e = unmarked t words r x (ap passes (sym e))

-- ---- so many words from an address on

module _ (t : List ℕ) (words : ℕ) (r : Rights) (k : AccessKind) (alternate : Bool) (a n : ℕ) where
  abbrev all : Tested
  all = test_all t words r (words_from k alternate a n)

  abbrev at : ℕ → Access
  at i = access k alternate (sum a i)

  -- the first i went to the places ps and left the tables u
  abbrev pub Tests : List Place → List ℕ → ℕ → Type 0
  Tests ps u i = all ≡ after ps (test_all u words r (words_from k alternate (sum a i) (n - i)))

  module _ (ps : List Place) (u v : List ℕ) (i : ℕ) (l : i < n) (h : Tests ps u i)
      (q : v ≡ marked u words r (at i)) where
    abbrev rest : Tested
    rest = test_all (marked u words r (at i)) words r (words_from k alternate (sum a (i + 1)) (n - (i + 1)))

    next : all ≡ after ps (tested_first u (translate u words r (at i)) rest)
    next =
        let m : n - i ≡ suc (n - (i + 1)) = omega (arith, l) in
        let s : sum (sum a i) 1 ≡ sum a (i + 1) = omega arith in
        h
        ∙ (λ j. after ps (test_all u words r (words_from k alternate (sum a i) (m j))))
        ∙ (λ j. after ps
        (tested_first u (translate u words r (at i))
        (test_all (marked u words r (at i)) words r (words_from k alternate (s j) (n - (i + 1))))))

    pub tests_more : (p : Place) → Ok p ≡ translate u words r (at i) → Tests (ps ++ p ∷ []) v (i + 1)
    tests_more p e =
        next
        ∙ (λ j. after ps (tested_first u (sym e j) rest))
        ∙ after_more ps p u rest
        ∙ (λ j. after (ps ++ p ∷ [])
        (test_all (sym q j) words r (words_from k alternate (sum a (i + 1)) (n - (i + 1)))))

    pub tests_failed : (f : Fault) → Err f ≡ translate u words r (at i)
        → Outcome all (Err (record { fault = f; made = length ps + 1 })) × (v ≡ all.tables)
    tests_failed f e =
        let s : all ≡ after ps (tested_first u (Err f) rest) =
        next ∙ (λ j. after ps (tested_first u (sym e j) rest)) in (
          (ap (λ (x : Tested). x.fault) s, ap (λ (x : Tested). x.made) s),
          q ∙ unmarked u words r (at i) (ap passes (sym e)) ∙ ap (λ (x : Tested). x.tables) (sym s),
        )

-- one place more within the memory
pub within_more : (words : ℕ) (ps : List Place) (p : Place) → AllWithin words ps → Within words p
    → AllWithin words (ps ++ p ∷ [])
within_more words [] p h k = (k, tt)
within_more words (x ∷ ps) p h k = (h.0, within_more words ps p h.1 k)
