-- What the tests of an image's contents find, entry by entry.
use Rattle.std.specs.Prelude.{ℕ, zero, suc, ◌+◌, cond, not, List, [], ◌∷◌, length, ltb, eqb}
use Rattle.std.specs.declared.result.Result.TheVariants.{Ok, Err}
use Rattle.isa.specs.Images.{ImageEntry, contents, bodies, known_kind, size_of, meets_any, entries_answer, named_words}
use Rattle.isa.specs.Answers.{Answer}
use Rattle.isa.specs.declared.answer.Refusal.TheVariants.{Kind, Target, Overlap, Bodies}
use Rattle.image_directory.specs.Entries.{image_entry_at}

-- the entries before entry k, the last first
unfoldable pub seen_of : ℕ → List ℕ → List ImageEntry
seen_of zero i = []
seen_of (suc k) i = image_entry_at k i ∷ seen_of k i

-- refusals 5, 6 and 7 of an entry after those seen
unfoldable pub entry_answer : ℕ → List ImageEntry → ImageEntry → Answer
entry_answer words seen e =
    cond (not (known_kind e.kind)) (Err Kind)
    (cond (ltb (size_of words e.kind) (e.start + e.count)) (Err Target) (cond (meets_any e seen) (Err Overlap) (Ok tt)))

-- refusal 8, where the entries are not refused
abbrev pub body_answer : List ℕ → Answer → Answer
body_answer i (Err r) = Err r
body_answer i (Ok _) = cond (not (eqb (named_words (contents i)) (length (bodies i)))) (Err Bodies) (Ok tt)

-- refusals 5 to 8
unfoldable pub list_answer : ℕ → List ℕ → Answer
list_answer words i = body_answer i (entries_answer words [] (contents i))
