-- Each return is one outcome of the tests by the entry; an entry with the needed permit has some permit.
use Rattle.std.proofs.Common.{refl, sym, ap, ◌∙◌, lt-ltb, le-ltb, le-leb}
use Rattle.std.proofs.lemmas.Bool.{lt-leb}
use Rattle.isa.specs.Pages.{Entry, entry_at, judged}
use Rattle.paging.proofs.Laws.{passed, refused, entry_by, judged_within, judged_beyond, judged_ring, judged_refused}
use Rattle.paging.proofs.translation.looked_up.Goals as goal

-- the needed permit is missing
pub returns-then-not-permitted-clause-value : goal.returns-then-not-permitted-clause-value
returns-then-not-permitted-clause-value c =
    let a = c.args in
    let same = entry_by a.extended a.tables.now a.slot c.first_word-i.ensures.value refl in
    let n = sym (c.if-not-permitted.ensures (entry_at a.extended a.tables.now a.slot).page) in
    let w = judged_refused _ a.slot a.words a.ring a.k a.a n in
    ap refused c.refused.ensures ∙ sym w ∙ ap (λ (e : Entry). judged e a.slot a.words a.ring a.k a.a) same

-- permitted, and the entry's ring is above the user's
pub returns-then-e-ring-clause-value : goal.returns-then-e-ring-clause-value
returns-then-e-ring-clause-value c =
    let a = c.args in
    let same = entry_by a.extended a.tables.now a.slot c.first_word-i.ensures.value refl in
    let n = sym (c.if-not-permitted.ensures (entry_at a.extended a.tables.now a.slot).page) in
    let w = judged_ring _ a.slot a.words a.ring a.k a.a n (lt-leb _ _ c.if-e-ring.true) in
    simp c.status.ensures (sym w ∙ ap (λ (e : Entry). judged e a.slot a.words a.ring a.k a.a) same)

-- permitted, the ring allows, and the page lies beyond the memory
pub returns-then-p-words-clause-value : goal.returns-then-p-words-clause-value
returns-then-p-words-clause-value c =
    let a = c.args in
    let same = entry_by a.extended a.tables.now a.slot c.first_word-i.ensures.value c.page_of.ensures.value in
    let n = sym (c.if-not-permitted.ensures c.page_of.result) in
    let w = judged_beyond _ _ _ _ _ _ n (le-leb _ _ c.if-e-ring.false) (le-ltb _ _ c.if-p-words.true) in
    sym w ∙ ap (λ (e : Entry). judged e a.slot a.words a.ring a.k a.a) same

-- .. and within it
pub returns-clause-value : goal.returns-clause-value
returns-clause-value c =
    let a = c.args in
    let same = entry_by a.extended a.tables.now a.slot c.first_word-i.ensures.value c.page_of.ensures.value in
    let n = sym (c.if-not-permitted.ensures c.page_of.result) in
    let w = judged_within _ _ _ _ _ _ n (le-leb _ _ c.if-e-ring.false) (lt-ltb _ _ c.if-p-words.false) in
    ap passed c.in_memory.ensures ∙ sym w ∙ ap (λ (e : Entry). judged e a.slot a.words a.ring a.k a.a) same
