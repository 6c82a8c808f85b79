-- By the page tables: the page to keep rests on its marked entry.
use Rattle.std.proofs.Common.{rules, ℕ, ap, sym, subst, ◌∙◌, length}
use Rattle.isa.specs.declared.access.Rights.{Rights}
use Rattle.paging.specs.Levels.{on_ring}
use Rattle.exec_memory.specs.Stages.{ring_after}
use Rattle.exec_step.specs.Fetches.{Kept, page_after}
use Rattle.exec_step.specs.declared.fetch.Page.{Page}
use Rattle.exec_step.proofs.Fetches.{page_kept}
use Rattle.exec_step.proofs.fetch.looked_up.Goals as goal

pub returns-clause-kept : goal.returns-clause-kept
returns-clause-kept c =
    let a = c.args in
    let x = c.in_ok-x.x in
    let q = c.ring_after-q.result in
    let ring = c.ring_after-q.ensures ∙ ap (λ (n : ℕ). ring_after a.r n x) c.ring_at-ring.ensures in
    let page = c.page_after.ensures
    ∙ ap (λ (s : Rights). page_after (length a.mem.now) s a.at x) c.on_ring.ensures in
    let kept = page_kept (length a.mem.now) a.r a.at a.tables.now c.requires.normal_bound.0 (search rules) x q
    c.in_ok-x.ensures.value ring in
    subst (λ (k : Page). Kept (length a.mem.now) (on_ring a.r q) k c.translate.new.tables) (sym page)
    (subst (Kept (length a.mem.now) (on_ring a.r q) _) (sym c.translate.ensures.tables_after) kept)
