-- The fetch passed and its word was executed, or it failed.
use Rattle.std.proofs.Common.{◌≡◌, ℕ, List, refl, ap, sym, subst, ◌∙◌, true, length}
use Rattle.std.specs.declared.option.Option.{Option}
use Rattle.isa.specs.Machine.{reg}
use Rattle.isa.specs.Pages.{entry_at, slot_of}
use Rattle.isa.specs.declared.access.Rights.{Rights}
use Rattle.isa.specs.declared.machine.File.{File}
use Rattle.isa.specs.declared.machine.Register.TheVariants.{P}
use Rattle.paging.specs.Levels.{on_ring, privileged_by}
use Rattle.exec_step.specs.Fetches.{Kept}
use Rattle.event.specs.Events.{is_fine, tells_fault}
use Rattle.event.specs.declared.Event.{Event}
use Rattle.exec_step.proofs.Fetches.{word_keeps, fine_before, privilege_alike}
use Rattle.exec_step.proofs.Steps.{step_passed, step_failed}
use Rattle.exec_step.proofs.step_in.Goals as goal

-- what the code found of the fetch from P
ring_of_entry : File → List ℕ → Rights → ℕ
ring_of_entry f t r = (entry_at r.extended t (slot_of r.normal (reg f P))).ring

-- it passed
pub returns-in-Ok-clause-step_of_level : goal.returns-in-Ok-clause-step_of_level
returns-in-Ok-clause-step_of_level c =
    let a = c.args in
    let g = c.in-Ok.g in
    let p = c.get-at.ensures in
    let found = simp p at c.in-Ok.ensures.fetch_of in
    let word = simp (p, c.next.ensures, c.on_ring-s.ensures) at c.executed_word-e.ensures.executed_word in
    step_passed a.f a.mem.now a.tables.now a.r _ c.fetch.new.tables g.place
    (record { entry = refl; outcome = found.place; marks = found.marks })
    g.ring g.word g.page c.executed_word-e.result _ _ c.requires.ring_bound found.ring
    (c.privileged.ensures ∙ ap privileged_by c.on_ring-s.ensures) c.by_privilege.ensures found.word word

pub returns-in-Ok-clause-kept_after : goal.returns-in-Ok-clause-kept_after
returns-in-Ok-clause-kept_after c =
    let a = c.args in
    let g = c.in-Ok.g in
    let e = c.executed_word-e in
    let rights = on_ring a.r g.ring in
    let word = simp (c.get-at.ensures, c.next.ensures, c.on_ring-s.ensures) at e.ensures.executed_word in
    let alone = simp c.next.ensures at e.ensures.fine_alone in
    λ fine.
    let own = subst (λ (x : Option Event). is_fine x ≡ true) c.by_privilege.ensures fine in
    subst (λ (n : ℕ). Kept n rights g.page e.new.tables) (sym e.auto.mem)
    (word_keeps (length a.mem.now) a.f rights g.page g.word _ _ e.result _ _ c.requires.normal_bound word alone
    (fine_before _ e.result.event own) c.in-Ok.ensures.kept_after)

pub returns-in-Ok-clause-told : goal.returns-in-Ok-clause-told
returns-in-Ok-clause-told c =
    let e = c.executed_word-e in
    rw c.by_privilege.ensures (privilege_alike tells_fault (λ q. refl) _ e.result.event ∙ e.ensures.told)

-- it failed
pub returns-in-Err-clause-step_of_level : goal.returns-in-Err-clause-step_of_level
returns-in-Err-clause-step_of_level c =
    let a = c.args in
    let found = simp c.get-at.ensures at c.in-Err.ensures.fetch_of in
    step_failed a.f a.mem.now a.tables.now a.r _ c.fetch.new.tables c.in-Err.x
    (record { entry = refl; outcome = found.fault; marks = found.marks }) c.no_page.result
