-- One access fails, or all pass and the words are stored.
use Rattle.std.proofs.Common.{List, length, sym, subst}
use Rattle.isa.specs.declared.access.AccessKind.TheVariants.{Write}
use Rattle.isa.specs.Pages.{test_all}
use Rattle.isa.specs.declared.access.Access.{Access}
use Rattle.exec_memory.proofs.RequestLaws.{Passed, Stopped, all_passed, one_stopped, made_few, stores, fails}
use Rattle.exec_memory.proofs.several.store_several.Goals as goal

-- all passed
pub returns-in-Ok-clause-stored : goal.returns-in-Ok-clause-stored
returns-in-Ok-clause-stored g c =
    let a = c.args in
    let t = a.tables.now in
    let m = a.mem.now in
    let u = c.test_words.new.tables in
    let ps = c.in-Ok.places in
    let passed = all_passed t (length m) a.x.rights Write a.x.alternate a.x.address g.row.N u ps c.in-Ok.ensures.outcome
    c.in-Ok.ensures.tables_after in
    λ q e h. stores a.f m t u q a.x g.row.N c.requires.few ps
    (subst (λ (xs : List Access). Passed (test_all t (length m) a.x.rights xs) ps g.row.N u) (sym e) passed)
    c.done.ensures (sym (h _)) c.store_words.ensures

-- one failed
pub returns-in-Err-clause-stored : goal.returns-in-Err-clause-stored
returns-in-Err-clause-stored g c =
    let a = c.args in
    let t = a.tables.now in
    let m = a.mem.now in
    let u = c.test_words.new.tables in
    let z = c.in-Err.e in
    let o = c.in-Err.ensures.outcome in
    let stopped = one_stopped t (length m) a.x.rights Write a.x.alternate a.x.address g.row.N u z o
    c.in-Err.ensures.tables_after in
    λ q e h. fails a.f m t u q a.x z.made
    (made_few t (length m) a.x.rights Write a.x.alternate a.x.address g.row.N z.made c.requires.few o.1)
    (subst (λ (xs : List Access). Stopped (test_all t (length m) a.x.rights xs) z.fault z.made u) (sym e) stopped)
    c.failed.ensures
