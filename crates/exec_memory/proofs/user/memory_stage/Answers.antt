-- The operation goes on at its effective address, or the access for the indirect word failed.
use Rattle.std.proofs.Common.{w16}
use Rattle.std.proofs.lemmas.Int.{to_z-of_z}
use Rattle.exec_memory.proofs.Stages.{memory_at, memory_failed}
use Rattle.exec_memory.proofs.user.memory_stage.Goals as goal

-- the effective address was found
pub returns-in-Ok-clause-user_stage : goal.returns-in-Ok-clause-user_stage
returns-in-Ok-clause-user_stage c =
    let a = c.args in
    let addressed = simp (to_z-of_z w16 a.d c.ranges.d) at c.address_of.ensures in
    memory_at a.f a.mem.now a.tables.now a.at a.r a.o a.m a.d _ _ addressed _ c.in-Ok.e _ _ _
    c.in-Ok.is c.request_of.ensures c.serve.ensures.served c.after.ensures

-- the access for the indirect word failed
pub returns-in-Err-clause-user_stage : goal.returns-in-Err-clause-user_stage
returns-in-Err-clause-user_stage c =
    let a = c.args in
    let addressed = simp (to_z-of_z w16 a.d c.ranges.d) at c.address_of.ensures in
    memory_failed a.f a.mem.now a.tables.now a.at a.r a.o a.m a.d _ _ addressed _ _ c.in-Err.is c.failed.ensures
