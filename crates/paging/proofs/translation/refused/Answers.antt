-- No permit at all is a page fault.
use Rattle.std.proofs.Common.{sym}
use Rattle.paging.proofs.translation.refused.Goals as goal

-- some permit is set: a protection fault
pub returns-then-some_permit : goal.returns-then-some_permit
returns-then-some_permit c = simp (c.status.ensures, sym (c.if-some_permit.ensures 0))

-- no permit is set: a page fault
pub returns-else-some_permit : goal.returns-else-some_permit
returns-else-some_permit c = simp (c.status-else-some_permit.ensures, sym (c.if-some_permit.ensures 0))
