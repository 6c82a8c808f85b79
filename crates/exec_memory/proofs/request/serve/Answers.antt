-- Each request is one function; a jump makes no access.
use Rattle.std.proofs.Common.{[], length, ap, ◌∙◌, arith}
use Rattle.isa.specs.Instructions.{loads}
use Rattle.exec_memory.proofs.RequestLaws.{none_passed, reads}
use Rattle.exec_address.specs.declared.request.Request.TheVariants.{Jump, Link}
use Rattle.exec_memory.proofs.request.serve.Goals as goal

-- JMP
pub returns-in-Jump-clause-served : goal.returns-in-Jump-clause-served
returns-in-Jump-clause-served c =
    let a = c.args in
    let t = a.tables.now in
    rw c.in-Jump.is
    (reads a.f a.mem.now t t Jump a.x 0 (omega arith) [] (none_passed t (length a.mem.now) a.x.rights) c.fine.ensures tt
    (ap loads c.with.ensures))

-- JPL
pub returns-in-Link-clause-served : goal.returns-in-Link-clause-served
returns-in-Link-clause-served c =
    let a = c.args in
    let t = a.tables.now in
    rw c.in-Link.is
    (reads a.f a.mem.now t t Link a.x 0 (omega arith) [] (none_passed t (length a.mem.now) a.x.rights)
    c.fine-in-Link.ensures tt
    (ap loads (c.with-in-Link-2.ensures ∙ simp (c.with-in-Link.ensures, c.get.ensures))))
