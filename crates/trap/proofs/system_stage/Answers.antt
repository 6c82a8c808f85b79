-- Instruction by instruction.
use Rattle.std.proofs.Common.{◌∙◌}
use Rattle.trap.proofs.Laws.{register_stage, line_stage}
use Rattle.trap.proofs.system_stage.Goals as goal

pub returns-in-Control : goal.returns-in-Control
returns-in-Control c = c.left.ensures _ _ ∙ simp (c.controlled.ensures, c.in-Control.is)

pub returns-in-TraPgc : goal.returns-in-TraPgc
returns-in-TraPgc c = simp c.in-TraPgc.is (c.left-in-TraPgc.ensures _ _)

pub returns-in-TrrPcr : goal.returns-in-TrrPcr
returns-in-TrrPcr c = simp c.in-TrrPcr.is (c.left-in-TrrPcr.ensures _ _)

pub returns-in-Irr : goal.returns-in-Irr
returns-in-Irr c = simp c.in-Irr.is (c.left-in-Irr.ensures _ _)

pub returns-in-Irw : goal.returns-in-Irw
returns-in-Irw c = simp c.in-Irw.is (c.left-in-Irw.ensures _ _)

pub returns-in-Srb : goal.returns-in-Srb
returns-in-Srb c = simp c.in-Srb.is (c.left-in-Srb.ensures _ _)

pub returns-in-Lrb : goal.returns-in-Lrb
returns-in-Lrb c = simp c.in-Lrb.is (c.left-in-Lrb.ensures _ _)

pub returns-in-Iox : goal.returns-in-Iox
returns-in-Iox c = simp c.in-Iox.is (c.device_stage.ensures _ _ ∙ register_stage c.args.c _ _ _)

pub returns-in-Ioxt : goal.returns-in-Ioxt
returns-in-Ioxt c =
    simp c.in-Ioxt.is
    (c.device_stage-in-Ioxt.ensures _ _ ∙ simp c.device_address.ensures (register_stage c.args.c _ _ _))

pub returns-in-Ident : goal.returns-in-Ident
returns-in-Ident c = simp c.in-Ident.is (c.device_stage-in-Ident.ensures _ _ ∙ line_stage c.args.c _ _ _)
