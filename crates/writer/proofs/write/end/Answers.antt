use Rattle.writer.specs.Views.{ins}
use Rattle.writer.proofs.Steps.{end_ok, end_err}
use Rattle.writer.proofs.write.end.Goals as goal

pub returns-in-Ok : goal.returns-in-Ok
returns-in-Ok c old d i =
    rw c.accepted.ensures (end_ok old c.args.bytes.now c.end.new.bytes (ins c.args.writer) d c.in-Ok.ended i c.in-Ok.ensures)

pub returns-in-Err : goal.returns-in-Err
returns-in-Err c old d i =
    rw c.refused.ensures (end_err old c.args.bytes.now c.end.new.bytes (ins c.args.writer) d c.in-Err.field-0 i c.in-Err.ensures)
