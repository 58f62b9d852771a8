use Rattle.writer.specs.Views.{out}
use Rattle.writer.proofs.Steps.{begin_ok}
use Rattle.writer.proofs.write.outside.Goals as goal

pub returns-in-Ok : goal.returns-in-Ok
returns-in-Ok c old d i =
    rw (c.accepted.ensures, c.in-Begin.is)
    (begin_ok old c.args.bytes.now c.begin.new.bytes (out c.args.writer) d c.in-Begin.document c.in-Ok.begun i c.in-Ok.ensures)
