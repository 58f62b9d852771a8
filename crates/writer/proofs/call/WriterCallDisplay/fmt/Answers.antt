use Rattle.writer.proofs.call.WriterCallDisplay.fmt.Goals as goal

pub returns-in-Value-clause-writes : goal.returns-in-Value-clause-writes
returns-in-Value-clause-writes g c = rw c.in-Value.is c.write-in-Value.ensures.writes
