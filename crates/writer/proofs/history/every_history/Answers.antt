use Rattle.writer.proofs.Histories.{every_history}
use Rattle.writer.proofs.history.every_history.Goals as goal

pub returns : goal.returns
returns c = every_history
