use Rattle.paths.proofs.Asked.{one_answer}
use Rattle.paths.proofs.laws.one_answer.Goals as goal

pub returns : goal.returns
returns c = one_answer
