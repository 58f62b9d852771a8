use Rattle.tapes.proofs.Rows.{tape_rows}
use Rattle.tapes.proofs.laws.rows_are_nodes.Goals as goal

pub returns : goal.returns
returns c = tape_rows
