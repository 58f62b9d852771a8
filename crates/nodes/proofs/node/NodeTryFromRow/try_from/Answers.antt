use Rattle.std.proofs.Common.{sym, arith}
use Rattle.std.proofs.lemmas.Bool.Decides.{nat_tests}
use Rattle.nodes.proofs.Made.{node_of_row, node_of_order}
use Rattle.nodes.proofs.node.NodeTryFromRow.try_from.Goals as goal

pub returns-then-start-end : goal.returns-then-start-end
returns-then-start-end c = sym (node_of_order c.args.row (grind (arith, nat_tests)) (grind (arith, nat_tests)))

pub returns : goal.returns
returns c = sym (node_of_row _)
