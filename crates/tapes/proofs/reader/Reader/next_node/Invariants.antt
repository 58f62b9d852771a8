use Rattle.std.proofs.Common.{◌≡◌, length}
use Rattle.tapes.specs.Source.{left, nodes_left}
use Rattle.tapes.proofs.reader.Reader.next_node.Given as goal

-- what is passed over is no node of the tag
abbrev pub invariant-loop-found : goal.invariant-loop-found
invariant-loop-found l = (nodes_left l.tag l.initial.self ≡ nodes_left l.tag l.self) × ((left l.initial.self).stop ≡ (left l.self).stop)

abbrev pub decreases-loop-found : goal.decreases-loop-found
decreases-loop-found l = length (left l.self).rows
