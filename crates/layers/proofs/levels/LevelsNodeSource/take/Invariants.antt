use Rattle.std.proofs.Common.{◌≡◌, length}
use Rattle.layers.specs.Levels.{levels_nodes, levels_ending}
use Rattle.layers.proofs.levels.LevelsNodeSource.take.Given as goal

abbrev pub invariant-loop-node : goal.invariant-loop-node
invariant-loop-node g l =
    (levels_nodes g.S.NodeSource l.self ≡ levels_nodes g.S.NodeSource l.initial.self) × (levels_ending g.S.NodeSource l.self ≡ levels_ending g.S.NodeSource l.initial.self)

abbrev pub decreases-loop-node : goal.decreases-loop-node
decreases-loop-node g l = length (g.S.NodeSource.coming l.self.source)
