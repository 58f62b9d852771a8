use Rattle.std.specs.Prelude.{ℕ, Bool, ◌&&◌, List, filter, Option, nat_le}
use Rattle.nodes.specs.declared.node.Node.{Node}
use Rattle.nodes.specs.declared.refusal.Fault.{Fault}
use Rattle.nodes.specs.declared.source.NodeSource.{Ghosts}
use Rattle.layers.specs.declared.levels.Levels.{Levels}

-- a level lies between two levels, both included
abbrev pub between : (lowest deepest level : ℕ) → Bool
between lowest deepest level = nat_le lowest level && nat_le level deepest

-- the nodes whose level lies between two levels, in their order
abbrev pub keep_levels : (lowest deepest : ℕ) → List Node → List Node
keep_levels lowest deepest ns = filter (λ n. between lowest deepest n.level) ns

-- what the layer means, over what its source means
module _ {S : Type 0} (below : Ghosts S) where
  abbrev pub levels_nodes : Levels S → List Node
  levels_nodes l = keep_levels l.lowest l.deepest (below.coming l.source)

  abbrev pub levels_ending : Levels S → Option Fault
  levels_ending l = below.ending l.source
