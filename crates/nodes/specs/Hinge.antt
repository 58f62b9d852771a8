use Rattle.std.specs.Prelude.{ℕ, List, [], ◌∷◌}
use Rattle.nodes.specs.declared.node.Node.{Node}
use Rattle.nodes.specs.Node.{as_node}

-- the worked example, the hinge block: a node of document 7
abbrev pub node7 : (start end level : ℕ) → Node
node7 s e l = as_node (record { document = 7; start = s; end = e; level = l })

-- its part (tag 1), its bodies (tag 2) and its faces (tag 3)
abbrev pub tag1 : List Node
tag1 = node7 5 49 1 ∷ []

abbrev pub tag2 : List Node
tag2 = node7 12 41 2 ∷ node7 26 40 3 ∷ []

abbrev pub tag3 : List Node
tag3 = node7 19 19 3 ∷ node7 33 33 4 ∷ node7 42 42 2 ∷ []
