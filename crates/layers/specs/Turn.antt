use Rattle.std.specs.Prelude.{Bool, cond, ◌&&◌, Some, None, Ok, Err, Option, Result, ◌==◌}
use Rattle.nodes.specs.declared.node.Node.{Node}
use Rattle.nodes.specs.declared.refusal.Fault.{Fault}
use Rattle.nodes.specs.Node.{place_of}
use Rattle.nodes.specs.Place.{before}
use Rattle.layers.specs.declared.turn.Turn.{Turn}
use Rattle.layers.specs.declared.turn.Turn.TheVariants.{First, Second, Both, Differ}

-- two nodes agree in all four numbers
abbrev pub same_node : Node → Node → Bool
same_node x y = x.document == y.document && (x.start == y.start && (x.end == y.end && x.level == y.level))

-- whose turn it is where both hands hold a node: the smaller place comes next, and equal nodes come once
abbrev pub meeting : Node → Node → Turn
meeting x y = cond (before (place_of x) (place_of y)) (First x) (cond (before (place_of y) (place_of x)) (Second y) (cond (same_node x y) (Both x) Differ))

-- the turn that is next by what is in the two hands: a fault in hand stops, the first's before the second's; where both have ended, the end
abbrev pub next_turn : (h i : Result (Option Node) Fault) → Result (Option Turn) Fault
next_turn (Err f) i = Err f
next_turn (Ok None) (Err g) = Err g
next_turn (Ok None) (Ok None) = Ok None
next_turn (Ok None) (Ok (Some y)) = Ok (Some (Second y))
next_turn (Ok (Some x)) (Err g) = Err g
next_turn (Ok (Some x)) (Ok None) = Ok (Some (First x))
next_turn (Ok (Some x)) (Ok (Some y)) = Ok (Some (meeting x y))
