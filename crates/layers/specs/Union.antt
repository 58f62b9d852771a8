use Rattle.std.specs.Prelude.{ℕ, ◌+◌, cond, List, [], ◌∷◌, Some, None, Ok, Err, Option, Result, nat_lt}
use Rattle.nodes.specs.Limits.{max_turns}
use Rattle.nodes.specs.declared.node.Node.{Node}
use Rattle.nodes.specs.declared.refusal.Refusal.TheVariants.{TurnLimit, HandsDiffer}
use Rattle.nodes.specs.declared.refusal.Fault.{Fault}
use Rattle.nodes.specs.declared.side.Side.{Side}
use Rattle.nodes.specs.declared.source.NodeSource.{Ghosts}
use Rattle.nodes.specs.Source.{answer}
use Rattle.nodes.specs.Side.{side_nodes, side_ending}
use Rattle.nodes.specs.Turns.{turn_fault}
use Rattle.layers.specs.declared.turn.Turn.{Turn}
use Rattle.layers.specs.declared.turn.Turn.TheVariants.{First, Second, Both, Differ}
use Rattle.layers.specs.declared.union.Union.{Union}
use Rattle.layers.specs.Turn.{next_turn}

-- nodes to come, and then an ending
pub record Listing : Type 0 where
  pub nodes : List Node
  pub ending : Option Fault

abbrev pub stops : Option Fault → Listing
stops e = record { nodes = []; ending = e }

abbrev pub gives : Node → Listing → Listing
gives n l = record { nodes = n ∷ l.nodes; ending = l.ending }

-- what a turn gives after k others, where a, b and c follow a node of the first hand, of the second and of both
abbrev pub had : (name k : ℕ) → Turn → (a b c : Listing) → Listing
had name k (First n) a b c = gives n a
had name k (Second n) a b c = gives n b
had name k (Both n) a b c = gives n c
had name k Differ a b c = stops (Some (turn_fault name k HandsDiffer))

-- whether one more turn may be had after k: not where all are used up
abbrev pub allowed : (name k : ℕ) → Result (Unit {0}) Fault
allowed name k = cond (nat_lt k max_turns) (Ok tt) (Err (turn_fault name k TurnLimit))

-- what comes by the turn that is next: a fault, the end, or that turn, unless the turns are used up
abbrev pub onward : (name k : ℕ) → Result (Option Turn) Fault → (a b c : Listing) → Listing
onward name k (Err f) a b c = stops (Some f)
onward name k (Ok None) a b c = stops None
onward name k (Ok (Some t)) a b c = cond (nat_lt k max_turns) (had name k t a b c) (stops (Some (turn_fault name k TurnLimit)))

-- the union of two lists with their endings, after k turns. From an empty list no node can come; there the part that would follow one is left blank
unfoldable pub united : (name k : ℕ) → List Node → Option Fault → List Node → Option Fault → Listing
united name k [] ex [] ey = onward name k (next_turn (answer [] ex) (answer [] ey)) (stops None) (stops None) (stops None)
united name k [] ex (y ∷ ys) ey = onward name k (next_turn (answer [] ex) (answer (y ∷ ys) ey)) (stops None) (united name (k + 1) [] ex ys ey) (stops None)
united name k (x ∷ xs) ex [] ey = onward name k (next_turn (answer (x ∷ xs) ex) (answer [] ey)) (united name (k + 1) xs ex [] ey) (stops None) (stops None)
united name k (x ∷ xs) ex (y ∷ ys) ey =
    onward name k (next_turn (answer (x ∷ xs) ex) (answer (y ∷ ys) ey)) (united name (k + 1) xs ex (y ∷ ys) ey) (united name (k + 1) (x ∷ xs) ex ys ey) (united name (k + 1) xs ex ys ey)

-- the union of two listings, under a name
abbrev pub union_of : (name : ℕ) → (a b : Listing) → Listing
union_of name a b = united name 0 a.nodes a.ending b.nodes b.ending

-- what a source means, and a side
module _ {S : Type 0} (below : Ghosts S) where
  abbrev pub listing : S → Listing
  listing s = record { nodes = below.coming s; ending = below.ending s }

-- what the layer means, over what its sources mean
module _ {S T : Type 0} (below : Ghosts S) (beside : Ghosts T) where
  abbrev pub union_means : Union S T → Listing
  union_means u = united u.turns.name u.turns.had (side_nodes below u.first) (side_ending below u.first) (side_nodes beside u.second) (side_ending beside u.second)

  abbrev pub union_nodes : Union S T → List Node
  union_nodes u = (union_means u).nodes

  abbrev pub union_ending : Union S T → Option Fault
  union_ending u = (union_means u).ending
