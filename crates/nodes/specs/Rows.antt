use Rattle.std.specs.Prelude.{ℕ, ◌+◌, min, List, [], ◌∷◌, drop, Some, None, Ok, Err, Option, Result}
use Rattle.nodes.specs.Limits.{max_place}
use Rattle.nodes.specs.declared.row.Row.{Row}
use Rattle.nodes.specs.declared.node.Node.{Node}
use Rattle.nodes.specs.declared.refusal.Refusal.{Refusal}
use Rattle.nodes.specs.declared.refusal.Fault.{Fault}
use Rattle.nodes.specs.declared.list.ListSource.{ListSource}
use Rattle.nodes.specs.Refusals.{fault_by}
use Rattle.nodes.specs.Node.{node_of}

-- a node in front of others; nothing where the row was wrong
abbrev pub cons_ok : Result Node Refusal → List Node → List Node
cons_ok (Ok n) ns = n ∷ ns
cons_ok (Err f) ns = []

-- the place of the row with a number, which it tells as far as a place can
abbrev pub place_at : ℕ → ℕ
place_at at = min at max_place

-- the fault of that row
abbrev pub fault_at : Refusal → (name at : ℕ) → Fault
fault_at f name at = fault_by f name (place_at at)

-- the fault of a wrong row; what follows where it was right
abbrev pub fault_or : Result Node Refusal → (name place : ℕ) → Option Fault → Option Fault
fault_or (Ok n) name place e = e
fault_or (Err f) name place e = Some (fault_at f name place)

-- the nodes of the rows, up to the first wrong one
abbrev pub nodes_in : List Row → List Node
nodes_in [] = []
nodes_in (r ∷ rs) = cons_ok (node_of r) (nodes_in rs)

-- the fault of the first wrong row, where the first row has the number at; the end where none is wrong
abbrev pub end_in : (name at : ℕ) → List Row → Option Fault
end_in name at [] = None
end_in name at (r ∷ rs) = fault_or (node_of r) name at (end_in name (at + 1) rs)

-- what a list source means
abbrev pub coming_from : ListSource → List Node
coming_from s = nodes_in (drop s.at s.rows.now)

abbrev pub ending_from : ListSource → Option Fault
ending_from s = end_in s.name s.at (drop s.at s.rows.now)
