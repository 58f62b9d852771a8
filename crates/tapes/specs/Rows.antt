use Rattle.std.specs.Prelude.{◌≡◌, ℕ, List}
use Rattle.std.specs.List.{AllByRecursion as Every}
use Rattle.nodes.specs.Node.{row_of, as_node}
use Rattle.nodes.specs.declared.tagged.Tagged.{Tagged}
use Rattle.tapes.specs.Reading.{tape_reads}

-- a row is a node's: the node has its four numbers
abbrev pub IsNode : Tagged → Type 0
IsNode x = row_of (as_node x.row) ≡ x.row

-- whatever the bytes are, every row that is read is a node's
abbrev pub RowsAreNodes : Type 0
RowsAreNodes = (bs : List ℕ) → Every IsNode (tape_reads bs).rows
