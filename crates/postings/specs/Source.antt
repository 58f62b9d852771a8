use Rattle.std.specs.Prelude.{ℕ, List, Option}
use Rattle.nodes.specs.declared.node.Node.{Node}
use Rattle.nodes.specs.declared.refusal.Fault.{Fault}
use Rattle.postings.specs.declared.source.PostingSource.{PostingSource}
use Rattle.postings.specs.declared.model.Postings.{Postings}
use Rattle.postings.specs.Reading.{Reading, read_rest, reading, nodes_of, ending_of}

-- what a posting source means
abbrev pub left : PostingSource → Reading
left s = read_rest s.place s.bytes.now

abbrev pub posting_nodes : PostingSource → List Node
posting_nodes s = nodes_of s.tag (left s)

abbrev pub posting_ending : PostingSource → Option Fault
posting_ending s = ending_of s.name (left s)

-- what the model means: the whole reading, a tag's list and its ending under a name
abbrev pub reading_of : Postings → Reading
reading_of m = reading m.bytes.now

abbrev pub list_of_tag : Postings → ℕ → List Node
list_of_tag m tag = nodes_of tag (reading_of m)

abbrev pub ending_of_tag : Postings → ℕ → ℕ → Option Fault
ending_of_tag m tag name = ending_of name (reading_of m)
