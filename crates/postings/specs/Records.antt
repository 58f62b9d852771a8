use Rattle.std.specs.Prelude.{◌≡◌, ℕ, ◌<◌, ◌≤◌, cond, List, length, Some, None, Ok, Err, Option, Result, ◌==◌, nat_lt, slice_index}
use Rattle.std.specs.Borrow.{Bor}
use Rattle.std.specs.List.{between}
use Rattle.nodes.specs.declared.row.Row.{Row}
use Rattle.nodes.specs.declared.tagged.Tagged.{Tagged}
use Rattle.nodes.specs.declared.node.Node.{Node}
use Rattle.nodes.specs.declared.refusal.Refusal.{Refusal}
use Rattle.nodes.specs.declared.refusal.Refusal.TheVariants.{ShortRecord}
use Rattle.nodes.specs.Bytes.{two_at, four_at}
use Rattle.nodes.specs.Node.{node_of}

-- how many bytes a record has
abbrev pub record_bytes : ℕ
record_bytes = 15

-- the record at the front of the bytes: its tag in two bytes, document, start and end in four each, and its level in one
abbrev pub tag_in : List ℕ → ℕ
tag_in bs = two_at bs 0

abbrev pub row_in : List ℕ → Row
row_in bs = record { document = four_at bs 2; start = four_at bs 6; end = four_at bs 10; level = slice_index bs 14 }

-- the record at the front is taken off, or too few bytes remain for one
abbrev pub Cut : List ℕ → Option (Tagged × Bor (List ℕ)) → Type 0
Cut bs None = length bs < record_bytes
Cut bs (Some r) = (record_bytes ≤ length bs) × (r.0.tag ≡ tag_in bs) × (r.0.row ≡ row_in bs) × (r.1.now ≡ between record_bytes (length bs) bs)

-- a record's node where it has the wanted tag; what is wrong with its row, under any tag
abbrev pub of_tag : (wanted tag : ℕ) → Result Node Refusal → Result (Option Node) Refusal
of_tag wanted tag (Ok n) = cond (tag == wanted) (Ok (Some n)) (Ok None)
of_tag wanted tag (Err f) = Err f

-- a posting: a node under its tag
pub record Posting : Type 0 where
  pub tag : ℕ
  pub node : Node

abbrev pub under_tag : ℕ → Result Node Refusal → Result Posting Refusal
under_tag t (Ok n) = Ok (record { tag = t; node = n })
under_tag t (Err f) = Err f

-- the posting at the front of the bytes, or the first refusal that applies to it
abbrev pub posting_in : List ℕ → Result Posting Refusal
posting_in bs = cond (nat_lt (length bs) record_bytes) (Err ShortRecord) (under_tag (tag_in bs) (node_of (row_in bs)))
