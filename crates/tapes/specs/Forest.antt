use Rattle.std.specs.Prelude.{ℕ, ◌+◌, ◌<◌, ◌≤◌, cond, List, [], ◌∷◌, ◌++◌, length, ◌==◌}
use Rattle.nodes.specs.Limits.{max_bytes, max_document, max_level}
use Rattle.nodes.specs.Whole.{of_tag}
use Rattle.nodes.specs.declared.node.Node.{Node}
use Rattle.nodes.specs.declared.row.Row.{Row}
use Rattle.nodes.specs.declared.tagged.Tagged.{Tagged}
use Rattle.tapes.specs.declared.command.Command.TheVariants.{Begin, Open, Close, Value, End}
use Rattle.tapes.specs.Command.{bytes_of}

-- what stands in an element, in order: nothing more; or a value, with its tag and its number, and what stands after it;
-- or an element, with its tag and what stands in it, and what stands after it
pub data Children : Type 0 where
  none : Children
  value : ℕ → ℕ → Children → Children
  element : ℕ → Children → Children → Children

-- a document: its number, and its root element
pub record Document : Type 0 where
  pub number : ℕ
  pub tag : ℕ
  pub children : Children

abbrev pub Forest : Type 0
Forest = List Document

abbrev pub root_of : Document → Children
root_of x = element x.tag x.children none

-- how many bytes children take
abbrev pub size : Children → ℕ
size none = 0
size (value t n after) = 7 + size after
size (element t inside after) = 8 + (size inside + size after)

-- the bytes of children that stand at an offset, in front of others; an OPEN names the offset of its CLOSE
abbrev pub encode_in : (at : ℕ) → Children → List ℕ → List ℕ
encode_in at none more = more
encode_in at (value t n after) more = bytes_of (Value t n) ++ encode_in (at + 7) after more
encode_in at (element t inside after) more =
    bytes_of (Open t (at + 7 + size inside)) ++ encode_in (at + 7) inside (bytes_of Close ++ encode_in (at + 8 + size inside) after more)

-- the bytes of documents that stand at an offset
abbrev pub encode_from : (at : ℕ) → Forest → List ℕ
encode_from at [] = []
encode_from at (x ∷ f) =
    bytes_of (Begin x.number) ++ encode_in (at + 5) (root_of x) (bytes_of End ++ encode_from (at + 14 + size x.children) f)

-- the tape of a forest
abbrev pub encode : Forest → List ℕ
encode f = encode_from 0 f

abbrev pub tagged : (tag document start end level : ℕ) → Tagged
tagged t d s e l = record { tag = t; row = record { document = d; start = s; end = e; level = l } }

-- the rows of children at a level and an offset, in tree order and in front of others: an element ends at its CLOSE, and
-- a value where it starts
abbrev pub rows_in : (document level at : ℕ) → Children → List Tagged → List Tagged
rows_in d l at none more = more
rows_in d l at (value t n after) more = tagged t d at at l ∷ rows_in d l (at + 7) after more
rows_in d l at (element t inside after) more =
    tagged t d at (at + 7 + size inside) l ∷ rows_in d (l + 1) (at + 7) inside (rows_in d l (at + 8 + size inside) after more)

abbrev pub rows_from : (at : ℕ) → Forest → List Tagged
rows_from at [] = []
rows_from at (x ∷ f) = rows_in x.number 1 (at + 5) (root_of x) (rows_from (at + 14 + size x.children) f)

-- the rows of a forest with their tags, those of one tag, and the nodes of one tag, in tree order
abbrev pub forest_rows : Forest → List Tagged
forest_rows f = rows_from 0 f

abbrev pub tag_rows : (tag : ℕ) → List Tagged → List Row
tag_rows tag [] = []
tag_rows tag (x ∷ xs) = cond (x.tag == tag) (x.row ∷ tag_rows tag xs) (tag_rows tag xs)

abbrev pub forest_nodes : Forest → (tag : ℕ) → List Node
forest_nodes f tag = of_tag tag (forest_rows f)

-- children at a level pass no limit: the deepest level, tags of 16 bits, numbers of 32
abbrev pub FineIn : (level : ℕ) → Children → Type 0
FineIn l none = Unit {0}
FineIn l (value t n after) = (l ≤ max_level) × (t < 65536) × (n < 4294967296) × FineIn l after
FineIn l (element t inside after) = (l ≤ max_level) × (t < 65536) × FineIn (l + 1) inside × FineIn l after

-- the documents' numbers rise from a least one, to the greatest at most
abbrev pub FineFrom : (least : ℕ) → Forest → Type 0
FineFrom l [] = Unit {0}
FineFrom l (x ∷ f) =
    (l ≤ x.number) × (x.number ≤ max_document) × (x.tag < 65536) × FineIn 2 x.children × FineFrom (x.number + 1) f

-- a forest that a tape can hold
pub record Fine (f : Forest) : Type 0 where
  pub documents : FineFrom 0 f
  pub short : length (encode f) ≤ max_bytes
