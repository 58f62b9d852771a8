use Rattle.std.specs.Prelude.{ℕ, ◌+◌, ◌<◌, ◌≤◌, List, [], ◌∷◌, ◌++◌, length}
use Rattle.nodes.specs.Limits.{max_document, max_level}
use Rattle.tapes.specs.declared.command.Command.TheVariants.{Begin, Open}
use Rattle.tapes.specs.Command.{bytes_of}
use Rattle.tapes.specs.Forest.{Children, none, value, element, Document, Forest, size, encode_in, encode, FineIn, FineFrom}

-- an open element: its tag, and what stands in it so far
pub record Opened : Type 0 where
  pub tag : ℕ
  pub children : Children

-- a forest of which a part is there: its finished documents; and of the next document its number, and no root yet, or the
-- open elements around the innermost one, the nearest first, and that one, or a closed root
pub data Draft : Type 0 where
  between : Forest → Draft
  begun : Forest → ℕ → Draft
  within : Forest → ℕ → List Opened → Opened → Draft
  rooted : Forest → ℕ → ℕ → Children → Draft

abbrev pub opened : ℕ → Children → Opened
opened t c = record { tag = t; children = c }

abbrev pub document : ℕ → ℕ → Children → Document
document n t c = record { number = n; tag = t; children = c }

-- children, and others after them
abbrev pub append : Children → Children → Children
append none more = more
append (value t n after) more = value t n (append after more)
append (element t inside after) more = element t inside (append after more)

abbrev pub grown : Opened → Children → Opened
grown x more = opened x.tag (append x.children more)

-- the innermost element closed: a child of the one around it, or the root
abbrev pub closed : Forest → ℕ → List Opened → Opened → Draft
closed f n [] x = rooted f n x.tag x.children
closed f n (y ∷ around) x = within f n around (grown y (element x.tag x.children none))

-- how many bytes each takes
abbrev pub size_of : Forest → ℕ
size_of [] = 0
size_of (x ∷ f) = 14 + size x.children + size_of f

abbrev pub open_size : List Opened → ℕ
open_size [] = 0
open_size (x ∷ around) = open_size around + 7 + size x.children

abbrev pub draft_size : Draft → ℕ
draft_size (between f) = size_of f
draft_size (begun f n) = size_of f + 5
draft_size (within f n around x) = size_of f + 5 + open_size (x ∷ around)
draft_size (rooted f n t c) = size_of f + 5 + (8 + size c)

-- the least number that a document after these may have
abbrev pub least_of : ℕ → Forest → ℕ
least_of l [] = l
least_of l (x ∷ f) = least_of (x.number + 1) f

-- what the last operand of an open element holds, by the root's offset and the elements around
abbrev pub Operand : Type 0
Operand = ℕ → List Opened → ℕ

module _ (held : Operand) where
  -- the bytes of open elements, the innermost first, where the root is at an offset
  abbrev pub open_bytes : ℕ → List Opened → List ℕ
  open_bytes at [] = []
  open_bytes at (x ∷ around) =
      open_bytes at around ++ (bytes_of (Open x.tag (held at around)) ++ encode_in (at + open_size around + 7) x.children [])

  -- the bytes of a draft
  abbrev pub draft_bytes : Draft → List ℕ
  draft_bytes (between f) = encode f
  draft_bytes (begun f n) = encode f ++ bytes_of (Begin n)
  draft_bytes (within f n around x) = (encode f ++ bytes_of (Begin n)) ++ open_bytes (size_of f + 5) (x ∷ around)
  draft_bytes (rooted f n t c) = (encode f ++ bytes_of (Begin n)) ++ encode_in (size_of f + 5) (element t c none) []

-- the limits of a forest, as far as it is there
abbrev pub FineOpen : List Opened → Type 0
FineOpen [] = Unit {0}
FineOpen (x ∷ around) = (x.tag < 65536) × (length around + 1 ≤ max_level) × FineIn (length around + 2) x.children × FineOpen around

abbrev pub FineNext : Forest → ℕ → Type 0
FineNext f n = FineFrom 0 f × (least_of 0 f ≤ n) × (n ≤ max_document)

abbrev pub FineDraft : Draft → Type 0
FineDraft (between f) = FineFrom 0 f
FineDraft (begun f n) = FineNext f n
FineDraft (within f n around x) = FineNext f n × FineOpen (x ∷ around)
FineDraft (rooted f n t c) = FineNext f n × (t < 65536) × FineIn 2 c
