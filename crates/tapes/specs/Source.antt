use Rattle.std.specs.Prelude.{◌≡◌, ℕ, List, [], ◌∷◌, length, Some, None, Ok, Err, Option, Result}
use Rattle.nodes.specs.declared.node.Node.{Node}
use Rattle.nodes.specs.declared.refusal.Refusal.{Refusal}
use Rattle.nodes.specs.declared.refusal.Fault.{Fault}
use Rattle.nodes.specs.declared.tagged.Tagged.{Tagged}
use Rattle.nodes.specs.Whole.{Whole, ends, stopped, more, of_tag, named}
use Rattle.tapes.specs.declared.command.Command.{Command}
use Rattle.tapes.specs.declared.reader.Reader.{Reader}
use Rattle.tapes.specs.declared.source.TapeSource.{TapeSource}
use Rattle.tapes.specs.Reading.{Reading, Move, refused, moved, made, move, step, reads, tape_reads}

-- where a reader stands
abbrev pub reading : Reader → Reading
reading s = record { at = s.at; stage = s.stage; document = s.document; least = s.least; depth = s.depth; path = s.path }

-- what a reader still reads
abbrev pub left : Reader → Whole
left s = reads s.bytes.now (reading s)

-- the same where there may be no reader, but only a refusal of all bytes
abbrev pub whole_left : Result Reader Refusal → Whole
whole_left (Ok s) = left s
whole_left (Err f) = stopped f 0

-- what a tape source means
abbrev pub tape_coming : TapeSource → List Node
tape_coming s = of_tag s.tag (whole_left s.reader).rows

abbrev pub tape_ending : TapeSource → Option Fault
tape_ending s = named s.name (whole_left s.reader).stop

-- the nodes of one tag in a tape, and how they end for a source of some name
abbrev pub tape_nodes : List ℕ → ℕ → List Node
tape_nodes bs tag = of_tag tag (tape_reads bs).rows

abbrev pub tape_end : List ℕ → ℕ → Option Fault
tape_end bs name = named name (tape_reads bs).stop

-- what a move answers, and where the reading stands after it
abbrev pub answer : Move → Result (Option Tagged) Refusal
answer (refused f) = Err f
answer (moved t) = Ok None
answer (made x t) = Ok (Some x)

abbrev pub after : Reading → Move → Reading
after s (refused f) = s
after s (moved t) = t
after s (made x t) = t

-- a reading, but at another place
abbrev pub placed : ℕ → Reading → Reading
placed n s = record { at = n; stage = s.stage; document = s.document; least = s.least; depth = s.depth; path = s.path }

-- a reader obeyed a command: its answer, and where it stands, but that its place is still that of the command
pub record Obeys (k : Command) (s : Reader) (r : Result (Option Tagged) Refusal) (t : Reader) : Type 0 where
  pub answers : r ≡ answer (move (length s.bytes.now) (reading s) k)
  pub stands : reading t ≡ placed s.at (after (reading s) (move (length s.bytes.now) (reading s) k))
  pub bytes : t.bytes ≡ s.bytes

-- a reader made a move: its answer, and where it stands
pub record Moves (m : Move) (s : Reader) (r : Result (Option Tagged) Refusal) (t : Reader) : Type 0 where
  pub answers : r ≡ answer m
  pub stands : reading t ≡ after (reading s) m
  pub bytes : t.bytes ≡ s.bytes

-- the move of the command at the place of the reading
abbrev pub Steps : Reader → Result (Option Tagged) Refusal → Reader → Type 0
Steps s r t = Moves (step s.bytes.now (reading s)) s r t

-- what a reader gives next: a row, in front of what is left; the end; or a refusal at its place, where it stays
abbrev pub NextRow : Reader → Result (Option Tagged) Refusal → Reader → Type 0
NextRow s (Ok (Some x)) t = left s ≡ more x (left t)
NextRow s (Ok None) t = (left s ≡ ends None) × (left t ≡ ends None)
NextRow s (Err f) t = (left s ≡ stopped f t.at) × (left t ≡ stopped f t.at)

-- the nodes of a tag that a reader still reads
abbrev pub nodes_left : ℕ → Reader → List Node
nodes_left tag s = of_tag tag (left s).rows

-- the same of the nodes of one tag
abbrev pub NextNode : ℕ → Reader → Result (Option Node) Refusal → Reader → Type 0
NextNode tag s (Ok (Some n)) t = (nodes_left tag s ≡ n ∷ nodes_left tag t) × ((left s).stop ≡ (left t).stop)
NextNode tag s (Ok None) t = (nodes_left tag s ≡ []) × ((left s).stop ≡ None) × (left t ≡ ends None)
NextNode tag s (Err f) t = (nodes_left tag s ≡ []) × ((left s).stop ≡ (left t).stop) × (left t ≡ stopped f t.at)
