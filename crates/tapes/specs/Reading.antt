use Rattle.std.specs.Prelude.{ℕ, zero, suc, ◌+◌, ◌-◌, Bool, true, false, cond, List, length, drop, replicate, Some, None, Ok, Err, Option, Result, ◌==◌, nat_le, nat_lt, slice_index, slice_set}
use Rattle.nodes.specs.Limits.{max_bytes, max_document, max_level}
use Rattle.nodes.specs.Whole.{Whole, ends, stopped, more}
use Rattle.nodes.specs.declared.refusal.Refusal.{Refusal}
use Rattle.nodes.specs.declared.refusal.Refusal.TheVariants.{TooLong, Misplaced, DocumentOrder, TooDeep, OutsideElement, CloseElsewhere}
use Rattle.nodes.specs.declared.row.Row.{Row}
use Rattle.nodes.specs.declared.tagged.Tagged.{Tagged}
use Rattle.tapes.specs.declared.command.Command.{Command}
use Rattle.tapes.specs.declared.command.Command.TheVariants.{Begin, Open, Close, Value, End}
use Rattle.tapes.specs.declared.stage.Stage.{Stage}
use Rattle.tapes.specs.declared.stage.Stage.TheVariants.{Outside, Begun, Rooted}
use Rattle.tapes.specs.Command.{command_in}

-- where a reading stands: the offset of the next command, the document, the least number that the next document
-- may have, and the open elements: how many, and their CLOSE offsets, the outermost first
pub record Reading : Type 0 where
  pub at : ℕ
  pub stage : Stage
  pub document : ℕ
  pub least : ℕ
  pub depth : ℕ
  pub path : List ℕ

-- where every reading begins
abbrev pub start : Reading
start = record { at = 0; stage = Outside; document = 0; least = 0; depth = 0; path = replicate max_level 0 }

-- the CLOSE offset of the innermost open element
abbrev pub innermost : Reading → ℕ
innermost s = slice_index s.path (s.depth - 1)

-- a test: the refusal where it fails, and else what comes next
abbrev pub test : Bool → Refusal → Option Refusal → Option Refusal
test true f next = next
test false f next = Some f

abbrev pub outside : Stage → Bool
outside Outside = true
outside Begun = false
outside Rooted = false

abbrev pub begun : Stage → Bool
begun Outside = false
begun Begun = true
begun Rooted = false

abbrev pub rooted : Stage → Bool
rooted Outside = false
rooted Begun = false
rooted Rooted = true

-- the first refusal that applies to a command in a tape of n bytes
abbrev pub judge : ℕ → Reading → Command → Option Refusal
judge n s (Begin d) =
    test (outside s.stage) Misplaced
    (test (nat_le d max_document) DocumentOrder
    (test (nat_le s.least d) DocumentOrder None))
judge n s (Open t c) =
    cond (nat_lt 0 s.depth)
    (test (nat_lt s.depth max_level) TooDeep
    (test (nat_lt s.at (innermost s)) OutsideElement
    (test (nat_le (s.at + 7) c) OutsideElement
    (test (nat_lt c (innermost s)) OutsideElement None))))
    (test (begun s.stage) Misplaced
    (test (nat_le (s.at + 7) c) OutsideElement
    (test (nat_lt c n) OutsideElement None)))
judge n s Close =
    test (nat_lt 0 s.depth) Misplaced
    (test (s.at == innermost s) CloseElsewhere None)
judge n s (Value t v) =
    test (nat_lt 0 s.depth) Misplaced
    (test (nat_lt s.depth max_level) TooDeep
    (test (nat_lt s.at (innermost s)) OutsideElement None))
judge n s End =
    test (rooted s.stage) Misplaced
    (test (s.depth == 0) Misplaced None)

-- what a command does: it is refused, it moves the reading on, or it makes a node too
pub data Move : Type 0 where
  refused : Refusal → Move
  moved : Reading → Move
  made : Tagged → Reading → Move

abbrev pub row_at : ℕ → ℕ → ℕ → ℕ → Row
row_at d s e l = record { document = d; start = s; end = e; level = l }

-- a node that begins at the place of the reading and ends at e
abbrev pub node_at : Reading → ℕ → ℕ → Tagged
node_at s t e = record { tag = t; row = row_at s.document s.at e (s.depth + 1) }

-- what a command does where nothing refuses it
abbrev pub done : Reading → Command → Move
done s (Begin d) =
    moved (record { at = s.at + 5; stage = Begun; document = d; least = d + 1; depth = s.depth; path = s.path })
done s (Open t c) =
    made (node_at s t c)
    (record { at = s.at + 7; stage = Rooted; document = s.document; least = s.least; depth = s.depth + 1; path = slice_set s.path s.depth c })
done s Close =
    moved (record { at = s.at + 1; stage = s.stage; document = s.document; least = s.least; depth = s.depth - 1; path = s.path })
done s (Value t v) =
    made (node_at s t s.at)
    (record { at = s.at + 7; stage = s.stage; document = s.document; least = s.least; depth = s.depth; path = s.path })
done s End =
    moved (record { at = s.at + 1; stage = Outside; document = s.document; least = s.least; depth = s.depth; path = s.path })

abbrev pub unless : Option Refusal → Move → Move
unless None m = m
unless (Some f) m = refused f

-- what a command does in a tape of n bytes
abbrev pub move : ℕ → Reading → Command → Move
move n s k = unless (judge n s k) (done s k)

abbrev pub move_by : ℕ → Reading → Result Command Refusal → Move
move_by n s (Ok k) = move n s k
move_by n s (Err f) = refused f

-- what the command at the place of the reading does
abbrev pub step : List ℕ → Reading → Move
step bs s = move_by (length bs) s (command_in (drop s.at bs))

-- a tape ends well outside a document only
abbrev pub end_at : Stage → ℕ → Whole
end_at Outside n = ends None
end_at Begun n = stopped Misplaced n
end_at Rooted n = stopped Misplaced n

abbrev pub onward : Reading → Move → (Reading → Whole) → Whole
onward s (refused f) go = stopped f s.at
onward s (moved t) go = go t
onward s (made x t) go = more x (go t)

-- what a tape reads as from a place on, by at most so many commands
unfoldable pub read_from : ℕ → List ℕ → Reading → Whole
read_from zero bs s = end_at s.stage (length bs)
read_from (suc f) bs s =
    cond (nat_lt s.at (length bs)) (onward s (step bs s) (read_from f bs)) (end_at s.stage (length bs))

-- a command takes a byte at least, so there are no more commands than bytes left
unfoldable pub reads : List ℕ → Reading → Whole
reads bs s = read_from (length bs - s.at) bs s

-- the same, but that a tape that is too long reads as nothing
unfoldable pub reads_on : List ℕ → Reading → Whole
reads_on bs s = cond (nat_le (length bs) max_bytes) (reads bs s) (stopped TooLong 0)

-- what the bytes of a tape read as
abbrev pub tape_reads : List ℕ → Whole
tape_reads bs = reads_on bs start
