use Rattle.std.specs.Prelude.{ℕ, ◌+◌, ◌-◌, Bool, true, false, cond, ◌&&◌, List, [], ◌++◌, length, take, drop, Some, None, Option, ◌==◌, nat_le, nat_lt, slice_index}
use Rattle.nodes.specs.Limits.{max_bytes, max_document, max_level}
use Rattle.nodes.specs.Bytes.{four, four_at}
use Rattle.nodes.specs.declared.refusal.Refusal.{Refusal}
use Rattle.nodes.specs.declared.refusal.Refusal.TheVariants.{Misplaced, DocumentOrder, TooDeep, NoRoom, BrokenOpen}
use Rattle.tapes.specs.declared.command.Command.TheVariants.{Begin, Open, Close, Value, End}
use Rattle.tapes.specs.Command.{bytes_of}
use Rattle.tapes.specs.Reading.{test}
use Rattle.writer.specs.Root.{no_open}
use Rattle.writer.specs.declared.fault.WriteFault.{WriteFault}

-- some bytes with others written over them from a place on
abbrev pub written : ℕ → List ℕ → List ℕ → List ℕ
written at new old = take at old ++ (new ++ drop (at + length new) old)

-- the numbers of a writer outside a document: the bytes written, and the least number of the next document
pub record Out : Type 0 where
  pub length : ℕ
  pub least : ℕ

-- the numbers of a writer inside a document: also whether the root was opened, how many elements are open, and the
-- offset of the innermost OPEN
pub record In : Type 0 where
  pub length : ℕ
  pub least : ℕ
  pub rooted : Bool
  pub depth : ℕ
  pub innermost : ℕ

abbrev pub fresh : Out
fresh = record { length = 0; least = 0 }

-- so many bytes more pass neither the caller's bytes nor a tape's
abbrev pub room : ℕ → ℕ → List ℕ → Bool
room at n bs = nat_le (at + n) (length bs) && nat_le (at + n) max_bytes

-- what an open element's last operand holds: the offset of the OPEN around it, and none for a root
abbrev pub around : In → ℕ
around w = cond (w.depth == 0) no_open w.innermost

-- what the last operand of the OPEN at an offset holds in the caller's bytes
abbrev pub held_at : List ℕ → (at : ℕ) → ℕ
held_at bs at = four_at bs (at + 3)

-- the OPEN of an element at a depth and an offset is as the writer left it: its byte, and its operand an earlier offset, or
-- none for a root
abbrev pub intact_at : List ℕ → (depth at : ℕ) → Bool
intact_at bs d at = slice_index bs at == 2 && cond (d == 1) (held_at bs at == no_open) (nat_lt (held_at bs at) at)

-- the same of the innermost OPEN
abbrev pub held_by : List ℕ → In → ℕ
held_by bs w = held_at bs w.innermost

abbrev pub intact : List ℕ → In → Bool
intact bs w = intact_at bs w.depth w.innermost

-- the fault of a refusal at a place, which is how many bytes are written
abbrev pub fault_at : (place : ℕ) → Refusal → WriteFault
fault_at n f = record { refusal = f; place = n }

-- the first refusal of each call
abbrev pub begin_refusal : List ℕ → Out → ℕ → Option Refusal
begin_refusal bs w d =
    test (nat_le d max_document) DocumentOrder
    (test (nat_le w.least d) DocumentOrder
    (test (room w.length 5 bs) NoRoom None))

abbrev pub open_refusal : List ℕ → In → Option Refusal
open_refusal bs w =
    cond (w.depth == 0)
    (cond w.rooted (Some Misplaced) (test (room w.length 7 bs) NoRoom None))
    (test (nat_lt w.depth max_level) TooDeep
    (test (room w.length 7 bs) NoRoom None))

abbrev pub value_refusal : List ℕ → In → Option Refusal
value_refusal bs w =
    test (nat_lt 0 w.depth) Misplaced
    (test (nat_lt w.depth max_level) TooDeep
    (test (room w.length 7 bs) NoRoom None))

abbrev pub close_refusal : List ℕ → In → Option Refusal
close_refusal bs w =
    test (nat_lt 0 w.depth) Misplaced
    (test (room w.length 1 bs) NoRoom
    (test (intact bs w) BrokenOpen None))

abbrev pub end_refusal : List ℕ → In → Option Refusal
end_refusal bs w =
    test w.rooted Misplaced
    (test (w.depth == 0) Misplaced
    (test (room w.length 1 bs) NoRoom None))

-- the writer after each call
abbrev pub begun : Out → ℕ → In
begun w d = record { length = w.length + 5; least = d + 1; rooted = false; depth = 0; innermost = 0 }

abbrev pub opened : In → In
opened w = record { length = w.length + 7; least = w.least; rooted = true; depth = w.depth + 1; innermost = w.length }

abbrev pub valued : In → In
valued w = record { length = w.length + 7; least = w.least; rooted = w.rooted; depth = w.depth; innermost = w.innermost }

abbrev pub closed : List ℕ → In → In
closed bs w = record { length = w.length + 1; least = w.least; rooted = w.rooted; depth = w.depth - 1; innermost = held_by bs w }

abbrev pub ended : In → Out
ended w = record { length = w.length + 1; least = w.least }

-- the bytes after each call
abbrev pub begin_bytes : Out → ℕ → List ℕ → List ℕ
begin_bytes w d old = written w.length (bytes_of (Begin d)) old

abbrev pub open_bytes : In → ℕ → List ℕ → List ℕ
open_bytes w t old = written w.length (bytes_of (Open t (around w))) old

abbrev pub value_bytes : In → ℕ → ℕ → List ℕ → List ℕ
value_bytes w t n old = written w.length (bytes_of (Value t n)) old

-- close gives the innermost OPEN its true CLOSE offset
abbrev pub close_bytes : In → List ℕ → List ℕ
close_bytes w old = written w.length (bytes_of Close) (written (w.innermost + 3) (four w.length []) old)

abbrev pub end_bytes : In → List ℕ → List ℕ
end_bytes w old = written w.length (bytes_of End) old
