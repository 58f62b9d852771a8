use Rattle.std.specs.Prelude.{◌≡◌, ℕ, ◌+◌, ◌≤◌, Bool, true, false, List, ◌∷◌, length, Some, None, Option}
use Rattle.nodes.specs.Limits.{max_bytes}
use Rattle.tapes.specs.Draft.{Draft, between, begun, within, rooted, size_of, open_size, draft_size, least_of, FineDraft}
use Rattle.tapes.specs.Forest.{size}
use Rattle.writer.specs.Root.{no_open}
use Rattle.writer.specs.Writer.{Out, In}
use Rattle.writer.specs.Views.{out, ins}
use Rattle.writer.specs.Calls.{Answer, after, answer, put_in, answers, bytes_of_draft, over}
use Rattle.writer.specs.declared.call.WriterCall.{WriterCall}
use Rattle.writer.specs.declared.write.Turn.{Turn}
use Rattle.writer.specs.declared.write.Writer.{Writer}
use Rattle.writer.specs.declared.write.Writer.TheVariants.{Outside, Inside}

-- the numbers of a writer, outside or inside a document
pub data State : Type 0 where
  free : Out → State
  busy : In → State

abbrev pub state_of : Writer → State
state_of (Outside w) = free (out w)
state_of (Inside w) = busy (ins w)

abbrev pub out_numbers : (length least : ℕ) → Out
out_numbers n l = record { length = n; least = l }

abbrev pub in_numbers : (length least : ℕ) → (rooted : Bool) → (depth innermost : ℕ) → In
in_numbers n l r d i = record { length = n; least = l; rooted = r; depth = d; innermost = i }

-- the numbers that a writer has where a draft is written
abbrev pub Stands : State → Draft → Type 0
Stands (free w) (between f) = w ≡ out_numbers (size_of f) (least_of 0 f)
Stands (free w) (begun f n) = ⊥
Stands (free w) (within f n around x) = ⊥
Stands (free w) (rooted f n t c) = ⊥
Stands (busy w) (between f) = ⊥
Stands (busy w) (begun f n) = w ≡ in_numbers (size_of f + 5) (n + 1) false 0 0
Stands (busy w) (within f n around x) =
    w ≡ in_numbers (size_of f + 5 + open_size (x ∷ around)) (n + 1) true (length around + 1) (size_of f + 5 + open_size around)
Stands (busy w) (rooted f n t c) = w ≡ in_numbers (size_of f + 5 + (8 + size c)) (n + 1) true 0 no_open

-- the caller's bytes were old and are new, a draft is written in them, and the writer stands behind it
pub record Holds (old new : List ℕ) (s : State) (d : Draft) : Type 0 where
  pub bytes : new ≡ over (bytes_of_draft d) old
  pub stands : Stands s d
  pub fits : draft_size d ≤ length old
  pub short : draft_size d ≤ max_bytes
  pub fine : FineDraft d

-- one call more, and what it is answered
pub record Made (old new : List ℕ) (s : State) (d : Draft) (c : WriterCall) (a : Answer) : Type 0 where
  pub answers : a ≡ answer old d c
  pub holds : Holds old new s (after old d c)

-- a call on a writer, whatever it has written: the bytes and the writer before, the call, the bytes after, and the turn
abbrev pub Turns : List ℕ → State → WriterCall → List ℕ → Turn → Type 0
Turns bs s c bs' r = (old : List ℕ) (d : Draft) → Holds old bs s d → Made old bs' (state_of r.writer) d c r.answer

-- how a writer is left
abbrev pub length_of : State → Option ℕ
length_of (free w) = Some w.length
length_of (busy w) = None

-- some calls are made: what they put in is written, and the answers are over those before
pub record Far (cs : List WriterCall) (old new : List ℕ) (s : State) (before got : List Answer) : Type 0 where
  pub holds : Holds old new s (put_in old cs)
  pub answers : got ≡ over (answers old cs) before
