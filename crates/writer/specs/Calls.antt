use Rattle.std.specs.Prelude.{ℕ, ◌+◌, List, [], ◌∷◌, ◌++◌, length, drop, Some, None, Ok, Err, Option, Result, nat_le, nat_lt}
use Rattle.nodes.specs.Limits.{max_document, max_level}
use Rattle.nodes.specs.declared.refusal.Refusal.{Refusal}
use Rattle.nodes.specs.declared.refusal.Refusal.TheVariants.{Misplaced, DocumentOrder, TooDeep, NoRoom}
use Rattle.tapes.specs.Reading.{test}
use Rattle.tapes.specs.Forest.{Children, none, value, element, Forest, size, encode}
use Rattle.tapes.specs.Draft.{Opened, Draft, between, begun, within, rooted, opened, document, grown, closed, size_of, open_size, draft_size, least_of, Operand, draft_bytes}
use Rattle.writer.specs.Root.{no_open}
use Rattle.writer.specs.Writer.{room, fault_at}
use Rattle.writer.specs.declared.call.WriterCall.{WriterCall}
use Rattle.writer.specs.declared.call.WriterCall.TheVariants.{Begin, Open, Value, Close, End}
use Rattle.writer.specs.declared.fault.WriteFault.{WriteFault}

-- the calls that put children in, in front of others
abbrev pub calls_in : Children → List WriterCall → List WriterCall
calls_in none more = more
calls_in (value t n after) more = Value t n ∷ calls_in after more
calls_in (element t inside after) more = Open t ∷ calls_in inside (Close ∷ calls_in after more)

-- the calls that put a forest in
abbrev pub calls_of : Forest → List WriterCall
calls_of [] = []
calls_of (x ∷ f) = Begin x.number ∷ Open x.tag ∷ calls_in x.children (Close ∷ End ∷ calls_of f)

-- the calls that put a draft in
abbrev pub open_calls : List Opened → List WriterCall
open_calls [] = []
open_calls (x ∷ around) = open_calls around ++ (Open x.tag ∷ calls_in x.children [])

abbrev pub draft_calls : Draft → List WriterCall
draft_calls (between f) = calls_of f
draft_calls (begun f n) = calls_of f ++ (Begin n ∷ [])
draft_calls (within f n around x) = (calls_of f ++ (Begin n ∷ [])) ++ open_calls (x ∷ around)
draft_calls (rooted f n t c) = (calls_of f ++ (Begin n ∷ [])) ++ (Open t ∷ calls_in c (Close ∷ []))

-- a call, judged: the draft that it leaves where it is accepted, and the first refusal
pub record Verdict : Type 0 where
  pub draft : Draft
  pub refusal : Option Refusal

abbrev pub judged : Draft → Option Refusal → Verdict
judged d f = record { draft = d; refusal = f }

abbrev pub misplaced : Draft → Verdict
misplaced d = judged d (Some Misplaced)

-- each call on each draft, where these are the caller's bytes
abbrev pub verdict : List ℕ → Draft → WriterCall → Verdict
verdict old (between f) (Begin m) =
    judged (begun f m)
    (test (nat_le m max_document) DocumentOrder
    (test (nat_le (least_of 0 f) m) DocumentOrder
    (test (room (size_of f) 5 old) NoRoom None)))
verdict old (between f) (Open u) = misplaced (between f)
verdict old (between f) (Value u v) = misplaced (between f)
verdict old (between f) Close = misplaced (between f)
verdict old (between f) End = misplaced (between f)
verdict old (begun f n) (Begin m) = misplaced (begun f n)
verdict old (begun f n) (Open u) = judged (within f n [] (opened u none)) (test (room (size_of f + 5) 7 old) NoRoom None)
verdict old (begun f n) (Value u v) = misplaced (begun f n)
verdict old (begun f n) Close = misplaced (begun f n)
verdict old (begun f n) End = misplaced (begun f n)
verdict old (within f n around x) (Begin m) = misplaced (within f n around x)
verdict old (within f n around x) (Open u) =
    judged (within f n (x ∷ around) (opened u none))
    (test (nat_lt (length around + 1) max_level) TooDeep
    (test (room (size_of f + 5 + open_size (x ∷ around)) 7 old) NoRoom None))
verdict old (within f n around x) (Value u v) =
    judged (within f n around (grown x (value u v none)))
    (test (nat_lt (length around + 1) max_level) TooDeep
    (test (room (size_of f + 5 + open_size (x ∷ around)) 7 old) NoRoom None))
verdict old (within f n around x) Close = judged (closed f n around x) (test (room (size_of f + 5 + open_size (x ∷ around)) 1 old) NoRoom None)
verdict old (within f n around x) End = misplaced (within f n around x)
verdict old (rooted f n t c) (Begin m) = misplaced (rooted f n t c)
verdict old (rooted f n t c) (Open u) = misplaced (rooted f n t c)
verdict old (rooted f n t c) (Value u v) = misplaced (rooted f n t c)
verdict old (rooted f n t c) Close = misplaced (rooted f n t c)
verdict old (rooted f n t c) End = judged (between (f ++ (document n t c ∷ []))) (test (room (size_of f + 5 + (8 + size c)) 1 old) NoRoom None)

abbrev pub judge : List ℕ → Draft → WriterCall → Option Refusal
judge old d c = (verdict old d c).refusal

abbrev pub put : List ℕ → Draft → WriterCall → Draft
put old d c = (verdict old d c).draft

-- what a draft is after a call: as it was, where the call is refused
abbrev pub unless_refused : Option Refusal → Draft → Draft → Draft
unless_refused None new old = new
unless_refused (Some f) new old = old

abbrev pub after : List ℕ → Draft → WriterCall → Draft
after old d c = unless_refused (judge old d c) (put old d c) d

-- what a call is answered: a refusal is told with the bytes written
abbrev pub Answer : Type 0
Answer = Result (Unit {0}) WriteFault

abbrev pub answer_at : ℕ → Option Refusal → Answer
answer_at at None = Ok tt
answer_at at (Some f) = Err (fault_at at f)

abbrev pub answer : List ℕ → Draft → WriterCall → Answer
answer old d c = answer_at (draft_size d) (judge old d c)

-- calls one after another: what they put in, and what they are answered
abbrev pub put_from : List ℕ → Draft → List WriterCall → Draft
put_from old d [] = d
put_from old d (c ∷ cs) = put_from old (after old d c) cs

abbrev pub answers_from : List ℕ → Draft → List WriterCall → List Answer
answers_from old d [] = []
answers_from old d (c ∷ cs) = answer old d c ∷ answers_from old (after old d c) cs

-- the same from a fresh writer on
abbrev pub put_in : List ℕ → List WriterCall → Draft
put_in old cs = put_from old (between []) cs

abbrev pub answers : List ℕ → List WriterCall → List Answer
answers old cs = answers_from old (between []) cs

-- the calls that were accepted
abbrev pub cons_if : Answer → WriterCall → List WriterCall → List WriterCall
cons_if (Ok u) c cs = c ∷ cs
cons_if (Err e) c cs = cs

abbrev pub accepted : List WriterCall → List Answer → List WriterCall
accepted [] got = []
accepted (c ∷ cs) [] = []
accepted (c ∷ cs) (a ∷ got) = cons_if a c (accepted cs got)

-- an open element's last operand holds the offset of the OPEN around it, and none for a root
abbrev pub around_at : Operand
around_at at [] = no_open
around_at at (x ∷ around) = at + open_size around

-- the bytes that a draft has while it is written
abbrev pub bytes_of_draft : Draft → List ℕ
bytes_of_draft d = draft_bytes around_at d

-- a list with others in the place of its first ones
abbrev pub over : {A : Type 0} → List A → List A → List A
over new old = new ++ drop (length new) old

-- the finished documents of a draft, and the finished length where there is nothing else
abbrev pub finished_in : Draft → Forest
finished_in (between f) = f
finished_in (begun f n) = f
finished_in (within f n around x) = f
finished_in (rooted f n t c) = f

abbrev pub finished_length : Draft → Option ℕ
finished_length (between f) = Some (length (encode f))
finished_length (begun f n) = None
finished_length (within f n around x) = None
finished_length (rooted f n t c) = None
