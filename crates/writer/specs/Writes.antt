use Rattle.std.specs.Prelude.{◌≡◌, ℕ, ◌≤◌, List, [], ◌∷◌, ◌++◌, length, take, drop, Some, Ok, Err, Option, ◌≢◌}
use Rattle.nodes.specs.declared.refusal.Refusal.TheVariants.{BrokenOpen}
use Rattle.tapes.specs.Forest.{Forest, encode, Fine}
use Rattle.tapes.specs.Check.{TapeOf}
use Rattle.writer.specs.Calls.{Answer, calls_of, draft_calls, put_in, answers, accepted, bytes_of_draft, over, finished_in, finished_length}
use Rattle.writer.specs.declared.call.WriterCall.{WriterCall}

-- some bytes start with others
abbrev pub StartsWith : List ℕ → List ℕ → Type 0
StartsWith front bs = take (length front) bs ≡ front

-- no call was refused because the innermost OPEN was changed
abbrev pub Unbroken : List Answer → Type 0
Unbroken [] = Unit {0}
Unbroken (Ok u ∷ got) = Unbroken got
Unbroken (Err e ∷ got) = (e.refusal ≢ BrokenOpen) × Unbroken got

-- calls put a forest in: the accepted ones are its calls, in their order, and the bytes are its tape
pub record PutsIn (cs : List WriterCall) (got : List Answer) (bs : List ℕ) (f : Forest) : Type 0 where
  pub calls : accepted cs got ≡ calls_of f
  pub tape : TapeOf bs f

-- all calls were accepted, and the forest's bytes are there and finished
pub record AllAccepted (cs : List WriterCall) (got : List Answer) (bs : List ℕ) (f : Forest) (r : Option ℕ) : Type 0 where
  pub calls : accepted cs got ≡ cs
  pub bytes : StartsWith (encode f) bs
  pub result : r ≡ Some (length (encode f))

-- the calls cs from a fresh writer on, where the caller's bytes were old and are new, got is what they are answered, and r
-- is the finished length, or none where the writer is left inside a document
pub record Writes (cs : List WriterCall) (old new : List ℕ) (got : List Answer) (r : Option ℕ) : Type 0 where
  -- every byte: those of what was put in, and behind them those that were there
  pub bytes : new ≡ over (bytes_of_draft (put_in old cs)) old
  -- every answer, and that the accepted calls are those of what was put in
  pub answers : got ≡ answers old cs
  pub puts : accepted cs got ≡ draft_calls (put_in old cs)
  pub unbroken : Unbroken got
  pub result : r ≡ finished_length (put_in old cs)
  -- a writer left outside has put a forest in, and the finished bytes are its tape
  pub forest : (n : ℕ) → r ≡ Some n → (f : Forest) × PutsIn cs got (take n new) f
  -- documents that were finished at any time stand
  pub stand : (first rest : List WriterCall) → cs ≡ first ++ rest → StartsWith (encode (finished_in (put_in old first))) new
  -- a fine forest that fits is written by its calls
  pub writable : (f : Forest) → Fine f → length (encode f) ≤ length old → cs ≡ calls_of f → AllAccepted cs got new f r

-- as many calls as there are answers for; the answers behind theirs are as they were
pub record WritesAll (calls : List WriterCall) (old new : List ℕ) (before after : List Answer) (r : Option ℕ) : Type 0 where
  pub writes : Writes (take (length before) calls) old new (take (length calls) after) r
  pub behind : drop (length calls) after ≡ drop (length calls) before
