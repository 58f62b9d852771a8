use Rattle.std.specs.Prelude.{ℕ, ◌<◌, List, [], ◌∷◌, ◌++◌, Ok, Err}
use Rattle.writer.specs.Writer
use Rattle.writer.specs.Views.{out, ins, Begins, Opens, Values, Closes, Ends}
use Rattle.writer.specs.Turns.{State, free, busy, length_of}
use Rattle.writer.specs.Calls.{Answer}
use Rattle.writer.specs.Writes.{Writes}
use Rattle.writer.specs.declared.call.WriterCall.{WriterCall}
use Rattle.writer.specs.declared.call.WriterCall.TheVariants.{Begin, Open, Value, Close, End}
use Rattle.writer.specs.declared.state.GivenBack.{GivenBack}
use Rattle.writer.specs.declared.state.WriterOutside.{WriterOutside}
use Rattle.writer.specs.declared.state.WriterInside.{WriterInside}

-- one call on a writer, by that call's contract: the bytes before and after, the writer before, the call, the writer after
-- and the answer
pub data Called (old new : List ℕ) : State → WriterCall → State → Answer → Type 0 where
  begun : (w : WriterOutside) (v : WriterInside) (d : ℕ) → Begins old new (out w) d (Ok v) → Called old new (free (out w)) (Begin d) (busy (ins v)) (Ok tt)
  not-begun : (w : WriterOutside) (e : GivenBack WriterOutside) (d : ℕ) → Begins old new (out w) d (Err e)
      → Called old new (free (out w)) (Begin d) (free (out e.writer)) (Err e.fault)
  opened : (w v : WriterInside) (t : ℕ) (r : Answer) → t < 65536 → Opens old new (ins w) (ins v) t r
      → Called old new (busy (ins w)) (Open t) (busy (ins v)) r
  valued : (w v : WriterInside) (t n : ℕ) (r : Answer) → t < 65536 → n < 4294967296 → Values old new (ins w) (ins v) t n r
      → Called old new (busy (ins w)) (Value t n) (busy (ins v)) r
  closed : (w v : WriterInside) (r : Answer) → Closes old new (ins w) (ins v) r
      → Called old new (busy (ins w)) Close (busy (ins v)) r
  ended : (w : WriterInside) (v : WriterOutside) → Ends old new (ins w) (Ok v) → Called old new (busy (ins w)) End (free (out v)) (Ok tt)
  not_ended : (w : WriterInside) (e : GivenBack WriterInside) → Ends old new (ins w) (Err e)
      → Called old new (busy (ins w)) End (busy (ins e.writer)) (Err e.fault)

-- calls from a fresh writer on, each given the bytes as the call before left them: the calls, the bytes and the writer after
-- them, and the answers
pub data History (old : List ℕ) : List WriterCall → List ℕ → State → List Answer → Type 0 where
  fresh : History old [] old (free Writer.fresh) []
  then : {cs : List WriterCall} {bs bs' : List ℕ} {s s' : State} {c : WriterCall} {a : Answer} {got : List Answer}
      → History old cs bs s got → Called bs bs' s c s' a → History old (cs ++ (c ∷ [])) bs' s' (got ++ (a ∷ []))

-- every history of calls writes what a list of these calls writes
abbrev pub EveryHistory : Type 0
EveryHistory = (old : List ℕ) (cs : List WriterCall) (new : List ℕ) (s : State) (got : List Answer)
    → History old cs new s got → Writes cs old new got (length_of s)
