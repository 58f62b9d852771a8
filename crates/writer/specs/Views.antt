use Rattle.std.specs.Prelude.{◌≡◌, ℕ, List, Some, None, Ok, Err, Option, Result}
use Rattle.nodes.specs.declared.refusal.Refusal.{Refusal}
use Rattle.writer.specs.Writer.{Out, In, begin_refusal, open_refusal, value_refusal, close_refusal, end_refusal, begun, opened, valued, closed, ended, begin_bytes, open_bytes, value_bytes, close_bytes, end_bytes}
use Rattle.writer.specs.declared.state.WriterOutside.{WriterOutside}
use Rattle.writer.specs.declared.state.WriterInside.{WriterInside}
use Rattle.writer.specs.Root.{is_rooted, depth_of, innermost_of}
use Rattle.writer.specs.declared.fault.WriteFault.{WriteFault}
use Rattle.writer.specs.declared.state.GivenBack.{GivenBack}

-- the numbers of a writer
abbrev pub out : WriterOutside → Out
out w = record { length = w.length; least = w.least }

abbrev pub ins : WriterInside → In
ins w = record { length = w.length; least = w.least; rooted = is_rooted w.root; depth = depth_of w.root; innermost = innermost_of w.root }

-- a refused call: the first refusal that applies, at the bytes written, and no byte is changed
pub record Refuses (first : Option Refusal) (length : ℕ) (old new : List ℕ) (e : WriteFault) : Type 0 where
  pub refusal : first ≡ Some e.refusal
  pub place : e.place ≡ length
  pub bytes : new ≡ old

-- an accepted call: nothing refuses it, the writer goes on, and these are all the bytes
pub record Accepts {W : Type 0} (first : Option Refusal) (w w' : W) (new after : List ℕ) : Type 0 where
  pub none : first ≡ None
  pub writer : w' ≡ w
  pub bytes : new ≡ after

abbrev pub Begins : List ℕ → List ℕ → Out → ℕ → Result WriterInside (GivenBack WriterOutside) → Type 0
Begins old new w d (Ok v) = Accepts (begin_refusal old w d) (begun w d) (ins v) new (begin_bytes w d old)
Begins old new w d (Err e) = Refuses (begin_refusal old w d) w.length old new e.fault × (out e.writer ≡ w)

abbrev pub Opens : List ℕ → List ℕ → In → In → ℕ → Result (Unit {0}) WriteFault → Type 0
Opens old new w v t (Ok u) = Accepts (open_refusal old w) (opened w) v new (open_bytes w t old)
Opens old new w v t (Err e) = Refuses (open_refusal old w) w.length old new e × (v ≡ w)

abbrev pub Values : List ℕ → List ℕ → In → In → ℕ → ℕ → Result (Unit {0}) WriteFault → Type 0
Values old new w v t n (Ok u) = Accepts (value_refusal old w) (valued w) v new (value_bytes w t n old)
Values old new w v t n (Err e) = Refuses (value_refusal old w) w.length old new e × (v ≡ w)

abbrev pub Closes : List ℕ → List ℕ → In → In → Result (Unit {0}) WriteFault → Type 0
Closes old new w v (Ok u) = Accepts (close_refusal old w) (closed old w) v new (close_bytes w old)
Closes old new w v (Err e) = Refuses (close_refusal old w) w.length old new e × (v ≡ w)

abbrev pub Ends : List ℕ → List ℕ → In → Result WriterOutside (GivenBack WriterInside) → Type 0
Ends old new w (Ok v) = Accepts (end_refusal old w) (ended w) (out v) new (end_bytes w old)
Ends old new w (Err e) = Refuses (end_refusal old w) w.length old new e.fault × (ins e.writer ≡ w)
