use Rattle.std.proofs.Common.{◌≡◌, ℕ, zero, suc, ◌-◌, ◌<◌, ◌≤◌, List, length, drop, Some, None, Ok, Err, Option, Result, sym, refl, ap, ◌∙◌, inl, inr, arith}
use Rattle.std.proofs.lemmas.Bool.{lt-ltb, le-ltb, le-leb, lt-leb, cases_lt}
use Rattle.nodes.specs.Limits.{max_bytes}
use Rattle.nodes.specs.Whole.{Whole, stopped, more}
use Rattle.nodes.specs.declared.refusal.Refusal.{Refusal}
use Rattle.nodes.specs.declared.refusal.Refusal.TheVariants.{TooLong}
use Rattle.tapes.specs.declared.command.Command.{Command}
use Rattle.tapes.specs.declared.command.Command.TheVariants.{Begin, Open, Close, Value, End}
use Rattle.tapes.specs.Command.{command_in}
use Rattle.tapes.specs.Reading.{Reading, Move, refused, moved, made, judge, done, unless, move_by, step, end_at, onward, read_from, reads, reads_on}

-- a command that is not refused moves the reading on
abbrev pub Forward : Reading → Move → Type 0
Forward s (refused f) = Unit {0}
Forward s (moved t) = s.at < t.at
Forward s (made x t) = s.at < t.at

forward-done : (s : Reading) (k : Command) → Forward s (done s k)
forward-done s (Begin d) = omega arith
forward-done s (Open t c) = omega arith
forward-done s Close = omega arith
forward-done s (Value t v) = omega arith
forward-done s End = omega arith

forward-unless : (s : Reading) (j : Option Refusal) (m : Move) → Forward s m → Forward s (unless j m)
forward-unless s None m p = p
forward-unless s (Some f) m p = tt

forward_by : (n : ℕ) (s : Reading) (r : Result Command Refusal) → Forward s (move_by n s r)
forward_by n s (Ok k) = forward-unless s (judge n s k) (done s k) (forward-done s k)
forward_by n s (Err f) = tt

pub forward : (bs : List ℕ) (s : Reading) → Forward s (step bs s)
forward bs s = forward_by (length bs) s (command_in (drop s.at bs))

-- past the last byte, and before it
beyond : (f : ℕ) (bs : List ℕ) (s : Reading) → length bs ≤ s.at → read_from f bs s ≡ end_at s.stage (length bs)
unfolding read_from
beyond zero bs s h = refl
beyond (suc f) bs s h = rw (le-ltb s.at (length bs) h) refl

within : (f : ℕ) (bs : List ℕ) (s : Reading) → s.at < length bs → read_from (suc f) bs s ≡ onward s (step bs s) (read_from f bs)
unfolding read_from
within f bs s h = rw (lt-ltb s.at (length bs) h) refl

onward_same : (s : Reading) (m : Move) (go on : Reading → Whole) → Forward s m
    → ((t : Reading) → s.at < t.at → go t ≡ on t) → onward s m go ≡ onward s m on
onward_same s (refused f) go on h e = refl
onward_same s (moved t) go on h e = e t h
onward_same s (made x t) go on h e = ap (more x) (e t h)

-- any number of commands that suffices gives the same
same_fuel : (f g : ℕ) (bs : List ℕ) (s : Reading) → length bs - s.at ≤ f → length bs - s.at ≤ g → read_from f bs s ≡ read_from g bs s
same_fuel zero g bs s h k = beyond zero bs s (omega arith) ∙ sym (beyond g bs s (omega arith))
same_fuel (suc f) zero bs s h k = beyond (suc f) bs s (omega arith) ∙ sym (beyond zero bs s (omega arith))
same_fuel (suc f) (suc g) bs s h k =
    elim (cases_lt s.at (length bs)) [
      | inl lt ↦ within f bs s lt
          ∙ onward_same s (step bs s) (read_from f bs) (read_from g bs) (forward bs s) (λ t u. same_fuel f g bs t (omega arith) (omega arith))
          ∙ sym (within g bs s lt)
      | inr le ↦ beyond (suc f) bs s le ∙ sym (beyond (suc g) bs s le)
    ]

-- one command, and the rest
pub reads-step : (bs : List ℕ) (s : Reading) → s.at < length bs → reads bs s ≡ onward s (step bs s) (reads bs)
unfolding reads
reads-step bs s h =
    same_fuel (length bs - s.at) (suc (length bs - s.at)) bs s (omega arith) (omega arith)
    ∙ within (length bs - s.at) bs s h
    ∙ onward_same s (step bs s) (read_from (length bs - s.at) bs) (λ t. read_from (length bs - t.at) bs t) (forward bs s)
    (λ t u. same_fuel (length bs - s.at) (length bs - t.at) bs t (omega arith) (omega arith))

pub reads_end : (bs : List ℕ) (s : Reading) → length bs ≤ s.at → reads bs s ≡ end_at s.stage (length bs)
unfolding reads
reads_end bs s h = beyond (length bs - s.at) bs s h

-- the same of a tape that is not too long, and of one that is
pub short_reads : (bs : List ℕ) (s : Reading) → length bs ≤ max_bytes → reads_on bs s ≡ reads bs s
unfolding reads_on
short_reads bs s h = rw (le-leb (length bs) max_bytes h) refl

pub long_reads : (bs : List ℕ) (s : Reading) → max_bytes < length bs → reads_on bs s ≡ stopped TooLong 0
unfolding reads_on
long_reads bs s h = rw (lt-leb (length bs) max_bytes h) refl
