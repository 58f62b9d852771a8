use Rattle.std.proofs.Common.{◌≤◌, length, take}
use Rattle.writer.specs.Turns.{state_of, Far}
use Rattle.writer.proofs.write.write_all.Given as goal

abbrev pub invariant-loop-i : goal.invariant-loop-i
invariant-loop-i l =
    (l.i ≤ length l.calls) × Far (take l.i l.calls) l.initial.bytes l.bytes (state_of l.writer) l.initial.answers l.answers
