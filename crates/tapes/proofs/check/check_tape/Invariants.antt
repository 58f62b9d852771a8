use Rattle.std.proofs.Common.{◌≡◌, length}
use Rattle.tapes.specs.Source.{tape_coming, tape_ending, tape_end}
use Rattle.tapes.proofs.check.check_tape.Given as goal

abbrev pub invariant-loop : goal.invariant-loop
invariant-loop l = tape_ending l.source ≡ tape_end l.bytes l.name

abbrev pub decreases-loop : goal.decreases-loop
decreases-loop l = length (tape_coming l.source)
