use Rattle.std.proofs.Common.{◌≡◌, ◌-◌, length}
use Rattle.tapes.specs.Source.{left}
use Rattle.tapes.proofs.reader.Reader.next_row.Given as goal

-- nothing is left out
abbrev pub invariant-loop-self : goal.invariant-loop-self
invariant-loop-self l = left l.initial.self ≡ left l.self

abbrev pub decreases-loop-self : goal.decreases-loop-self
decreases-loop-self l = length l.self.bytes.now - l.self.at
