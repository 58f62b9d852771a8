use Rattle.std.proofs.Common.{◌≡◌, ◌+◌, ◌*◌, length, take}
use Rattle.paths.specs.Query.{before, steps_from}
use Rattle.paths.proofs.query.Query.read.Given as goal

abbrev pub invariant-loop-rest : goal.invariant-loop-rest
invariant-loop-rest l =
    (before (take l.count l.steps) (steps_from (l.count + 1) l.rest) ≡ steps_from 1 l.query)
    × (3 * l.count + length l.rest ≡ length l.query) × (length l.steps ≡ 8)

abbrev pub decreases-loop-rest : goal.decreases-loop-rest
decreases-loop-rest l = length l.rest
