use Rattle.std.proofs.Common.{◌≡◌, ◌-◌, ◌%◌, length}
use Rattle.paths.specs.Path.{scope, walk}
use Rattle.paths.proofs.Walking.{On}
use Rattle.paths.proofs.path.walk.Given as goal

-- what is still to be done from here on gives what the walk gives; the nodes that fitted stand in the list that the last step wrote
abbrev pub invariant-loop-i : goal.invariant-loop-i
invariant-loop-i g l = record {
  odd : (length l.steps - l.i) % 2 ≡ 1 → On (scope g.M.Model l.model l.room) l.steps l.i l.n l.spare (walk (scope g.M.Model l.model l.room) l.steps);
  even : (length l.steps - l.i) % 2 ≡ 0 → On (scope g.M.Model l.model l.room) l.steps l.i l.n l.answer (walk (scope g.M.Model l.model l.room) l.steps);
}
