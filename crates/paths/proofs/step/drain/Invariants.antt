use Rattle.std.proofs.Common.{◌≡◌, length}
use Rattle.paths.specs.Drain.{drained, laid}
use Rattle.paths.proofs.step.drain.Given as goal

abbrev pub invariant-loop-count : goal.invariant-loop-count
invariant-loop-count g l =
    (drained l.fn.step (length l.out) l.count (g.S.NodeSource.coming l.source) (g.S.NodeSource.ending l.source) ≡ drained l.fn.step (length l.initial.out) 0 (g.S.NodeSource.coming l.initial.source) (g.S.NodeSource.ending l.initial.source))
    × (laid l.count (g.S.NodeSource.coming l.source) l.out ≡ laid 0 (g.S.NodeSource.coming l.initial.source) l.initial.out)
