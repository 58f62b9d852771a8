use Rattle.std.proofs.lemmas.Result.{err_from_is_err_and}
use Rattle.layers.proofs.Turns.{at_limit, at_first, at_second, at_both}
use Rattle.layers.proofs.union.UnionNodeSource.take.Goals as goal
use Rattle.layers.proofs.union.UnionNodeSource.take.Goals.{in-First, in-Second, in-Both}

pub returns-in_err-check_limit : goal.returns-in_err-check_limit
returns-in_err-check_limit g c =
    let p = err_from_is_err_and c.from_residual-in_err-check_limit.result c.from_residual-in_err-check_limit.ensures.1 in
    rw (p.1, p.2) (at_limit g.S.NodeSource g.T.NodeSource c.args.self.now _ _ c.hand.ensures c.hand-2.ensures _ _ c.in_ok-turn.ensures c.in-Some.is _ c.in_err-check_limit.ensures)

pub returns : goal.returns
returns g c =
    elim c.match-turn.branch [
      | in-First w ↦ rw (c.count.ensures.name, c.count.ensures.had, w.self-is, w.node-is) (at_first g.S.NodeSource g.T.NodeSource c.args.self.now _ _ c.hand.ensures c.hand-2.ensures _ _ c.in_ok-turn.ensures c.in-Some.is _ c.in_ok-check_limit.ensures _ _ _ w.in-First.is w.pass.ensures.nodes w.pass.ensures.ending)
      | in-Second w ↦ rw (c.count.ensures.name, c.count.ensures.had, w.self-is, w.node-is) (at_second g.S.NodeSource g.T.NodeSource c.args.self.now _ _ c.hand.ensures c.hand-2.ensures _ _ c.in_ok-turn.ensures c.in-Some.is _ c.in_ok-check_limit.ensures _ _ _ w.in-Second.is w.pass-in-Second.ensures.nodes w.pass-in-Second.ensures.ending)
      | in-Both w ↦ rw (c.count.ensures.name, c.count.ensures.had, w.self-is, w.node-is) (at_both g.S.NodeSource g.T.NodeSource c.args.self.now _ _ c.hand.ensures c.hand-2.ensures _ _ c.in_ok-turn.ensures c.in-Some.is _ c.in_ok-check_limit.ensures _ _ _ _ _ w.in-Both.is w.pass-in-Both.ensures.nodes w.pass-in-Both.ensures.ending w.pass-in-Both-2.ensures.nodes w.pass-in-Both-2.ensures.ending)
    ]
