use Rattle.std.proofs.Common.{take, drop, arith}
use Rattle.std.proofs.lemmas.List.{length-take-le}
use Rattle.paths.specs.Path.{scope}
use Rattle.paths.proofs.Laying.{advanced, step_is, meant}
use Rattle.paths.proofs.path.advance.Goals as goal

pub returns : goal.returns
returns g c =
    let a = advanced c.args.k c.args.room _ _ c.step.result (drop c.args.room c.args.to.now) (take c.args.room c.args.to.now) c.step.new.out (length-take-le _ _ (omega arith)) c.step.ensures in
    meant (step_is (scope g.M.Model c.args.model.now c.args.room) c.args.k c.args.asked c.opening-opening.ensures c.new.ensures.coming c.new.ensures.ending) a
