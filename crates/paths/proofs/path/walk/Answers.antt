use Rattle.std.proofs.Common.{◌≡◌, ◌-◌, ◌%◌, ◌<◌, ◌≤◌, length, Err, sym, ap, ◌∙◌, arith}
use Rattle.std.proofs.lemmas.Result.{err_from_is_err_and}
use Rattle.merge.specs.declared.pair.Axis.TheVariants.{Child}
use Rattle.paths.specs.declared.query.Step.{Step}
use Rattle.paths.specs.Path.{scope, walk}
use Rattle.paths.proofs.Walking.{walk_on, walk_off, walk_end, failed, moved}
use Rattle.paths.proofs.Laying.{meant}
use Rattle.paths.proofs.path.walk.Goals as goal
use Rattle.paths.proofs.path.walk.Goals.{then-steps-i-eq1+in_ok-n, else-steps-i-eq1+in_ok-n-2}

abbrev none : Step
none = record { axis = Child; tag = 0 }

pub returns-in_err-n : goal.returns-in_err-n
returns-in_err-n g c =
    let p = err_from_is_err_and c.from_residual.result c.from_residual.ensures.1 in
    let f = walk_off (scope g.M.Model c.args.model.now c.min-room.result) none c.loop-i-test.true (c.loop-i.invariant.odd c.if-steps-i-eq1.true) c.advance.ensures c.in_err-n.field-0.0 c.in_err-n.was in
    failed _ c.from_residual.result c.advance.new.to p.0 ((λ i. walk (scope g.M.Model c.args.model.now (sym c.min-room.ensures i)) (sym c.steps-steps.ensures.those i)) ∙ f ∙ ap Err (sym p.2)) p.1

pub returns-in_err-n-2 : goal.returns-in_err-n-2
returns-in_err-n-2 g c =
    let p = err_from_is_err_and c.from_residual-in_err-n-2.result c.from_residual-in_err-n-2.ensures.1 in
    let f = walk_off (scope g.M.Model c.args.model.now c.min-room.result) none c.loop-i-test.true (c.loop-i.invariant.even (omega (arith, c.if-steps-i-eq1.false))) c.advance-else-steps-i-eq1.ensures c.in_err-n-2.field-0.0 c.in_err-n-2.was in
    failed _ c.from_residual-in_err-n-2.result c.loop-i.answer p.0 ((λ i. walk (scope g.M.Model c.args.model.now (sym c.min-room.ensures i)) (sym c.steps-steps.ensures.those i)) ∙ f ∙ ap Err (sym p.2)) p.1

pub loop-i-preserved : goal.loop-i-preserved
loop-i-preserved g c =
    let W = scope g.M.Model c.args.model.now c.min-room.result in
    let h : c.loop-i.i < length c.steps-steps.result.now = c.loop-i-test.true in
    elim c.if-steps-i-eq1.branch [
      | then-steps-i-eq1+in_ok-n w ↦
          let o : (length c.steps-steps.result.now - c.loop-i.i) % 2 ≡ 1 = w.if-steps-i-eq1.true in
          let f = walk_on W none h (c.loop-i.invariant.odd o) w.advance.ensures w.in_ok-n.n w.in_ok-n.was in
          record { odd = λ e. absurd (omega arith); even = λ e. moved W w.n-is w.answer-is f }
      | else-steps-i-eq1+in_ok-n-2 w ↦
          let o : (length c.steps-steps.result.now - c.loop-i.i) % 2 ≡ 0 = omega (arith, w.if-steps-i-eq1.false) in
          let f = walk_on W none h (c.loop-i.invariant.even o) w.advance-else-steps-i-eq1.ensures w.in_ok-n-2.n w.in_ok-n-2.was in
          record { odd = λ e. moved W w.n-is w.spare-is f; even = λ e. absurd (omega arith) }
    ]

pub returns : goal.returns
returns g c =
    let W = scope g.M.Model c.args.model.now c.min-room.result in
    let l : length c.steps-steps.result.now ≤ c.loop-i.i = c.loop-i-test.false in
    let h : c.loop-i.n ≤ length c.loop-i.answer = omega (arith, (c.loop-i.invariant.even (omega arith)).fits) in
    meant (λ i. walk (scope g.M.Model c.args.model.now (c.min-room.ensures i)) (c.steps-steps.ensures.those i)) (walk_end W c.steps-steps.result.now c.loop-i.i c.loop-i.n c.loop-i.answer _ l h (c.loop-i.invariant.even (omega arith)))
