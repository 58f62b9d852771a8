use Rattle.std.proofs.Common.{◌≡◌, length, ap, ◌∙◌, arith}
use Rattle.std.proofs.lemmas.Result.{err_from_is_err_and}
use Rattle.nodes.specs.Whole.{stopped}
use Rattle.nodes.specs.declared.refusal.Refusal.TheVariants.{Misplaced}
use Rattle.tapes.specs.Reading.{end_at}
use Rattle.tapes.specs.Source.{reading}
use Rattle.tapes.proofs.Onward.{reads_end}
use Rattle.tapes.proofs.Sources.{on_none, on_some, on_err, not-outside}
use Rattle.tapes.proofs.reader.Reader.next_row.Goals as goal

pub returns-in_err-row : goal.returns-in_err-row
returns-in_err-row c =
    let p = err_from_is_err_and c.from_residual.result c.from_residual.ensures.1 in
    let e = on_err c.loop-self.self c.step.new.self c.loop-self-test.true _ c.in_err-row.ensures in
    rw (p.1, p.2) (c.loop-self.invariant ∙ e.0, e.1 ∙ e.0)

pub returns-in-Some : goal.returns-in-Some
returns-in-Some c =
    let s = c.loop-self.self in
    let t = c.step.new.self in
    c.loop-self.invariant ∙ (on_some s t c.loop-self-test.true c.in-Some.row (rw c.in-Some.is at c.in_ok-row.ensures)).0

pub loop-self-preserved : goal.loop-self-preserved
loop-self-preserved c =
    let s = c.loop-self.self in
    let t = c.step.new.self in
    c.loop-self.invariant ∙ (on_none s t c.loop-self-test.true (rw c.in_default.is at c.in_ok-row.ensures)).0

pub returns-in-Outside : goal.returns-in-Outside
returns-in-Outside c =
    let t = c.loop-self.self in
    let e = reads_end t.bytes.now (reading t) c.loop-self-test.false ∙ ap (λ g. end_at g (length t.bytes.now)) c.in-Outside.is in
    (c.loop-self.invariant ∙ e, e)

pub returns-in_default-stage : goal.returns-in_default-stage
returns-in_default-stage c =
    let t = c.loop-self.self in
    let at : length t.bytes.now ≡ t.at = omega arith in
    let e = reads_end t.bytes.now (reading t) c.loop-self-test.false ∙ not-outside t.stage (length t.bytes.now) c.in_default-stage.not-Outside ∙ ap (stopped Misplaced) at in
    (c.loop-self.invariant ∙ e, e)
