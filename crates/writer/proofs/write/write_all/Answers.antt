use Rattle.std.proofs.Common.{◌≡◌, ◌<◌, length, min, sym, ◌∙◌, subst, arith}
use Rattle.std.proofs.lemmas.Bool.{ltb-true, ltb-false}
use Rattle.std.proofs.lemmas.List.{set-get_or}
use Rattle.writer.specs.Turns.{state_of, Made}
use Rattle.writer.proofs.Whole.{farther, writes_all}
use Rattle.writer.proofs.write.write_all.Goals as goal
use Rattle.writer.proofs.write.write_all.Goals.{else-loop-i-test, then-loop-i-test+in_default}

pub loop-i-preserved : goal.loop-i-preserved
loop-i-preserved c =
    let calls = c.args.calls.now in
    let before = c.args.answers.now in
    let next = c.make.new.bytes in
    let turn = c.make.result in
    let found = c.in-Some.ensures.lookup in
    let few : c.loop-i.i < length calls = ltb-true _ _ (sym found.0) in (
      omega arith,
      farther c.args.bytes.now c.loop-i.bytes next (state_of c.loop-i.writer) (state_of turn.writer)
          calls _ c.loop-i.i before c.loop-i.answers turn.answer c.loop-i.invariant.1 few c.loop-i-test.true
          (λ o d h. subst (λ k. Made o next (state_of turn.writer) d k turn.answer) found.1 (c.make.ensures o d h)),
    )

pub returns : goal.returns
returns c =
    let calls = c.args.calls.now in
    let before = c.args.answers.now in
    let few = c.loop-i.invariant.0 in
    let last : c.loop-i.i ≡ min (length calls) (length before) =
    elim c.loop-i-test.branch [
      | else-loop-i-test w ↦ omega arith
      | then-loop-i-test+in_default w ↦ let all = ltb-false _ _ (sym w.in_default.ensures.lookup.0) in omega arith
    ] in
    let same : c.loop-i-test.answers ≡ c.loop-i.answers =
    elim c.loop-i-test.branch [ else-loop-i-test w ↦ w.answers-is | then-loop-i-test+in_default w ↦ w.answers-is ∙ set-get_or _ _ _ ] in
    rw same
    (writes_all calls c.args.bytes.now c.loop-i.bytes (state_of c.loop-i.writer) before c.loop-i.answers c.loop-i.i c.finish.result last c.loop-i.invariant.1 c.finish.ensures)
