use Rattle.std.proofs.Common.{◌≡◌, ◌<◌, ◌≤◌, true, length, sym, ◌∙◌, arith, length-drop, rules}
use Rattle.std.proofs.lemmas.List.{length-set, length-take}
use Rattle.paths.specs.Query.{in_steps}
use Rattle.paths.proofs.Reading.{read_on, steps_few}
use Rattle.paths.proofs.query.Query.read.Goals as goal

-- src/query/reading.rt:30:5
pub loop-rest-preserved : goal.loop-rest-preserved
loop-rest-preserved c =
    let i = c.loop-rest.invariant in
    let three : 3 ≤ length c.loop-rest.rest.now = search rules in
    let short : in_steps (length c.args.query.now) ≡ true = sym c.if-not-are_steps.ensures in
    let few : c.loop-rest.count < length c.loop-rest.steps = omega (arith, steps_few (length c.args.query.now) short) in
    let e = read_on c.loop-rest.steps c.loop-rest.count (length c.loop-rest.rest.now) c.loop-rest.rest.now c.in-Some.axis c.from_be_bytes.result few three (omega arith) c.in-Some.ensures c.from_be_bytes.ensures in (
      e ∙ i.0,
      simp (length-take, length-drop) (omega arith),
      length-set _ _ _ ∙ i.2,
    )
