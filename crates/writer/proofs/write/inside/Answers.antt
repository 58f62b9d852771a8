use Rattle.std.proofs.Common.{sym, subst, arith}
use Rattle.writer.specs.Views.{ins}
use Rattle.writer.specs.Turns.{busy, Made}
use Rattle.writer.proofs.Steps.{open_made, value_made, close_made}
use Rattle.writer.proofs.write.inside.Goals as goal

pub returns-in-Open : goal.returns-in-Open
returns-in-Open c old d i =
    let v = ins c.open-answer.new.self in
    rw c.answered.ensures (subst (λ k. Made old c.open-answer.new.bytes (busy v) d k c.open-answer.result) (sym c.in-Open.is)
    (open_made old c.args.bytes.now c.open-answer.new.bytes (ins c.args.writer) v d c.in-Open.tag c.open-answer.result (omega arith) i c.open-answer.ensures))

pub returns-in-Value : goal.returns-in-Value
returns-in-Value c old d i =
    let v = ins c.value-answer.new.self in
    rw c.answered-in-Value.ensures (subst (λ k. Made old c.value-answer.new.bytes (busy v) d k c.value-answer.result) (sym c.in-Value.is)
    (value_made old c.args.bytes.now c.value-answer.new.bytes (ins c.args.writer) v d c.in-Value.tag c.in-Value.number c.value-answer.result (omega arith) (omega arith) i c.value-answer.ensures))

pub returns-in-Close : goal.returns-in-Close
returns-in-Close c old d i =
    let v = ins c.close-answer.new.self in
    rw c.answered-in-Close.ensures (subst (λ k. Made old c.close-answer.new.bytes (busy v) d k c.close-answer.result) (sym c.in-Close.is)
    (close_made old c.args.bytes.now c.close-answer.new.bytes (ins c.args.writer) v d c.close-answer.result i c.close-answer.ensures))
