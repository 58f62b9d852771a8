use Rattle.std.proofs.Common.{rules}
use Rattle.postings.proofs.Steps.{at_short, at_wrong, at_record, fits_on, stops, gives, passed}
use Rattle.postings.proofs.source.PostingSourceNodeSource.take.Goals as goal

pub returns-in-Err : goal.returns-in-Err
returns-in-Err c =
    let t = c.loop-item.self in
    let i = c.loop-item.invariant in
    let f = c.at-in-Err.ensures in
    rw f (stops c.args.self.now t i.0 i.1 _ (at_wrong t c.in-Some.item c.in-Some.rest i.2 c.in-Some.ensures _ c.in-Err.ensures))

pub returns-then-is_some : goal.returns-then-is_some
returns-then-is_some c =
    let t = c.loop-item.self in
    let i = c.loop-item.invariant in
    let e = at_record t c.in-Some.item c.in-Some.rest i.2 c.in-Some.ensures _ c.in-Ok.ensures in
    gives c.args.self.now t i.0 i.1 _ _ _ c.if-is_some.ensures e.0 e.1

pub loop-item-preserved : goal.loop-item-preserved
loop-item-preserved c =
    let t = c.loop-item.self in
    let i = c.loop-item.invariant in
    let e = at_record t c.in-Some.item c.in-Some.rest i.2 c.in-Some.ensures _ c.in-Ok.ensures in
    let p = passed c.args.self.now t i.0 i.1 _ _ _ c.if-is_some.ensures e.0 e.1 in
    (p.0, p.1, fits_on t c.in-Some.item c.in-Some.rest i.2 c.in-Some.ensures)

pub returns-else-is_empty : goal.returns-else-is_empty
returns-else-is_empty c =
    let t = c.loop-item.self in
    let i = c.loop-item.invariant in
    let e = c.at-else-is_empty.ensures in
    rw e (stops c.args.self.now t i.0 i.1 _ (at_short t i.2 (search rules) c.in_default.ensures))
