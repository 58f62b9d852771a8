use Rattle.std.proofs.Common.{ℕ, ◌<◌, List, get_or, Ok, Fits, w8, arith, rules}
use Rattle.tapes.specs.Source.{tape_end}
use Rattle.tapes.proofs.Checks.{RunsOut, checks}
use Rattle.tapes.proofs.check.check_tape.Goals as goal

small : (bs : List ℕ) → ((i : ℕ) → Fits w8 (get_or bs i 0)) → (i : ℕ) → get_or bs i 0 < 256
small bs h i = let f = h i in omega arith

pub returns-in_err-take : goal.returns-in_err-take
returns-in_err-take c =
    let bs = c.args.bytes.now in
    let ran : RunsOut (tape_end bs c.args.name) c.from_residual.result = search rules in
    checks bs c.args.name c.from_residual.result (small bs c.type_inv.bytes) ran

pub returns : goal.returns
returns c =
    let bs = c.args.bytes.now in
    let ran : RunsOut (tape_end bs c.args.name) (Ok tt) = search rules in
    checks bs c.args.name (Ok tt) (small bs c.type_inv.bytes) ran
