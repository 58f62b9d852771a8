use Rattle.std.proofs.Common.{rules}
use Rattle.std.proofs.lemmas.List.{take_rest}
use Rattle.tapes.proofs.command.cut_command.Goals as goal

pub returns-in-1 : goal.returns-in-1
returns-in-1 c = (search rules, take_rest c.args.bytes.now 5)

pub returns-in-3 : goal.returns-in-3
returns-in-3 c = (search rules, take_rest c.args.bytes.now 1)

pub returns-in-5 : goal.returns-in-5
returns-in-5 c = (search rules, take_rest c.args.bytes.now 1)
