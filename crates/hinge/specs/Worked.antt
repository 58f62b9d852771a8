use Rattle.tapes.specs.Hinge.{HingeTape}
use Rattle.merge.specs.Hinge.{HingeBlock}
use Rattle.runs.specs.Hinge.{HingeCalls, HingeAlone}
use Rattle.paths.specs.Hinge.{HingePath}

-- the worked example, as one fact about the rules: what the block's tape reads as, and how it is refused with another root
-- CLOSE; its turns, pairs and the refusals beside them; the answers of a list of calls, and that there are no others; the
-- answers of a query
pub record Worked : Type 0 where
  pub tape : HingeTape
  pub pairs : HingeBlock
  pub calls : HingeCalls
  pub alone : HingeAlone
  pub path : HingePath
