use Rattle.nodes.specs.declared.refusal.Refusal.TheVariants.{ListFull}
use Rattle.paths.specs.declared.fault.StepFault.{StepFault}
use Rattle.paths.specs.declared.fault.StepFault.TheVariants.{Full, Stopped}
use Rattle.paths.specs.declared.fault.PathFault.{PathFault}
use Rattle.paths.specs.declared.fault.PathFault.TheVariants.{Own, Step}

-- a step's fault as the path's
abbrev pub as_path_fault : StepFault → PathFault
as_path_fault (Full k) = Own ListFull k
as_path_fault (Stopped k f) = Step k f
