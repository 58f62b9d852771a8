use Rattle.std.specs.Prelude.{ℕ, List, ◌++◌, codes}
use Rattle.std.specs.Fmt.{decimal}
use Rattle.nodes.specs.Texts.{refusal_text, fault_text}
use Rattle.paths.specs.declared.fault.PathFault.{PathFault}
use Rattle.paths.specs.declared.fault.PathFault.TheVariants.{Own, Step}

-- how the fault of a path prints
abbrev pub path_fault_text : PathFault → List ℕ
path_fault_text (Own r at) = refusal_text r ++ (codes " at step " ++ decimal at)
path_fault_text (Step k f) = codes "step " ++ (decimal k ++ (codes ": " ++ fault_text f))
