use Rattle.std.proofs.Common.{refl}
use Rattle.under.specs.Nodes.{paired_nodes, first_nodes, run_ending}
use Rattle.paths.specs.Hinge.{HingePath}
use Rattle.paths.proofs.laws.hinge_path.Goals as goal

holds : HingePath
unfolding paired_nodes first_nodes run_ending
holds = record { two = refl; one = refl }

pub returns : goal.returns
returns c = holds
