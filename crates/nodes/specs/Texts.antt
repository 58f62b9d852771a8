use Rattle.std.specs.Prelude.{ℕ, List, ◌++◌, codes}
use Rattle.std.specs.Fmt.{decimal}
use Rattle.nodes.specs.declared.refusal.Refusal.{Refusal}
use Rattle.nodes.specs.declared.refusal.Fault.{Fault}
use Rattle.nodes.specs.Refusals.{number}

-- how a refusal prints
abbrev pub refusal_text : Refusal → List ℕ
refusal_text r = codes "refusal " ++ decimal (number r)

-- how a fault prints
abbrev pub fault_text : Fault → List ℕ
fault_text f = refusal_text f.refusal ++ (codes " at " ++ (decimal f.place ++ (codes ", found by " ++ decimal f.name)))
