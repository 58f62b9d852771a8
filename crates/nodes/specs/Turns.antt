use Rattle.std.specs.Prelude.{ℕ, ◌+◌}
use Rattle.nodes.specs.declared.refusal.Refusal.{Refusal}
use Rattle.nodes.specs.declared.refusal.Fault.{Fault}
use Rattle.nodes.specs.Refusals.{fault_by}

-- the fault of the turn that is refused after so many that were had: turns are counted from 1
abbrev pub turn_fault : (name turns : ℕ) → Refusal → Fault
turn_fault name turns r = fault_by r name (turns + 1)
