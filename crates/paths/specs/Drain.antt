use Rattle.std.specs.Prelude.{◌≡◌, ℕ, ◌+◌, cond, List, [], ◌∷◌, length, Some, None, Ok, Err, Option, Result, nat_lt, slice_set}
use Rattle.nodes.specs.declared.row.Row.{Row}
use Rattle.nodes.specs.declared.node.Node.{Node}
use Rattle.nodes.specs.declared.refusal.Fault.{Fault}
use Rattle.nodes.specs.Node.{row_of}
use Rattle.paths.specs.declared.fault.StepFault.{StepFault}
use Rattle.paths.specs.declared.fault.StepFault.TheVariants.{Full, Stopped}

-- how many nodes a source gives, after n, to a list of so many rows
abbrev pub drained : ℕ → ℕ → ℕ → List Node → Option Fault → Result ℕ StepFault
drained step room n [] None = Ok n
drained step room n [] (Some f) = Err (Stopped step f)
drained step room n (x ∷ xs) e = cond (nat_lt n room) (drained step room (n + 1) xs e) (Err (Full step))

-- those nodes laid as rows from the n-th on, as far as there are rows
abbrev pub laid : ℕ → List Node → List Row → List Row
laid n [] rows = rows
laid n (x ∷ xs) rows = cond (nat_lt n (length rows)) (laid (n + 1) xs (slice_set rows n (row_of x))) rows

pub record Drained (step : ℕ) (ns : List Node) (e : Option Fault) (r : Result ℕ StepFault) (old new : List Row) : Type 0 where
  pub answers : r ≡ drained step (length old) 0 ns e
  pub lays : new ≡ laid 0 ns old
