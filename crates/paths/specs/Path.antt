use Rattle.std.specs.Prelude.{◌≡◌, ℕ, ◌+◌, ◌-◌, min, cond, List, [], ◌∷◌, ◌++◌, map, length, take, replicate, Some, None, Ok, Err, Option, Result, ◌==◌, nat_le}
use Rattle.nodes.specs.declared.row.Row.{Row}
use Rattle.nodes.specs.declared.node.Node.{Node}
use Rattle.nodes.specs.declared.refusal.Fault.{Fault}
use Rattle.nodes.specs.declared.model.Model.{Ghosts}
use Rattle.nodes.specs.Node.{row_of, blank}
use Rattle.merge.specs.Turns.{Opening}
use Rattle.under.specs.Nodes.{paired_nodes, first_nodes, run_ending}
use Rattle.paths.specs.declared.fault.StepFault.{StepFault}
use Rattle.paths.specs.declared.fault.StepFault.TheVariants.{Full, Stopped}
use Rattle.paths.specs.declared.fault.PathFault.{PathFault}
use Rattle.paths.specs.declared.query.Step.{Step}
use Rattle.paths.specs.Limits.{step_name}
use Rattle.paths.specs.Faults.{as_path_fault}
use Rattle.paths.specs.Query.{query_of}

-- what a query is asked of: the lists and endings of a model, and how many rows the shorter list holds
pub record Scope : Type 0 where
  pub list_of : ℕ → List Node
  pub ending_of : ℕ → ℕ → Option Fault
  pub room : ℕ

-- the two lists that a caller lends
pub record Lists : Type 0 where
  pub answer : List Row
  pub spare : List Row

abbrev pub lists : (answer spare : List Row) → Lists
lists answer spare = record { answer = answer; spare = spare }

-- the run of step k over the nodes cs, which end by ce
abbrev pub step_opening : Scope → ℕ → Step → List Node → Option Fault → Opening
step_opening w k s cs ce = record {
  containers = cs;
  containers_ending = ce;
  contained = w.list_of s.tag;
  contained_ending = w.ending_of s.tag k;
  axis = s.axis;
  name = step_name k;
}

-- the nodes that fit step k, of those whose turn was sound
abbrev pub step_nodes : ℕ → Opening → List Node
step_nodes k o = cond (k == 1) (first_nodes o) (paired_nodes o)

abbrev pub ended : ℕ → List Node → Option Fault → Result (List Node) StepFault
ended k ns None = Ok ns
ended k ns (Some f) = Err (Stopped k f)

-- the nodes that fit step k and the ending of its run, as far as there is room: a node too many comes before the ending
abbrev pub taken : (k room : ℕ) → List Node → Option Fault → Result (List Node) StepFault
taken k room ns e = cond (nat_le (length ns) room) (ended k ns e) (Err (Full k))

-- what step k gives
abbrev pub step_means : Scope → ℕ → Step → List Node → Option Fault → Result (List Node) StepFault
step_means w k s cs ce = taken k w.room (step_nodes k (step_opening w k s cs ce)) (run_ending (step_opening w k s cs ce))

abbrev pub onward : Result (List Node) StepFault → (List Node → Result (List Node) PathFault) → Result (List Node) PathFault
onward (Ok ns) more = more ns
onward (Err f) more = Err (as_path_fault f)

-- what the steps from the k-th on give, over the nodes that fitted the one before
abbrev pub walk_over : Scope → ℕ → List Step → List Node → Result (List Node) PathFault
walk_over w k [] cs = Ok cs
walk_over w k (s ∷ ss) cs = onward (step_means w k s cs None) (λ ns. walk_over w (k + 1) ss ns)

-- all steps, over none before the first
abbrev pub walk : Scope → List Step → Result (List Node) PathFault
walk w ss = walk_over w 1 ss []

abbrev pub asked : Result (List Step) PathFault → (List Step → Result (List Node) PathFault) → Result (List Node) PathFault
asked (Ok ss) more = more ss
asked (Err f) more = Err f

-- what a path gives: the nodes that fit its last step, or its fault
abbrev pub path_means : Scope → List ℕ → Result (List Node) PathFault
path_means w bytes = asked (query_of bytes) (walk w)

-- a path over a model, by what the model means
module _ {M Source : Type 0} (model : Ghosts M Source) where
  abbrev pub scope : M → ℕ → Scope
  scope m room = record { list_of = model.list_of m; ending_of = model.ending_of m; room = room }

  abbrev pub scope_of : M → Lists → Scope
  scope_of m ls = scope m (min (length ls.answer) (length ls.spare))

  abbrev pub path_of : M → List ℕ → Lists → Result (List Node) PathFault
  path_of m bytes ls = path_means (scope_of m ls) bytes

-- how many nodes are given, and which
abbrev pub counted : {F : Type 0} → Result (List Node) F → Result ℕ F
counted (Ok ns) = Ok (length ns)
counted (Err f) = Err f

abbrev pub given : {F : Type 0} → Result (List Node) F → List Node
given (Ok ns) = ns
given (Err f) = []

-- a row of the blank node, and a list with nothing but such rows from the n-th on
abbrev pub blank_row : Row
blank_row = row_of blank

abbrev pub blank_from : ℕ → List Row → List Row
blank_from n rows = take n rows ++ replicate (length rows - n) blank_row

-- a list of so many rows that holds the nodes given, and then blanks
abbrev pub shown : {F : Type 0} → Result (List Node) F → ℕ → List Row
shown m size = map row_of (given m) ++ replicate (size - length (given m)) blank_row

-- the answer counts the nodes given, and the first rows hold them
pub record Laid {F : Type 0} (m : Result (List Node) F) (r : Result ℕ F) (new : List Row) : Type 0 where
  pub answers : r ≡ counted m
  pub lays : take (length (given m)) new ≡ map row_of (given m)

-- how a path answers what it gives: the number of nodes, the nodes in the answer list and blanks behind them, and blanks in the spare list
pub record Answered (m : Result (List Node) PathFault) (r : Result ℕ PathFault) (entry exit : Lists) : Type 0 where
  pub answers : r ≡ counted m
  pub shows : exit.answer ≡ shown m (length entry.answer)
  pub blanks : exit.spare ≡ replicate (length entry.spare) blank_row
