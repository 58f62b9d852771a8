use Rattle.std.specs.Prelude.{ℕ, ◌+◌, ◌*◌, ◌%◌, Bool, cond, ◌&&◌, List, [], ◌∷◌, ◌++◌, length, take, Some, None, Ok, Err, Option, Result, ◌==◌, nat_le}
use Rattle.nodes.specs.declared.refusal.Refusal.TheVariants.{QueryLength, QueryCommand}
use Rattle.merge.specs.declared.pair.Axis.{Axis}
use Rattle.merge.specs.declared.pair.Axis.TheVariants.{Child, Descendant}
use Rattle.paths.specs.Limits.{max_steps, step_bytes}
use Rattle.paths.specs.declared.fault.PathFault.{PathFault}
use Rattle.paths.specs.declared.fault.PathFault.TheVariants.{Own}
use Rattle.paths.specs.declared.query.Step.{Step}
use Rattle.paths.specs.declared.query.Query.{Query}

-- the command byte of an axis
abbrev pub code : Axis → ℕ
code Child = 0x21
code Descendant = 0x22

-- the axis of a command byte
abbrev pub axis_of : ℕ → Option Axis
axis_of c = cond (c == code Child) (Some Child) (cond (c == code Descendant) (Some Descendant) None)

abbrev pub step_of : Axis → (high low : ℕ) → Step
step_of axis high low = record { axis = axis; tag = high * 256 + low }

-- some steps before those that are read
abbrev pub before : List Step → Result (List Step) PathFault → Result (List Step) PathFault
before ss (Ok ts) = Ok (ss ++ ts)
before ss (Err f) = Err f

abbrev pub step_then : ℕ → Option Axis → (high low : ℕ) → Result (List Step) PathFault → Result (List Step) PathFault
step_then k None high low more = Err (Own QueryCommand k)
step_then k (Some axis) high low more = before (step_of axis high low ∷ []) more

-- the steps from the k-th on, or the refusal of the first whose command is none
abbrev pub steps_from : ℕ → List ℕ → Result (List Step) PathFault
steps_from k [] = Ok []
steps_from k (c ∷ []) = Ok []
steps_from k (c ∷ (h ∷ [])) = Ok []
steps_from k (c ∷ (h ∷ (l ∷ bytes))) = step_then k (axis_of c) h l (steps_from (k + 1) bytes)

-- so many bytes are whole steps, and no more than a query may have
abbrev pub in_steps : ℕ → Bool
in_steps n = nat_le step_bytes n && (nat_le n (step_bytes * max_steps) && n % step_bytes == 0)

-- what the bytes of a query say: its steps, or why they are none; the length is tested first
abbrev pub query_of : List ℕ → Result (List Step) PathFault
query_of bytes = cond (in_steps (length bytes)) (steps_from 1 bytes) (Err (Own QueryLength 0))

-- the steps that a query holds
abbrev pub steps_in : Query → List Step
steps_in q = take q.count q.steps

abbrev pub read_as : Result Query PathFault → Result (List Step) PathFault
read_as (Ok q) = Ok (steps_in q)
read_as (Err f) = Err f
