-- The law of paths, in the words of the subject.
use Rattle.std.specs.Prelude.{◌≡◌, ℕ, zero, suc, ◌+◌, ◌*◌, ◌<◌, ◌≤◌, true, List, [], ◌∷◌, length, Some, None, Ok, Err, Result, ◌≢◌, slice_index_or}
use Rattle.std.specs.List.{AllByRecursion as Every}
use Rattle.nodes.specs.declared.node.Node.{Node}
use Rattle.nodes.specs.declared.refusal.Fault.{Fault}
use Rattle.nodes.specs.declared.refusal.Refusal.TheVariants.{QueryLength, QueryCommand, ListFull}
use Rattle.merge.specs.declared.pair.Axis.{Axis}
use Rattle.merge.specs.declared.pair.Axis.TheVariants.{Child, Descendant}
use Rattle.merge.specs.Axes.{fits}
use Rattle.merge.specs.Turns.{Opening}
use Rattle.under.specs.Nodes.{run_ending}
use Rattle.under.specs.Law.{Holds, InTreeOrder}
use Rattle.paths.specs.declared.fault.PathFault.{PathFault}
use Rattle.paths.specs.declared.fault.PathFault.TheVariants.{Own, Step}
use Rattle.paths.specs.declared.query.Step.{Step as Asked}
use Rattle.paths.specs.Limits.{max_steps, step_bytes}
use Rattle.paths.specs.Query.{code}
use Rattle.paths.specs.Path.{Scope, Lists, step_opening, step_nodes, Answered}

-- exactly the nodes of which P holds, each once, in tree order
pub record Exactly (P : Node → Type 0) (ns : List Node) : Type 0 where
  pub rises : InTreeOrder ns
  pub only : (n : Node) → Holds ns n → P n
  pub every : (n : Node) → P n → Holds ns n

-- the bytes are these steps, one after another: command, and tag with the most significant byte first
abbrev pub Written : List Asked → List ℕ → Type 0
Written [] [] = Unit {0}
Written [] (b ∷ bs) = ⊥
Written (s ∷ ss) [] = ⊥
Written (s ∷ ss) (c ∷ []) = ⊥
Written (s ∷ ss) (c ∷ (h ∷ [])) = ⊥
Written (s ∷ ss) (c ∷ (h ∷ (l ∷ bs))) = (c ≡ code s.axis) × (s.tag ≡ h * 256 + l) × Written ss bs

-- the bytes are a query of these steps: 1 to 8
pub record QueryOf (ss : List Asked) (bytes : List ℕ) : Type 0 where
  pub some : 1 ≤ length ss
  pub few : length ss ≤ max_steps
  pub written : Written ss bytes

-- so many bytes are 1 to 8 steps
abbrev pub WholeSteps : ℕ → Type 0
WholeSteps n = (j : ℕ) × (1 ≤ j) × (j ≤ max_steps) × (n ≡ step_bytes * j)

-- the first i steps have a command and the next has none
abbrev pub FirstBad : ℕ → List ℕ → Type 0
FirstBad i [] = ⊥
FirstBad i (c ∷ []) = ⊥
FirstBad i (c ∷ (h ∷ [])) = ⊥
FirstBad zero (c ∷ (h ∷ (l ∷ bs))) = (a : Axis) → c ≢ code a
FirstBad (suc i) (c ∷ (h ∷ (l ∷ bs))) = ((a : Axis) × (c ≡ code a)) × FirstBad i bs

-- a first child stands at level 1, a first descendant anywhere
abbrev pub FitsFirst : Axis → Node → Type 0
FitsFirst Child n = n.level ≡ 1
FitsFirst Descendant n = Unit {0}

-- a step of a list, counted from 0
abbrev pub step_at : List Asked → ℕ → Asked
step_at ss i = slice_index_or ss i (record { axis = Child; tag = 0 })

-- a node fits step k, counted from 1, by the lists of the tags alone: it stands in the list of the step's tag, and a node that fits the step before is its parent, or contains it
abbrev pub Fits : (ℕ → List Node) → List Asked → ℕ → Node → Type 0
Fits list_of ss zero n = ⊥
Fits list_of ss (suc zero) n = Holds (list_of (step_at ss 0).tag) n × FitsFirst (step_at ss 0).axis n
Fits list_of ss (suc (suc k)) n = Holds (list_of (step_at ss (suc k)).tag) n × ((m : Node) × Fits list_of ss (suc k) m × (fits (step_at ss (suc k)).axis m n ≡ true))

module _ (w : Scope) (ss : List Asked) where
  -- the run of step i + 1 over the nodes cs, which fitted before
  abbrev pub run_at : ℕ → List Node → Opening
  run_at i cs = step_opening w (i + 1) (step_at ss i) cs None

  -- the nodes that fit it, of those whose turn was sound
  abbrev pub fitting : ℕ → List Node → List Node
  fitting i cs = step_nodes (i + 1) (run_at i cs)

  -- the first i steps were run to their end within the room, and the nodes ns fitted the last of them; none before the first
  abbrev pub Reached : ℕ → List Node → Type 0
  Reached zero ns = ns ≡ []
  Reached (suc i) ns = (cs : List Node) × Reached i cs × (run_ending (run_at i cs) ≡ None) × (ns ≡ fitting i cs) × (length ns ≤ w.room)

  -- the run of step i + 1 is stopped by a fault, with no node too many before
  abbrev pub Stops : ℕ → Fault → Type 0
  Stops i f = (cs : List Node) × Reached i cs × (run_ending (run_at i cs) ≡ Some f) × (length (fitting i cs) ≤ w.room)

  -- more nodes than there is room for fit step i + 1 before its run is stopped
  abbrev pub Crowded : ℕ → Type 0
  Crowded i = (cs : List Node) × Reached i cs × (w.room < length (fitting i cs))

  -- so many different nodes fit step i + 1, by the lists alone
  abbrev pub MoreFit : ℕ → Type 0
  MoreFit i = (ns : List Node) × (w.room < length ns) × InTreeOrder ns × Every (Fits w.list_of ss (suc i)) ns

-- what a path gives, and why: one case for each answer
pub data PathLaw (w : Scope) (bytes : List ℕ) (m : Result (List Node) PathFault) : Type 0 where
  no_query : (WholeSteps (length bytes) → ⊥) → m ≡ Err (Own QueryLength 0) → PathLaw w bytes m
  no_command : (i : ℕ) → WholeSteps (length bytes) → FirstBad i bytes → m ≡ Err (Own QueryCommand (i + 1)) → PathLaw w bytes m
  too_many : (ss : List Asked) (i : ℕ) → QueryOf ss bytes → i < length ss → Crowded w ss i → MoreFit w ss i → m ≡ Err (Own ListFull (i + 1)) → PathLaw w bytes m
  stopped : (ss : List Asked) (i : ℕ) (f : Fault) → QueryOf ss bytes → i < length ss → Stops w ss i f → m ≡ Err (Step (i + 1) f) → PathLaw w bytes m
  answered : (ss : List Asked) (ns : List Node) → QueryOf ss bytes → Reached w ss (length ss) ns → Exactly (Fits w.list_of ss (length ss)) ns → m ≡ Ok ns → PathLaw w bytes m

-- an answer and the two lists keep the law: they show what it gives
abbrev pub KeepsLaw : Scope → List ℕ → Result ℕ PathFault → (entry exit : Lists) → Type 0
KeepsLaw w bytes r entry exit = (m : Result (List Node) PathFault) × PathLaw w bytes m × Answered m r entry exit

-- the law leaves one answer, and one content of both lists
abbrev pub OneAnswer : Type 0
OneAnswer = (w : Scope) (bytes : List ℕ) (entry exit exit' : Lists) (r r' : Result ℕ PathFault) → KeepsLaw w bytes r entry exit → KeepsLaw w bytes r' entry exit' → (r ≡ r') × (exit ≡ exit')
