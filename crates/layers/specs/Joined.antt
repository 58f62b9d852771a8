use Rattle.std.specs.Prelude.{◌≡◌, ℕ, ◌≤◌, true, ◌⊎◌, List, [], ◌∷◌, length, Some, None, ◌≢◌}
use mathlib.Core.List.{Memᴰ}
use Rattle.nodes.specs.Limits.{max_turns}
use Rattle.nodes.specs.declared.node.Node.{Node}
use Rattle.nodes.specs.declared.refusal.Fault.{Fault}
use Rattle.nodes.specs.declared.refusal.Refusal.TheVariants.{TurnLimit, HandsDiffer}
use Rattle.nodes.specs.Node.{place_of}
use Rattle.nodes.specs.Place.{before}
use Rattle.nodes.specs.Turns.{turn_fault}
use Rattle.layers.specs.Union.{Listing}

-- a list holds a node
abbrev pub Holds : List Node → Node → Type 0
Holds ns n = Memᴰ n ns

-- at least one of two lists holds a node
abbrev pub Either : (xs ys : List Node) → Node → Type 0
Either xs ys n = Holds xs n ⊎ Holds ys n

-- a list rises strictly: each node's place is before that of every later one, so that no node stands in it twice
abbrev pub Rising : List Node → Type 0
Rising [] = Unit {0}
Rising (n ∷ ns) = ((m : Node) → Holds ns m → before (place_of n) (place_of m) ≡ true) × Rising ns

-- no two nodes of the two lists differ at one place
abbrev pub Agree : (xs ys : List Node) → Type 0
Agree xs ys = (x y : Node) → Holds xs x → Holds ys y → place_of x ≡ place_of y → x ≡ y

-- at most so many different nodes stand in the two lists: a list of that length holds them all
abbrev pub AtMost : ℕ → (xs ys : List Node) → Type 0
AtMost k xs ys = (ns : List Node) × (length ns ≤ k) × ((n : Node) → Either xs ys n → Holds ns n)

-- why a union of a and b stops by a fault after so many turns: the fault is theirs, or the union refused the next turn, since its turns were used up
-- or since two nodes of theirs differ at one place
pub data Cause (name turns : ℕ) (a b : Listing) (f : Fault) : Type 0 where
  of_first : a.ending ≡ Some f → Cause name turns a b f
  of_second : b.ending ≡ Some f → Cause name turns a b f
  used_up : f ≡ turn_fault name turns TurnLimit → turns ≡ max_turns → Cause name turns a b f
  differing : f ≡ turn_fault name turns HandsDiffer → (x y : Node) → Holds a.nodes x → Holds b.nodes y → place_of x ≡ place_of y → (x ≢ y) → Cause name turns a b f

-- what the union u of a and b is: where both rise, it rises; it holds only nodes of either; where it comes to the end, it holds all of them, and both came to their end;
-- it comes to the end where both rise to their end, agree, and have no more different nodes than a union may have turns; and it stops by a fault for a cause only
pub record Joined (name : ℕ) (a b u : Listing) : Type 0 where
  pub rises : Rising a.nodes → Rising b.nodes → Rising u.nodes
  pub only : (n : Node) → Holds u.nodes n → Either a.nodes b.nodes n
  pub all : u.ending ≡ None → (n : Node) → Either a.nodes b.nodes n → Holds u.nodes n
  pub ended : u.ending ≡ None → (a.ending ≡ None) × (b.ending ≡ None)
  pub ends : a.ending ≡ None → b.ending ≡ None → Rising a.nodes → Rising b.nodes → Agree a.nodes b.nodes → AtMost max_turns a.nodes b.nodes → u.ending ≡ None
  pub caused : (f : Fault) → u.ending ≡ Some f → Cause name (length u.nodes) a b f
