use Rattle.std.specs.Prelude.{ℕ, Bool, true, false, List, [], ◌∷◌, Some, None, Option, ◌==◌}
use Rattle.nodes.specs.declared.tagged.Tagged.{Tagged}
use Rattle.nodes.specs.declared.node.Node.{Node}
use Rattle.nodes.specs.declared.refusal.Refusal.{Refusal}
use Rattle.nodes.specs.declared.refusal.Fault.{Fault}
use Rattle.nodes.specs.Refusals.{fault_by}
use Rattle.nodes.specs.Node.{as_node}

-- a refusal, and where it falls
pub record Stop : Type 0 where
  pub refusal : Refusal
  pub place : ℕ

-- what all bytes read as: the rows of every tag in their order, and the refusal that ends them, or none
pub record Whole : Type 0 where
  pub rows : List Tagged
  pub stop : Option Stop

-- nothing more is read
abbrev pub ends : Option Stop → Whole
ends e = record { rows = []; stop = e }

abbrev pub stopped : Refusal → ℕ → Whole
stopped f at = ends (Some (record { refusal = f; place = at }))

-- one row more, in front
abbrev pub more : Tagged → Whole → Whole
more x w = record { rows = x ∷ w.rows; stop = w.stop }

abbrev pub keep_if : Bool → Node → List Node → List Node
keep_if true n ns = n ∷ ns
keep_if false n ns = ns

-- the nodes of one tag, in their order
abbrev pub of_tag : ℕ → List Tagged → List Node
of_tag tag [] = []
of_tag tag (x ∷ xs) = keep_if (x.tag == tag) (as_node x.row) (of_tag tag xs)

-- the ending, told under a name
abbrev pub named : ℕ → Option Stop → Option Fault
named name None = None
named name (Some s) = Some (fault_by s.refusal name s.place)
