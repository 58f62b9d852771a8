use Rattle.std.specs.Prelude.{◌≡◌, ℕ, List, [], ◌∷◌, Some, None}
use Rattle.nodes.specs.declared.refusal.Refusal.TheVariants.{OutsideElement, CloseElsewhere}
use Rattle.nodes.specs.Hinge.{tag1, tag2, tag3}
use Rattle.nodes.specs.Refusals.{fault_by}
use Rattle.tapes.specs.Forest.{none, value, element, Forest, encode}
use Rattle.tapes.specs.Source.{tape_nodes, tape_end}

-- the hinge block: a part (tag 1) with a body (tag 2) that has a face (tag 3) and a body with a face, and then a face
abbrev pub hinge : Forest
hinge = record { number = 7; tag = 1; children = element 2 (value 3 0 (element 2 (value 3 0 none) none)) (value 3 0 none) } ∷ []

-- its tape, where the root names a CLOSE offset of one byte
abbrev pub block : (close : ℕ) → List ℕ
block close =
    1 ∷ 0 ∷ 0 ∷ 0 ∷ 7
    ∷ 2 ∷ 0 ∷ 1 ∷ 0 ∷ 0 ∷ 0 ∷ close
    ∷ 2 ∷ 0 ∷ 2 ∷ 0 ∷ 0 ∷ 0 ∷ 41
    ∷ 4 ∷ 0 ∷ 3 ∷ 0 ∷ 0 ∷ 0 ∷ 0
    ∷ 2 ∷ 0 ∷ 2 ∷ 0 ∷ 0 ∷ 0 ∷ 40
    ∷ 4 ∷ 0 ∷ 3 ∷ 0 ∷ 0 ∷ 0 ∷ 0
    ∷ 3 ∷ 3
    ∷ 4 ∷ 0 ∷ 3 ∷ 0 ∷ 0 ∷ 0 ∷ 0
    ∷ 3 ∷ 5 ∷ []

-- what the block reads as, and how it is refused where the root names another CLOSE offset
pub record HingeTape : Type 0 where
  pub encoded : encode hinge ≡ block 49
  pub part : tape_nodes (block 49) 1 ≡ tag1
  pub bodies : tape_nodes (block 49) 2 ≡ tag2
  pub faces : tape_nodes (block 49) 3 ≡ tag3
  pub ends : (name : ℕ) → tape_end (block 49) name ≡ None
  pub close50 : (name : ℕ) → tape_end (block 50) name ≡ Some (fault_by CloseElsewhere name 49)
  pub close42 : (name : ℕ) → tape_end (block 42) name ≡ Some (fault_by OutsideElement name 42)
  pub close51 : (name : ℕ) → tape_end (block 51) name ≡ Some (fault_by OutsideElement name 5)
