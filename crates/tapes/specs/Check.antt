use Rattle.std.specs.Prelude.{◌≡◌, ℕ, List, map, Some, None, Ok, Err, Result, ◌≢◌}
use Rattle.nodes.specs.declared.refusal.Fault.{Fault}
use Rattle.nodes.specs.Node.{row_of}
use Rattle.tapes.specs.Forest.{Forest, encode, tag_rows, forest_rows, forest_nodes, Fine}
use Rattle.tapes.specs.Source.{tape_nodes, tape_end}

-- bytes are the tape of a forest: they encode it, and reading them gives every tag's nodes of it, none of them blank, and
-- then the end
pub record TapeOf (bs : List ℕ) (f : Forest) : Type 0 where
  pub fine : Fine f
  pub bytes : bs ≡ encode f
  pub nodes : (tag : ℕ) → tape_nodes bs tag ≡ forest_nodes f tag
  pub rows : (tag : ℕ) → map row_of (tape_nodes bs tag) ≡ tag_rows tag (forest_rows f)
  pub end : (name : ℕ) → tape_end bs name ≡ None

-- bytes encode no other forest than this one
abbrev pub OnlyOf : List ℕ → Forest → Type 0
OnlyOf bs f = (g : Forest) → Fine g → bs ≡ encode g → g ≡ f

-- what a check of bytes answers: they are the tape of exactly one forest, or the fault at which the reading ends, and then
-- they are the tape of none
abbrev pub Checks : List ℕ → (name : ℕ) → Result (Unit {0}) Fault → Type 0
Checks bs name (Ok u) = (f : Forest) × (TapeOf bs f × OnlyOf bs f)
Checks bs name (Err e) = (tape_end bs name ≡ Some e) × ((f : Forest) → Fine f → bs ≢ encode f)
