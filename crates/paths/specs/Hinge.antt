use Rattle.std.specs.Prelude.{◌≡◌, ℕ, cond, List, [], ◌∷◌, None, Ok, Err, ◌==◌}
use Rattle.nodes.specs.declared.refusal.Refusal.TheVariants.{ListFull}
use Rattle.nodes.specs.Hinge.{node7, tag1, tag2, tag3}
use Rattle.paths.specs.declared.fault.PathFault.TheVariants.{Own}
use Rattle.paths.specs.Path.{Scope, path_means}

-- the lists of the block's tags, each of which ends
abbrev pub block : ℕ → Scope
block room = record {
  list_of = λ tag. cond (tag == 1) tag1 (cond (tag == 2) tag2 (cond (tag == 3) tag3 []));
  ending_of = λ tag name. None;
  room = room;
}

-- 21 0001 22 0002 21 0003
abbrev pub query : List ℕ
query = 0x21 ∷ 0 ∷ 1 ∷ 0x22 ∷ 0 ∷ 2 ∷ 0x21 ∷ 0 ∷ 3 ∷ []

-- the query over the block: with lists of two rows, and of one
pub record HingePath : Type 0 where
  pub two : path_means (block 2) query ≡ Ok (node7 19 19 3 ∷ node7 33 33 4 ∷ [])
  pub one : path_means (block 1) query ≡ Err (Own ListFull 2)
