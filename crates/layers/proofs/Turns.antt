use Rattle.std.proofs.Common.{◌≡◌, ℕ, ◌+◌, ◌<◌, true, false, ltb, min, List, [], ◌∷◌, Some, None, Ok, Err, Option, Result, sym, refl, ap, ◌∙◌, arith}
use Rattle.std.proofs.lemmas.Bool.{ltb-true, cond-true}
use Rattle.nodes.specs.Limits.{max_turns}
use Rattle.nodes.specs.declared.node.Node.{Node}
use Rattle.nodes.specs.declared.refusal.Fault.{Fault}
use Rattle.nodes.specs.declared.refusal.Refusal.TheVariants.{TurnLimit}
use Rattle.nodes.specs.Source.{answer, rest, Taken}
use Rattle.nodes.specs.declared.source.NodeSource.{Ghosts}
use Rattle.nodes.specs.Side.{side_nodes, side_ending}
use Rattle.layers.specs.declared.union.Union.{Union}
use Rattle.layers.specs.declared.turn.Turn.{Turn}
use Rattle.layers.specs.declared.turn.Turn.TheVariants.{First, Second, Both}
use Rattle.nodes.specs.Turns.{turn_fault}
use Rattle.layers.specs.Turn.{next_turn}
use Rattle.layers.specs.Union.{Listing, stops, gives, had, allowed, onward, united, union_means}

-- what comes is decided by the turn that is next, for empty lists, too
pub united_on : (name k : ℕ) (X : List Node) (EX : Option Fault) (Y : List Node) (EY : Option Fault) →
    united name k X EX Y EY ≡ onward name k (next_turn (answer X EX) (answer Y EY)) (united name (k + 1) (rest X) EX Y EY) (united name (k + 1) X EX (rest Y) EY) (united name (k + 1) (rest X) EX (rest Y) EY)
unfolding united
united_on name k [] None [] None = refl
united_on name k [] None [] (Some g) = refl
united_on name k [] (Some f) [] EY = refl
united_on name k [] None (y ∷ ys) EY = refl
united_on name k [] (Some f) (y ∷ ys) EY = refl
united_on name k (x ∷ xs) EX [] None = refl
united_on name k (x ∷ xs) EX [] (Some g) = refl
united_on name k (x ∷ xs) EX (y ∷ ys) EY = refl

-- take, from one listing to another
abbrev pub Step : Listing → Result (Option Node) Fault → Listing → Type 0
Step l r l' = Taken l.nodes l.ending r l'.nodes l'.ending

gave : (l l' : Listing) (n : Node) → l ≡ gives n l' → Step l (Ok (Some n)) l'
gave l l' n e = record { answers = rw e; leaves = rw e; keeps = rw e }

stopped : (l : Listing) (o : Option Fault) → l ≡ stops o → Step l (answer [] o) l
stopped l o e = record { answers = rw e; leaves = rw e; keeps = refl }

spent : (name k : ℕ) (f : Fault) → Err f ≡ allowed name k → (ltb k max_turns ≡ false) × (f ≡ turn_fault name k TurnLimit)
spent name k f e = (grind arith, grind arith)

spare : (name k : ℕ) (x : Unit {0}) → Ok x ≡ allowed name k → ltb k max_turns ≡ true
spare name k x e = grind arith

counts : (k : ℕ) → ltb k max_turns ≡ true → min (k + 1) max_turns ≡ k + 1
counts k e = let h : k < max_turns = ltb-true _ _ e in omega arith

-- one take of a union whose hands are h and i, by the turn that is next
module _ {S T : Type 0} (below : Ghosts S) (beside : Ghosts T) (u : Union S T) (h i : Result (Option Node) Fault)
    (p : h ≡ answer (side_nodes below u.first) (side_ending below u.first)) (q : i ≡ answer (side_nodes beside u.second) (side_ending beside u.second)) where
  abbrev X : List Node
  X = side_nodes below u.first

  abbrev EX : Option Fault
  EX = side_ending below u.first

  abbrev Y : List Node
  Y = side_nodes beside u.second

  abbrev EY : Option Fault
  EY = side_ending beside u.second

  abbrev then : List Node → List Node → Listing
  then xs ys = united u.turns.name (u.turns.had + 1) xs EX ys EY

  by : (r : Result (Option Turn) Fault) → r ≡ next_turn h i → union_means below beside u ≡ onward u.turns.name u.turns.had r (then (rest X) Y) (then X (rest Y)) (then (rest X) (rest Y))
  by r e = rw (e, p, q) (united_on u.turns.name u.turns.had X EX Y EY)

  module _ (o : Option Turn) (t : Turn) (e : Ok o ≡ next_turn h i) (m : o ≡ Some t) where
    pub at_limit : (f : Fault) → Err f ≡ allowed u.turns.name u.turns.had → Step (union_means below beside u) (Err f) (union_means below beside u)
    at_limit f l =
        let p = spent u.turns.name u.turns.had f l in
        stopped _ (Some f) (let e : union_means below beside u ≡ _ = by (Ok (Some t)) (ap Ok (sym m) ∙ e) in grind arith)

    module _ (x : Unit {0}) (l : Ok x ≡ allowed u.turns.name u.turns.had) where
      turned : (t' : Turn) → t ≡ t' → union_means below beside u ≡ had u.turns.name u.turns.had t' (then (rest X) Y) (then X (rest Y)) (then (rest X) (rest Y))
      turned t' w = rw (← w) (by (Ok (Some t)) (ap Ok (sym m) ∙ e) ∙ cond-true _ _ _ (spare u.turns.name u.turns.had x l))

      -- so the turn is counted
      count : min (u.turns.had + 1) max_turns ≡ u.turns.had + 1
      count = counts u.turns.had (spare u.turns.name u.turns.had x l)

      abbrev pub counted : (xs : List Node) (ex : Option Fault) (ys : List Node) (ey : Option Fault) → Listing
      counted xs ex ys ey = united u.turns.name (min (u.turns.had + 1) max_turns) xs ex ys ey

      pub at_first : (n : Node) (X' : List Node) (EX' : Option Fault) → t ≡ First n → X' ≡ rest X → EX' ≡ EX → Step (union_means below beside u) (Ok (Some n)) (counted X' EX' Y EY)
      at_first n X' EX' w a b = gave _ _ n (rw (count, a, b) (turned (First n) w))

      pub at_second : (n : Node) (Y' : List Node) (EY' : Option Fault) → t ≡ Second n → Y' ≡ rest Y → EY' ≡ EY → Step (union_means below beside u) (Ok (Some n)) (counted X EX Y' EY')
      at_second n Y' EY' w a b = gave _ _ n (rw (count, a, b) (turned (Second n) w))

      pub at_both : (n : Node) (X' : List Node) (EX' : Option Fault) (Y' : List Node) (EY' : Option Fault) → t ≡ Both n → X' ≡ rest X → EX' ≡ EX → Y' ≡ rest Y → EY' ≡ EY →
          Step (union_means below beside u) (Ok (Some n)) (counted X' EX' Y' EY')
      at_both n X' EX' Y' EY' w a b c d = gave _ _ n (rw (count, a, b, c, d) (turned (Both n) w))
