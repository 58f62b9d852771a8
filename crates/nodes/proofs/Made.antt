use Rattle.std.proofs.Common.{◌≡◌, ℕ, ◌≤◌, Bool, true, false, Ok, Err, refl, ap, arith}
use mathlib.Core.HLevel.{is_prop→PathP}
use native.Mathlib.Bridge.{le_prop}
use Rattle.std.proofs.lemmas.Bool.{le-leb, and_from}
use Rattle.nodes.specs.Limits.{max_document, max_level}
use Rattle.nodes.specs.declared.refusal.Refusal.TheVariants.{OutOfRange, StartPassesEnd}
use Rattle.nodes.specs.declared.row.Row.{Row}
use Rattle.nodes.specs.declared.node.Node.{Node}
use Rattle.nodes.specs.Node.{row_of, in_range, in_order, given, node_from, node_of, as_node, or_blank}

pub given-true : {A : Type 0} (b : Bool) (f : b ≡ true → A) (x y : A) → b ≡ true → ((h : b ≡ true) → f h ≡ y) → given b f x ≡ y
given-true true f x y e k = k refl
given-true false f x y e k = grind arith

pub given-false : {A : Type 0} (b : Bool) (f : b ≡ true → A) (x : A) → b ≡ false → given b f x ≡ x
given-false true f x e = grind arith
given-false false f x e = refl

-- a fact of both ways holds of the one that is taken
pub given_both : {A : Type 0} (P : A → Type 0) (b : Bool) (f : b ≡ true → A) (x : A) → ((h : b ≡ true) → P (f h)) → (b ≡ false → P x) → P (given b f x)
given_both P true f x p q = p refl
given_both P false f x p q = q refl

-- a node is its four numbers
pub same_node_lem : (a b : Node) → row_of a ≡ row_of b → a ≡ b
same_node_lem a b e = λ i. record {
  document = (e i).document;
  start = (e i).start;
  end = (e i).end;
  level = (e i).level;
  known = is_prop→PathP (λ j. (e j).document ≤ max_document) (λ j. le_prop) a.known b.known i;
  deep = (
    is_prop→PathP (λ j. 1 ≤ (e j).level) (λ j. le_prop) a.deep.0 b.deep.0 i,
    is_prop→PathP (λ j. (e j).level ≤ max_level) (λ j. le_prop) a.deep.1 b.deep.1 i,
  );
  ordered = is_prop→PathP (λ j. (e j).start ≤ (e j).end) (λ j. le_prop) a.ordered b.ordered i;
}

pub in_range_lem : (n : Node) → in_range (row_of n) ≡ true
in_range_lem n = and_from _ _ (le-leb _ _ n.known) (and_from _ _ (le-leb _ _ n.deep.0) (le-leb _ _ n.deep.1))

pub in_order_lem : (n : Node) → in_order (row_of n) ≡ true
in_order_lem n = le-leb _ _ n.ordered

-- the check of a node's own row gives the node back
pub node_of_row : (n : Node) → node_of (row_of n) ≡ Ok n
node_of_row n =
    given-true (in_range (row_of n)) _ (Err OutOfRange) (Ok n) (in_range_lem n)
    (λ h. given-true (in_order (row_of n)) _ (Err StartPassesEnd) (Ok n) (in_order_lem n) (λ k. ap Ok (same_node_lem (node_from (row_of n) h k) n refl)))

pub node_of_order : (r : Row) → in_range r ≡ true → in_order r ≡ false → node_of r ≡ Err StartPassesEnd
node_of_order r h k = given-true (in_range r) _ (Err OutOfRange) (Err StartPassesEnd) h (λ _. given-false (in_order r) _ (Err StartPassesEnd) k)

-- so does the total reading of it
pub as_node_row : (n : Node) → as_node (row_of n) ≡ n
as_node_row n = ap or_blank (node_of_row n)

-- what the check makes has the row's numbers
pub row_of_lem : (r : Row) (n : Node) → Ok n ≡ node_of r → row_of n ≡ r
row_of_lem r n =
    given_both (λ z. Ok n ≡ z → row_of n ≡ r) (in_range r) _ (Err OutOfRange)
    (λ h. given_both (λ z. Ok n ≡ z → row_of n ≡ r) (in_order r) _ (Err StartPassesEnd)
    (λ k e. let z : n ≡ node_from r h k = cc in ap row_of z)
    (λ _ e. let z : ◌≡◌ {A = ℕ} 0 1 = cc in absurd (omega arith)))
    (λ _ e. let z : ◌≡◌ {A = ℕ} 0 1 = cc in absurd (omega arith))

-- a row in its ranges and its order is read with its own numbers
pub row_as_node : (r : Row) → in_range r ≡ true → in_order r ≡ true → row_of (as_node r) ≡ r
row_as_node r h k =
    given_both (λ z. row_of (or_blank z) ≡ r) (in_range r) _ (Err OutOfRange)
    (λ h'. given_both (λ z. row_of (or_blank z) ≡ r) (in_order r) _ (Err StartPassesEnd) (λ k'. refl) (λ n. grind arith))
    (λ n. grind arith)
