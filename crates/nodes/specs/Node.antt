use Rattle.std.specs.Prelude.{◌≡◌, ◌+◌, ◌≤◌, Bool, true, false, ◌&&◌, Ok, Err, Result, ◌==◌, nat_le, nat_lt, refl}
use Rattle.std.proofs.Common.{lit≤}
use Rattle.std.proofs.lemmas.Bool.{leb-true, and_parts}
use Rattle.nodes.specs.Limits.{max_document, max_level}
use Rattle.nodes.specs.declared.refusal.Refusal.{Refusal}
use Rattle.nodes.specs.declared.refusal.Refusal.TheVariants.{OutOfRange, StartPassesEnd}
use Rattle.nodes.specs.declared.row.Row.{Row}
use Rattle.nodes.specs.declared.place.Place.{Place}
use Rattle.nodes.specs.declared.node.Node.{Node}

-- the four numbers of a node
abbrev pub row_of : Node → Row
row_of n = record { document = n.document; start = n.start; end = n.end; level = n.level }

-- where a node stands
abbrev pub place_of : Node → Place
place_of n = record { document = n.document; start = n.start }

-- a contains d: one document, and d strictly inside on both sides
abbrev pub contains : Node → Node → Bool
contains a d = a.document == d.document && (nat_lt a.start d.start && nat_lt d.end a.end)

-- a is the parent of d: it contains d, which is one level deeper
abbrev pub parent : Node → Node → Bool
parent a d = contains a d && a.level + 1 == d.level

-- a row's document and level are in their ranges
abbrev pub in_range : Row → Bool
in_range r = nat_le r.document max_document && (nat_le 1 r.level && nat_le r.level max_level)

-- a row's start does not pass its end
abbrev pub in_order : Row → Bool
in_order r = nat_le r.start r.end

-- the first where a test holds, made with that fact; else the second
abbrev pub given : {A : Type 0} (b : Bool) → (b ≡ true → A) → A → A
given true f x = f refl
given false f x = x

pub in_parts : (r : Row) → in_range r ≡ true → (r.document ≤ max_document) × ((1 ≤ r.level) × (r.level ≤ max_level))
in_parts r h =
    let a = and_parts (nat_le r.document max_document) (nat_le 1 r.level && nat_le r.level max_level) h in
    let b = and_parts (nat_le 1 r.level) (nat_le r.level max_level) a.1 in
    (leb-true r.document max_document a.0, (leb-true 1 r.level b.0, leb-true r.level max_level b.1))

-- the node with a row's four numbers
abbrev pub node_from : (r : Row) → in_range r ≡ true → in_order r ≡ true → Node
node_from r h k = record {
  document = r.document;
  start = r.start;
  end = r.end;
  level = r.level;
  known = (in_parts r h).0;
  deep = (in_parts r h).1;
  ordered = leb-true r.start r.end k;
}

-- the node of a row, or what is wrong with it: the ranges before the order
abbrev pub node_of : Row → Result Node Refusal
node_of r = given (in_range r) (λ h. given (in_order r) (λ k. Ok (node_from r h k)) (Err StartPassesEnd)) (Err OutOfRange)

-- the blank node
abbrev pub blank : Node
blank = record {
  document = 0;
  start = 0;
  end = 0;
  level = 1;
  known = lit≤ tt;
  deep = (lit≤ tt, lit≤ tt);
  ordered = lit≤ tt;
}

abbrev pub or_blank : Result Node Refusal → Node
or_blank (Ok n) = n
or_blank (Err e) = blank

-- the node of a row, and the blank node where the row is wrong
abbrev pub as_node : Row → Node
as_node r = or_blank (node_of r)
