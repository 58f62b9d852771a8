use Rattle.std.proofs.Common.{◌≡◌, ℕ, ◌<◌, ◌≤◌, Bool, true, false, cond, eqb, List, [], ◌∷◌, map, length, get_or, Some, None, Ok, Err, Option, Result, sym, refl, ap, ◌∙◌, subst, inl, inr}
use Rattle.std.specs.List.{AllByRecursion as Every}
use Rattle.std.proofs.lemmas.Bool.{cases_lt}
use Rattle.nodes.specs.Limits.{max_bytes}
use Rattle.nodes.specs.Whole.{Whole, Stop, keep_if, of_tag, named}
use Rattle.nodes.specs.declared.node.Node.{Node}
use Rattle.nodes.specs.declared.row.Row.{Row}
use Rattle.nodes.specs.declared.tagged.Tagged.{Tagged}
use Rattle.nodes.specs.Node.{row_of, as_node}
use Rattle.nodes.specs.declared.refusal.Fault.{Fault}
use Rattle.tapes.specs.Reading.{start, tape_reads}
use Rattle.tapes.specs.Rows.{IsNode}
use Rattle.tapes.specs.Source.{tape_end}
use Rattle.tapes.specs.Forest.{Forest, encode, tag_rows, forest_rows, Fine}
use Rattle.tapes.specs.Check.{TapeOf, Checks}
use Rattle.tapes.proofs.Onward.{short_reads, long_reads}
use Rattle.tapes.proofs.Commands.{some_not}
use Rattle.tapes.proofs.Forests.{forest_reads}
use Rattle.tapes.proofs.Rows.{tape_rows}
use Rattle.tapes.proofs.Unique.{one_forest}
use Rattle.tapes.proofs.Accepted.{encodes}

-- the nodes of rows that are nodes' have these rows
kept : (b : Bool) (r : Row) (ns : List Node) (rs : List Row) → row_of (as_node r) ≡ r → map row_of ns ≡ rs → map row_of (keep_if b (as_node r) ns) ≡ cond b (r ∷ rs) rs
kept true r ns rs e h = ap (λ z. z ∷ map row_of ns) e ∙ ap (λ z. r ∷ z) h
kept false r ns rs e h = h

own_rows : (tag : ℕ) (xs : List Tagged) → Every IsNode xs → map row_of (of_tag tag xs) ≡ tag_rows tag xs
own_rows tag [] h = refl
own_rows tag (x ∷ xs) h = kept (eqb x.tag tag) x.row (of_tag tag xs) (tag_rows tag xs) h.0 (own_rows tag xs h.1)

-- the encoding of a forest is its tape
pub tape_of : (bs : List ℕ) (f : Forest) → Fine f → bs ≡ encode f → TapeOf bs f
tape_of bs f h e =
    let r : tape_reads bs ≡ record { rows = forest_rows f; stop = None } = ap tape_reads e ∙ forest_reads f h in
    record {
      fine = h;
      bytes = e;
      nodes = λ tag. ap (λ (w : Whole). of_tag tag w.rows) r;
      rows = λ tag. ap (λ (w : Whole). map row_of (of_tag tag w.rows)) r ∙ own_rows tag (forest_rows f) (subst (λ (w : Whole). Every IsNode w.rows) r (tape_rows bs));
      end = λ name. ap (λ (w : Whole). named name w.stop) r;
    }

none_named : (name : ℕ) (s : Option Stop) → named name s ≡ None → s ≡ None
none_named name None e = refl
none_named name (Some s) e = absurd (some_not e)

-- a tape that reads to the end is not too long, and encodes a forest
ended : (bs : List ℕ) → ((i : ℕ) → get_or bs i 0 < 256) → (tape_reads bs).stop ≡ None → (f : Forest) × (Fine f × (bs ≡ encode f))
ended bs b h =
    elim (cases_lt max_bytes (length bs)) [
      | inl l ↦ absurd (some_not (sym (ap (λ (w : Whole). w.stop) (long_reads bs start l)) ∙ h))
      | inr l ↦
          let e = encodes bs b (sym (ap (λ (w : Whole). w.stop) (short_reads bs start l)) ∙ h) in
          (e.0, (record { documents = e.1.0; short = subst (λ (z : List ℕ). length z ≤ max_bytes) e.1.1 l }, e.1.1))
    ]

-- how bytes whose ending is e were read through
abbrev pub RunsOut : Option Fault → Result (Unit {0}) Fault → Type 0
RunsOut e (Ok u) = e ≡ None
RunsOut e (Err f) = e ≡ Some f

-- what was found by reading to the end
pub checks : (bs : List ℕ) (name : ℕ) (r : Result (Unit {0}) Fault) → ((i : ℕ) → get_or bs i 0 < 256) → RunsOut (tape_end bs name) r → Checks bs name r
checks bs name (Ok u) b h =
    let e = ended bs b (none_named name (tape_reads bs).stop h) in
    (e.0, (tape_of bs e.0 e.1.0 e.1.1, λ g k d. one_forest g e.0 k e.1.0 (sym d ∙ e.1.1)))
checks bs name (Err f) b h = (h, λ g k d. some_not (sym h ∙ (tape_of bs g k d).end name))
