use Rattle.std.proofs.Common.{◌≡◌, ℕ, zero, suc, ◌+◌, ◌<◌, ◌≤◌, true, false, List, [], ◌∷◌, length, drop, Some, None, Ok, Err, Option, Result, is_some, sym, refl, ap, ◌∙◌, le_refl, add-zero, arith, length-drop}
use Rattle.std.specs.Borrow.{Bor}
use Rattle.std.proofs.lemmas.Slice.{between_to_end}
use Rattle.std.proofs.lemmas.Bool.{lt-ltb, le-ltb, cond-true, cond-false}
use Rattle.nodes.specs.Limits.{max_bytes}
use Rattle.nodes.specs.declared.node.Node.{Node}
use Rattle.nodes.specs.declared.tagged.Tagged.{Tagged}
use Rattle.nodes.specs.declared.refusal.Refusal.{Refusal}
use Rattle.nodes.specs.declared.refusal.Refusal.TheVariants.{ShortRecord}
use Rattle.nodes.specs.declared.refusal.Fault.{Fault}
use Rattle.nodes.specs.Node.{node_of}
use Rattle.nodes.specs.Source.{answer, Taken}
use Rattle.postings.specs.declared.source.PostingSource.{PostingSource}
use Rattle.postings.specs.Records.{record_bytes, Cut, of_tag, under_tag, posting_in}
use Rattle.postings.specs.Reading.{Reading, stopped, read_one, read_from, read_rest, nodes_of, ending_of}
use Rattle.nodes.specs.Whole.{Stop, named}
use Rattle.postings.specs.Source.{left, posting_nodes, posting_ending}

-- passing over some bytes is leaving them out
pass_over : (n place : ℕ) (bs : List ℕ) → read_from n place bs ≡ read_from 0 (place + n) (drop n bs)
pass_over zero place bs = rw add-zero
pass_over (suc n) place [] = refl
pass_over (suc n) place (b ∷ bs) = let e : place + 1 + n ≡ place + suc n = omega arith in pass_over n (place + 1) bs ∙ ap (λ p. read_from 0 p (drop n bs)) e

-- the record at the front, and then what is behind it
pub read_on : (place : ℕ) (bs : List ℕ) → 0 < length bs → read_from 0 place bs ≡ read_one place (posting_in bs) (read_from 0 (place + record_bytes) (drop record_bytes bs))
read_on place [] h = absurd (omega arith)
read_on place (b ∷ bs) h =
    let e : place + 1 + 14 ≡ place + record_bytes = omega arith in
    ap (read_one place (posting_in (b ∷ bs))) (pass_over 14 (place + 1) bs ∙ ap (λ p. read_from 0 p (drop 14 bs)) e)

pub in_bounds : (place : ℕ) (bs : List ℕ) → place + length bs ≤ max_bytes → read_rest place bs ≡ read_from 0 place bs
in_bounds place bs h = cond-false _ _ _ (le-ltb max_bytes (place + length bs) h)

-- too little is left for a record
pub at_short : (s : PostingSource) → s.place + length s.bytes.now ≤ max_bytes → 0 < length s.bytes.now → length s.bytes.now < record_bytes →
    left s ≡ stopped (Some (record { refusal = ShortRecord; place = s.place }))
at_short s fits h k =
    in_bounds s.place s.bytes.now fits
    ∙ read_on s.place s.bytes.now h
    ∙ ap (λ p. read_one s.place p (read_from 0 (s.place + record_bytes) (drop record_bytes s.bytes.now))) (cond-true _ _ _ (lt-ltb (length s.bytes.now) record_bytes k))

-- a node in front of others, if there is one
abbrev pub with_node : Option Node → List Node → List Node
with_node None ns = ns
with_node (Some n) ns = n ∷ ns

-- what a right record adds to a tag's nodes
one_more : (place wanted tag : ℕ) (c : Result Node Refusal) (r : Reading) (o : Option Node) → Ok o ≡ of_tag wanted tag c →
    (nodes_of wanted (read_one place (under_tag tag c) r) ≡ with_node o (nodes_of wanted r)) × ((read_one place (under_tag tag c) r).stop ≡ r.stop)
one_more place wanted tag c r o e = (grind arith, grind arith)

no_more : (place wanted tag : ℕ) (c : Result Node Refusal) (r : Reading) (f : Refusal) → Err f ≡ of_tag wanted tag c → read_one place (under_tag tag c) r ≡ stopped (Some (record { refusal = f; place = place }))
no_more place wanted tag c r f e = grind arith

-- the source's next record is whole
module _ (s : PostingSource) (x : Tagged) (rest : Bor (List ℕ)) (fits : s.place + length s.bytes.now ≤ max_bytes) (cut : Cut s.bytes.now (Some (x, rest))) where
  behind : rest.now ≡ drop record_bytes s.bytes.now
  behind = cut.3 ∙ between_to_end s.bytes.now record_bytes (length s.bytes.now) (le_refl _)

  pub fits_on : (s.place + record_bytes) + length rest.now ≤ max_bytes
  fits_on = grind (arith, behind, length-drop)

  in_front_lem : posting_in s.bytes.now ≡ under_tag x.tag (node_of x.row)
  in_front_lem = cond-false _ _ _ (le-ltb (length s.bytes.now) record_bytes cut.0) ∙ rw (cut.1, cut.2)

  next : left s ≡ read_one s.place (under_tag x.tag (node_of x.row)) (read_rest (s.place + record_bytes) rest.now)
  next =
      let k = cut.0 in
      in_bounds s.place s.bytes.now fits
      ∙ read_on s.place s.bytes.now (omega arith)
      ∙ ap (λ p. read_one s.place p (read_from 0 (s.place + record_bytes) (drop record_bytes s.bytes.now))) in_front_lem
      ∙ ap (λ bs. read_one s.place (under_tag x.tag (node_of x.row)) (read_from 0 (s.place + record_bytes) bs)) (sym behind)
      ∙ ap (read_one s.place (under_tag x.tag (node_of x.row))) (sym (in_bounds (s.place + record_bytes) rest.now fits_on))

  pub at_wrong : (f : Refusal) → Err f ≡ of_tag s.tag x.tag (node_of x.row) → left s ≡ stopped (Some (record { refusal = f; place = s.place }))
  at_wrong f e = next ∙ no_more s.place s.tag x.tag (node_of x.row) (read_rest (s.place + record_bytes) rest.now) f e

  pub at_record : (o : Option Node) → Ok o ≡ of_tag s.tag x.tag (node_of x.row) →
      (posting_nodes s ≡ with_node o (nodes_of s.tag (read_rest (s.place + record_bytes) rest.now))) × (posting_ending s ≡ ending_of s.name (read_rest (s.place + record_bytes) rest.now))
  at_record o e =
      let m = one_more s.place s.tag x.tag (node_of x.row) (read_rest (s.place + record_bytes) rest.now) o e in
      (ap (nodes_of s.tag) next ∙ m.0, ap (ending_of s.name) next ∙ ap (named s.name) m.1)

-- take, after a loop from the source s to t that left what it means
module _ (s t : PostingSource) (same : posting_nodes t ≡ posting_nodes s) (alike : posting_ending t ≡ posting_ending s) where
  pub stops : (o : Option Stop) → left t ≡ stopped o → Taken (posting_nodes s) (posting_ending s) (answer [] (named t.name o)) (posting_nodes t) (posting_ending t)
  stops o e =
      let a = ap (nodes_of t.tag) e in
      let b = ap (ending_of t.name) e in
      record { answers = rw (← same, ← alike, a, b); leaves = rw (← same, a); keeps = alike }

  pub gives : (o : Option Node) (ns : List Node) (e : Option Fault) → true ≡ is_some o → posting_nodes t ≡ with_node o ns → posting_ending t ≡ e → Taken (posting_nodes s) (posting_ending s) (Ok o) ns e
  gives o ns e h a b = grind arith

  -- what is left behind a record without a node of the tag means the same
  pub passed : (o : Option Node) (ns : List Node) (e : Option Fault) → false ≡ is_some o → posting_nodes t ≡ with_node o ns → posting_ending t ≡ e → (ns ≡ posting_nodes s) × (e ≡ posting_ending s)
  passed o ns e h a b = grind arith
