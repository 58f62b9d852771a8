use Rattle.std.proofs.Common.{◌≡◌, ℕ, zero, suc, ◌+◌, ◌<◌, ◌≤◌, Bool, true, false, ltb, leb, List, length, drop, Some, None, Ok, Err, Option, Result, sym, refl, ◌∙◌, inl, inr, arith, lit≤}
use Rattle.std.specs.List.{AllByRecursion as Every}
use Rattle.std.proofs.lemmas.Bool.{leb-true, ltb-true, ltb-false, le-leb, and_from, cases_Bool, cond-true, cond-false}
use Rattle.nodes.specs.Limits.{max_document, max_level}
use Rattle.nodes.specs.Whole.{Whole}
use Rattle.nodes.specs.declared.refusal.Refusal.{Refusal}
use Rattle.nodes.specs.declared.refusal.Refusal.TheVariants.{Misplaced, TooDeep, OutsideElement}
use Rattle.nodes.specs.Node.{row_of, as_node}
use Rattle.nodes.proofs.Made.{row_as_node}
use Rattle.tapes.specs.declared.command.Command.{Command}
use Rattle.tapes.specs.declared.command.Command.TheVariants.{Begin, Open, Close, Value, End}
use Rattle.tapes.specs.declared.stage.Stage.{Stage}
use Rattle.tapes.specs.declared.stage.Stage.TheVariants.{Outside, Begun, Rooted}
use Rattle.tapes.specs.Command.{command_in}
use Rattle.tapes.specs.Reading.{Reading, Move, refused, moved, made, test, judge, done, unless, move_by, step, end_at, onward, read_from, reads, reads_on, start, row_at, innermost, begun}
use Rattle.tapes.specs.Rows.{IsNode}

-- the numbers of a row that make it a node's
is_row : (d s e l : ℕ) → d ≤ max_document → s ≤ e → 1 ≤ l → l ≤ max_level → row_of (as_node (row_at d s e l)) ≡ row_at d s e l
is_row d s e l hd hs h1 hl = row_as_node (row_at d s e l) (and_from _ _ (le-leb _ _ hd) (and_from _ _ (le-leb _ _ h1) (le-leb _ _ hl))) (le-leb _ _ hs)

-- a test that was passed
pub passed : (b : Bool) (f : Refusal) (next : Option Refusal) → test b f next ≡ None → (b ≡ true) × (next ≡ None)
passed true f next e = (refl, e)
passed false f next e = absurd cc

-- what a move keeps: the document stays in its range, and what is made is a node's row
abbrev Fair : Move → Type 0
Fair (refused f) = Unit {0}
Fair (moved t) = t.document ≤ max_document
Fair (made x t) = IsNode x × (t.document ≤ max_document)

fair_unless : (j : Option Refusal) (m : Move) → (j ≡ None → Fair m) → Fair (unless j m)
fair_unless None m p = p refl
fair_unless (Some f) m p = tt

open_in : (s : Reading) (t c i : ℕ) → s.document ≤ max_document
    → test (ltb s.depth max_level) TooDeep (test (ltb s.at i) OutsideElement (test (leb (s.at + 7) c) OutsideElement (test (ltb c i) OutsideElement None))) ≡ None
    → Fair (done s (Open t c))
open_in s t c i h e =
    let q = passed (ltb s.depth max_level) _ _ e in
    let r = passed (ltb s.at i) _ _ q.1 in
    let u = passed (leb (s.at + 7) c) _ _ r.1 in
    let d : s.depth < max_level = ltb-true _ _ q.0 in
    let o : s.at + 7 ≤ c = leb-true _ _ u.0 in
    (is_row s.document s.at c (s.depth + 1) h (omega arith) (omega arith) (omega arith), h)

open_root : (n : ℕ) (s : Reading) (t c : ℕ) → s.document ≤ max_document → s.depth ≤ 0
    → test (begun s.stage) Misplaced (test (leb (s.at + 7) c) OutsideElement (test (ltb c n) OutsideElement None)) ≡ None
    → Fair (done s (Open t c))
open_root n s t c h z e =
    let q = passed (begun s.stage) _ _ e in
    let r = passed (leb (s.at + 7) c) _ _ q.1 in
    let o : s.at + 7 ≤ c = leb-true _ _ r.0 in
    (is_row s.document s.at c (s.depth + 1) h (omega arith) (omega arith) (omega arith), h)

fair_open : (n : ℕ) (s : Reading) (t c : ℕ) → s.document ≤ max_document → judge n s (Open t c) ≡ None → Fair (done s (Open t c))
fair_open n s t c h e =
    elim (cases_Bool (ltb 0 s.depth)) [
      | inl p ↦ open_in s t c (innermost s) h (sym (cond-true _ _ _ p) ∙ e)
      | inr p ↦ open_root n s t c h (ltb-false 0 s.depth p) (sym (cond-false _ _ _ p) ∙ e)
    ]

fair_done : (n : ℕ) (s : Reading) (k : Command) → s.document ≤ max_document → judge n s k ≡ None → Fair (done s k)
fair_done n s (Begin d) h e = leb-true _ _ (passed _ _ _ (passed _ _ _ e).1).0
fair_done n s (Open t c) h e = fair_open n s t c h e
fair_done n s Close h e = h
fair_done n s (Value t v) h e =
    let q = passed (ltb s.depth max_level) _ _ (passed (ltb 0 s.depth) _ _ e).1 in
    let d : s.depth < max_level = ltb-true _ _ q.0 in
    (is_row s.document s.at s.at (s.depth + 1) h (omega arith) (omega arith) (omega arith), h)
fair_done n s End h e = h

fair_by : (n : ℕ) (s : Reading) (r : Result Command Refusal) → s.document ≤ max_document → Fair (move_by n s r)
fair_by n s (Ok k) h = fair_unless (judge n s k) (done s k) (fair_done n s k h)
fair_by n s (Err f) h = tt

-- where nothing more is read
none_at : (g : Stage) (n : ℕ) → Every IsNode (end_at g n).rows
none_at Outside n = tt
none_at Begun n = tt
none_at Rooted n = tt

all_onward : (s : Reading) (m : Move) (go : Reading → Whole) → Fair m → ((t : Reading) → t.document ≤ max_document → Every IsNode (go t).rows) → Every IsNode (onward s m go).rows
all_onward s (refused f) go h p = tt
all_onward s (moved t) go h p = p t h
all_onward s (made x t) go h p = (h.0, p t h.1)

all_from : (f : ℕ) (bs : List ℕ) (s : Reading) → s.document ≤ max_document → Every IsNode (read_from f bs s).rows
unfolding read_from
all_from zero bs s h = none_at s.stage (length bs)
all_from (suc f) bs s h =
    elim (cases_Bool (ltb s.at (length bs))) [
      | inl p ↦ rw p (all_onward s (step bs s) (read_from f bs) (fair_by (length bs) s (command_in (drop s.at bs)) h) (λ t k. all_from f bs t k))
      | inr p ↦ rw p (none_at s.stage (length bs))
    ]

-- every row that a tape gives is a node's
pub tape_rows : (bs : List ℕ) → Every IsNode (reads_on bs start).rows
unfolding reads_on reads
tape_rows bs =
    elim (cases_Bool (leb (length bs) 16777216)) [
      | inl p ↦ rw p (all_from _ bs start (lit≤ tt))
      | inr p ↦ rw p tt
    ]
