use Rattle.std.proofs.Common.{◌≡◌, ℕ, suc, ◌+◌, ◌<◌, ◌≤◌, Bool, true, false, ltb, leb, List, [], ◌∷◌, ◌++◌, length, take, drop, Some, None, Option, sym, refl, ap, ◌∙◌, subst, append_assoc, append-nil, arith, take_at}
use Rattle.std.proofs.lemmas.Bool.{le-leb, lt-ltb, and_from}
use Rattle.nodes.specs.Limits.{max_bytes, max_document, max_level}
use Rattle.nodes.specs.Bytes.{four}
use Rattle.nodes.specs.declared.refusal.Refusal.{Refusal}
use Rattle.nodes.specs.declared.refusal.Refusal.TheVariants.{DocumentOrder, TooDeep, NoRoom, BrokenOpen}
use Rattle.tapes.specs.Reading.{test}
use Rattle.tapes.specs.Forest.{Children, none, value, element, Document, Forest, size, encode_in, encode_from, encode, FineIn, FineFrom, Fine}
use Rattle.tapes.specs.Draft.{Opened, Draft, between, begun, within, rooted, opened, document, append, grown, closed, size_of, open_size, draft_size, least_of, open_bytes}
use Rattle.tapes.proofs.Commands.{some_not}
use Rattle.tapes.proofs.Drafts.{encode_app, size-append, size_snoc, least_snoc, length_docs}
use Rattle.writer.specs.Writer.{room}
use Rattle.writer.specs.Calls.{Answer, calls_in, calls_of, open_calls, draft_calls, put, judge, unless_refused, after, answer_at, answer, put_from, answers_from, put_in, cons_if, accepted, around_at, bytes_of_draft, over, finished_in}
use Rattle.writer.specs.Writes.{StartsWith, Unbroken}
use Rattle.writer.specs.declared.call.WriterCall.{WriterCall}
use Rattle.writer.specs.declared.call.WriterCall.TheVariants.{Begin, Open, Value, Close, End}

-- one call more
pub put_snoc : (old : List ℕ) (d : Draft) (cs : List WriterCall) (c : WriterCall) → put_from old d (cs ++ (c ∷ [])) ≡ after old (put_from old d cs) c
put_snoc old d [] c = refl
put_snoc old d (x ∷ cs) c = put_snoc old (after old d x) cs c

pub answers_snoc : (old : List ℕ) (d : Draft) (cs : List WriterCall) (c : WriterCall)
    → answers_from old d (cs ++ (c ∷ [])) ≡ answers_from old d cs ++ (answer old (put_from old d cs) c ∷ [])
answers_snoc old d [] c = refl
answers_snoc old d (x ∷ cs) c = ap (λ r. answer old d x ∷ r) (answers_snoc old (after old d x) cs c)

pub length_answers : (old : List ℕ) (d : Draft) (cs : List WriterCall) → length (answers_from old d cs) ≡ length cs
length_answers old d [] = refl
length_answers old d (x ∷ cs) = ap suc (length_answers old (after old d x) cs)

-- the calls of what was put in are those that were accepted
calls_app : (f : Children) (a b : List WriterCall) → calls_in f (a ++ b) ≡ calls_in f a ++ b
calls_app none a b = refl
calls_app (value t n f) a b = ap (λ r. Value t n ∷ r) (calls_app f a b)
calls_app (element t c f) a b =
    ap (λ r. Open t ∷ calls_in c (Close ∷ r)) (calls_app f a b) ∙ ap (λ r. Open t ∷ r) (calls_app c (Close ∷ calls_in f a) b)

calls_append : (f g : Children) (r : List WriterCall) → calls_in (append f g) r ≡ calls_in f (calls_in g r)
calls_append none g r = refl
calls_append (value t n f) g r = ap (λ z. Value t n ∷ z) (calls_append f g r)
calls_append (element t c f) g r = ap (λ z. Open t ∷ calls_in c (Close ∷ z)) (calls_append f g r)

calls_snoc : (ds : Forest) (x : Document) → calls_of (ds ++ (x ∷ [])) ≡ calls_of ds ++ calls_of (x ∷ [])
calls_snoc [] x = refl
calls_snoc (y ∷ ds) x =
    ap (λ r. Begin y.number ∷ Open y.tag ∷ calls_in y.children (Close ∷ End ∷ r)) (calls_snoc ds x)
    ∙ ap (λ r. Begin y.number ∷ Open y.tag ∷ r) (calls_app y.children (Close ∷ End ∷ calls_of ds) (calls_of (x ∷ [])))

abbrev heading : Forest → ℕ → List WriterCall
heading ds n = calls_of ds ++ (Begin n ∷ [])

grow_calls : (fs : List Opened) (x : Opened) (g : Children) → open_calls (grown x g ∷ fs) ≡ open_calls (x ∷ fs) ++ calls_in g []
grow_calls fs x g =
    ap (λ r. open_calls fs ++ (Open x.tag ∷ r)) (calls_append x.children g [] ∙ calls_app x.children [] (calls_in g []))
    ∙ sym (append_assoc (open_calls fs) (Open x.tag ∷ calls_in x.children []) (calls_in g []))

closed_calls : (ds : Forest) (n : ℕ) (fs : List Opened) (x : Opened) → draft_calls (closed ds n fs x) ≡ draft_calls (within ds n fs x) ++ (Close ∷ [])
closed_calls ds n [] x =
    ap (λ r. heading ds n ++ (Open x.tag ∷ r)) (calls_app x.children [] (Close ∷ []))
    ∙ sym (append_assoc (heading ds n) (Open x.tag ∷ calls_in x.children []) (Close ∷ []))
closed_calls ds n (y ∷ fs) x =
    ap (λ r. heading ds n ++ r)
    (grow_calls fs y (element x.tag x.children none)
    ∙ ap (λ r. open_calls (y ∷ fs) ++ (Open x.tag ∷ r)) (calls_app x.children [] (Close ∷ []))
    ∙ sym (append_assoc (open_calls (y ∷ fs)) (Open x.tag ∷ calls_in x.children []) (Close ∷ [])))
    ∙ sym (append_assoc (heading ds n) (open_calls (x ∷ y ∷ fs)) (Close ∷ []))

put_calls : (old : List ℕ) (d : Draft) (c : WriterCall) → judge old d c ≡ None → draft_calls (put old d c) ≡ draft_calls d ++ (c ∷ [])
put_calls old (between ds) (Begin m) j = refl
put_calls old (between ds) (Open t) j = absurd (some_not j)
put_calls old (between ds) (Value t v) j = absurd (some_not j)
put_calls old (between ds) Close j = absurd (some_not j)
put_calls old (between ds) End j = absurd (some_not j)
put_calls old (begun ds m) (Begin k) j = absurd (some_not j)
put_calls old (begun ds m) (Open t) j = refl
put_calls old (begun ds m) (Value t v) j = absurd (some_not j)
put_calls old (begun ds m) Close j = absurd (some_not j)
put_calls old (begun ds m) End j = absurd (some_not j)
put_calls old (within ds m fs x) (Begin k) j = absurd (some_not j)
put_calls old (within ds m fs x) (Open t) j = sym (append_assoc (heading ds m) (open_calls (x ∷ fs)) (Open t ∷ []))
put_calls old (within ds m fs x) (Value t v) j =
    ap (λ r. heading ds m ++ r) (grow_calls fs x (value t v none)) ∙ sym (append_assoc (heading ds m) (open_calls (x ∷ fs)) (Value t v ∷ []))
put_calls old (within ds m fs x) Close j = closed_calls ds m fs x
put_calls old (within ds m fs x) End j = absurd (some_not j)
put_calls old (rooted ds m t f) (Begin k) j = absurd (some_not j)
put_calls old (rooted ds m t f) (Open u) j = absurd (some_not j)
put_calls old (rooted ds m t f) (Value u v) j = absurd (some_not j)
put_calls old (rooted ds m t f) Close j = absurd (some_not j)
put_calls old (rooted ds m t f) End j =
    calls_snoc ds (document m t f)
    ∙ ap (λ r. calls_of ds ++ (Begin m ∷ Open t ∷ r)) (calls_app f (Close ∷ []) (End ∷ []))
    ∙ sym (append_assoc (calls_of ds) (Begin m ∷ []) ((Open t ∷ calls_in f (Close ∷ [])) ++ (End ∷ [])))
    ∙ sym (append_assoc (heading ds m) (Open t ∷ calls_in f (Close ∷ [])) (End ∷ []))

by_verdict : (j : Option Refusal) (at : ℕ) (d e : Draft) (c : WriterCall) (k : List WriterCall) → (j ≡ None → draft_calls e ≡ draft_calls d ++ (c ∷ []))
    → draft_calls (unless_refused j e d) ++ k ≡ draft_calls d ++ cons_if (answer_at at j) c k
by_verdict None at d e c k h = ap (λ x. x ++ k) (h refl) ∙ append_assoc (draft_calls d) (c ∷ []) k
by_verdict (Some f) at d e c k h = refl

pub accepted_calls : (old : List ℕ) (d : Draft) (cs : List WriterCall) → draft_calls (put_from old d cs) ≡ draft_calls d ++ accepted cs (answers_from old d cs)
accepted_calls old d [] = sym (append-nil (draft_calls d))
accepted_calls old d (c ∷ cs) =
    accepted_calls old (after old d c) cs
    ∙ by_verdict (judge old d c) (draft_size d) d (put old d c) c (accepted cs (answers_from old (after old d c) cs)) (put_calls old d c)

-- finished documents stand
docs_first : (d : Draft) → (r : List ℕ) × (bytes_of_draft d ≡ encode (finished_in d) ++ r)
docs_first (between ds) = ([], sym (append-nil (encode ds)))
docs_first (begun ds n) = (1 ∷ four n [], refl)
docs_first (within ds n fs x) =
    (1 ∷ four n (open_bytes around_at (size_of ds + 5) (x ∷ fs)), append_assoc (encode ds) (1 ∷ four n []) (open_bytes around_at (size_of ds + 5) (x ∷ fs)))
docs_first (rooted ds n t f) =
    (1 ∷ four n (encode_in (size_of ds + 5) (element t f none) []), append_assoc (encode ds) (1 ∷ four n []) (encode_in (size_of ds + 5) (element t f none) []))

docs_append : (at : ℕ) (ds es : Forest) → (r : List ℕ) × (encode_from at (ds ++ es) ≡ encode_from at ds ++ r)
docs_append at [] es = (encode_from at es, refl)
docs_append at (y ∷ ds) es =
    let b : ℕ = at + 14 + size y.children in
    let h = docs_append b ds es in (
      h.0,
      ap (λ r. 1 ∷ four y.number r)
          (ap (λ r. encode_in (at + 5) (element y.tag y.children none) (5 ∷ r)) h.1
          ∙ encode_app (at + 5) (element y.tag y.children none) (5 ∷ encode_from b ds) h.0),
    )

abbrev Adds : Draft → Draft → Type 0
Adds d e = (es : Forest) × (finished_in e ≡ finished_in d ++ es)

same_docs : (d e : Draft) → finished_in e ≡ finished_in d → Adds d e
same_docs d e h = ([], h ∙ sym (append-nil (finished_in d)))

put_adds : (old : List ℕ) (d : Draft) (c : WriterCall) → Adds d (put old d c)
put_adds old (between ds) (Begin n) = same_docs (between ds) (begun ds n) refl
put_adds old (between ds) (Open t) = same_docs (between ds) (between ds) refl
put_adds old (between ds) (Value t v) = same_docs (between ds) (between ds) refl
put_adds old (between ds) Close = same_docs (between ds) (between ds) refl
put_adds old (between ds) End = same_docs (between ds) (between ds) refl
put_adds old (begun ds n) (Begin m) = same_docs (begun ds n) (begun ds n) refl
put_adds old (begun ds n) (Open t) = same_docs (begun ds n) (within ds n [] (opened t none)) refl
put_adds old (begun ds n) (Value t v) = same_docs (begun ds n) (begun ds n) refl
put_adds old (begun ds n) Close = same_docs (begun ds n) (begun ds n) refl
put_adds old (begun ds n) End = same_docs (begun ds n) (begun ds n) refl
put_adds old (within ds n fs x) (Begin m) = same_docs (within ds n fs x) (within ds n fs x) refl
put_adds old (within ds n fs x) (Open t) = same_docs (within ds n fs x) (within ds n (x ∷ fs) (opened t none)) refl
put_adds old (within ds n fs x) (Value t v) = same_docs (within ds n fs x) (within ds n fs (grown x (value t v none))) refl
put_adds old (within ds n [] x) Close = same_docs (within ds n [] x) (closed ds n [] x) refl
put_adds old (within ds n (y ∷ fs) x) Close = same_docs (within ds n (y ∷ fs) x) (closed ds n (y ∷ fs) x) refl
put_adds old (within ds n fs x) End = same_docs (within ds n fs x) (within ds n fs x) refl
put_adds old (rooted ds n t f) (Begin m) = same_docs (rooted ds n t f) (rooted ds n t f) refl
put_adds old (rooted ds n t f) (Open u) = same_docs (rooted ds n t f) (rooted ds n t f) refl
put_adds old (rooted ds n t f) (Value u v) = same_docs (rooted ds n t f) (rooted ds n t f) refl
put_adds old (rooted ds n t f) Close = same_docs (rooted ds n t f) (rooted ds n t f) refl
put_adds old (rooted ds n t f) End = (document n t f ∷ [], refl)

by_judge : (j : Option Refusal) (d e : Draft) → Adds d e → Adds d (unless_refused j e d)
by_judge None d e h = h
by_judge (Some f) d e h = same_docs d d refl

calls_add : (old : List ℕ) (d : Draft) (cs : List WriterCall) → Adds d (put_from old d cs)
calls_add old d [] = same_docs d d refl
calls_add old d (c ∷ cs) =
    let a = by_judge (judge old d c) d (put old d c) (put_adds old d c) in
    let b = calls_add old (after old d c) cs in
    (a.0 ++ b.0, b.1 ∙ ap (λ x. x ++ b.0) a.1 ∙ append_assoc (finished_in d) a.0 b.0)

put_both : (old : List ℕ) (d : Draft) (cs more : List WriterCall) → put_from old d (cs ++ more) ≡ put_from old (put_from old d cs) more
put_both old d [] more = refl
put_both old d (c ∷ cs) more = put_both old (after old d c) cs more

pub finished_stand : (cs : List WriterCall) (old new : List ℕ) → new ≡ over (bytes_of_draft (put_in old cs)) old
    → (first rest : List WriterCall) → cs ≡ first ++ rest → StartsWith (encode (finished_in (put_in old first))) new
finished_stand cs old new h first rest e =
    let d : Draft = put_in old cs in
    let f : Forest = finished_in (put_in old first) in
    let m = calls_add old (put_in old first) rest in
    let q : finished_in d ≡ f ++ m.0 = ap (λ z. finished_in (put_in old z)) e ∙ ap finished_in (put_both old (between []) first rest) ∙ m.1 in
    let r = docs_first d in
    let a = docs_append 0 f m.0 in
    let more : List ℕ = a.0 ++ r.0 in
    let b : bytes_of_draft d ≡ encode f ++ more =
    r.1 ∙ ap (λ x. encode x ++ r.0) q ∙ ap (λ x. x ++ r.0) a.1 ∙ append_assoc (encode f) a.0 r.0 in
    let tail : List ℕ = drop (length (bytes_of_draft d)) old in
    ap (take (length (encode f))) (h ∙ ap (λ x. x ++ tail) b ∙ append_assoc (encode f) more tail)
    ∙ take_at (encode f) (more ++ tail) (length (encode f)) refl

-- no call is refused for a changed OPEN
abbrev WholeStill : Option Refusal → Type 0
WholeStill None = Unit {0}
WholeStill (Some f) = f ≡ BrokenOpen → ⊥

test_still : (b : Bool) (f : Refusal) (x : Option Refusal) → (f ≡ BrokenOpen → ⊥) → WholeStill x → WholeStill (test b f x)
test_still true f x h k = k
test_still false f x h k = h

room_still : (at k : ℕ) (old : List ℕ) → WholeStill (test (room at k old) NoRoom None)
room_still at k old = test_still (room at k old) NoRoom None (λ e. cc) tt

judge_still : (old : List ℕ) (d : Draft) (c : WriterCall) → WholeStill (judge old d c)
judge_still old (between ds) (Begin m) = test_still (leb m max_document) DocumentOrder _ (λ e. cc) (test_still (leb (least_of 0 ds) m) DocumentOrder _ (λ e. cc) (room_still (size_of ds) 5 old))
judge_still old (between ds) (Open u) = λ e. cc
judge_still old (between ds) (Value u v) = λ e. cc
judge_still old (between ds) Close = λ e. cc
judge_still old (between ds) End = λ e. cc
judge_still old (begun ds n) (Begin m) = λ e. cc
judge_still old (begun ds n) (Open u) = room_still (size_of ds + 5) 7 old
judge_still old (begun ds n) (Value u v) = λ e. cc
judge_still old (begun ds n) Close = λ e. cc
judge_still old (begun ds n) End = λ e. cc
judge_still old (within ds n fs x) (Begin m) = λ e. cc
judge_still old (within ds n fs x) (Open u) = test_still (ltb (length fs + 1) max_level) TooDeep _ (λ e. cc) (room_still (size_of ds + 5 + open_size (x ∷ fs)) 7 old)
judge_still old (within ds n fs x) (Value u v) = test_still (ltb (length fs + 1) max_level) TooDeep _ (λ e. cc) (room_still (size_of ds + 5 + open_size (x ∷ fs)) 7 old)
judge_still old (within ds n fs x) Close = room_still (size_of ds + 5 + open_size (x ∷ fs)) 1 old
judge_still old (within ds n fs x) End = λ e. cc
judge_still old (rooted ds n t f) (Begin m) = λ e. cc
judge_still old (rooted ds n t f) (Open u) = λ e. cc
judge_still old (rooted ds n t f) (Value u v) = λ e. cc
judge_still old (rooted ds n t f) Close = λ e. cc
judge_still old (rooted ds n t f) End = room_still (size_of ds + 5 + (8 + size f)) 1 old

answer_still : (at : ℕ) (j : Option Refusal) (got : List Answer) → WholeStill j → Unbroken got → Unbroken (answer_at at j ∷ got)
answer_still at None got h k = k
answer_still at (Some f) got h k = (h, k)

pub answers_still : (old : List ℕ) (d : Draft) (cs : List WriterCall) → Unbroken (answers_from old d cs)
answers_still old d [] = tt
answers_still old d (c ∷ cs) =
    answer_still (draft_size d) (judge old d c) (answers_from old (after old d c) cs) (judge_still old d c) (answers_still old (after old d c) cs)

-- a fine forest that fits is put in by its calls
roomy : (at k : ℕ) (old : List ℕ) → at + k ≤ length old → at + k ≤ max_bytes → test (room at k old) NoRoom None ≡ None
roomy at k old a b = ap (λ z. test z NoRoom None) (and_from (leb (at + k) (length old)) (leb (at + k) max_bytes) (le-leb _ _ a) (le-leb _ _ b))

taken_in : (old : List ℕ) (d : Draft) (c : WriterCall) → judge old d c ≡ None → after old d c ≡ put old d c
taken_in old d c e = ap (λ j. unless_refused j (put old d c) d) e

append_none : (f : Children) → append f none ≡ f
append_none none = refl
append_none (value t n f) = ap (value t n) (append_none f)
append_none (element t c f) = ap (element t c) (append_none f)

append_three : (a b c : Children) → append (append a b) c ≡ append a (append b c)
append_three none b c = refl
append_three (value t n f) b c = ap (value t n) (append_three f b c)
append_three (element t k f) b c = ap (element t k) (append_three f b c)

children_in : (f : Children) (old : List ℕ) (ds : Forest) (m : ℕ) (fs : List Opened) (x : Opened) (r : List WriterCall) → FineIn (length fs + 2) f
    → size_of ds + 5 + open_size (x ∷ fs) + size f ≤ length old → size_of ds + 5 + open_size (x ∷ fs) + size f ≤ max_bytes
    → put_from old (within ds m fs x) (calls_in f r) ≡ put_from old (within ds m fs (grown x f)) r
children_in none old ds m fs x r fine a b = ap (λ k. put_from old (within ds m fs (opened x.tag k)) r) (sym (append_none x.children))
children_in (value t v f) old ds m fs x r fine a b =
    let at : ℕ = size_of ds + 5 + open_size (x ∷ fs) in
    let g : Children = value t v none in
    let sz = size-append x.children g in
    let l : length fs + 1 < max_level = omega (arith, fine.0) in
    let j : judge old (within ds m fs x) (Value t v) ≡ None =
    ap (λ z. test z TooDeep (test (room at 7 old) NoRoom None)) (lt-ltb (length fs + 1) max_level l) ∙ roomy at 7 old (omega arith) (omega arith) in
    ap (λ d. put_from old d (calls_in f r)) (taken_in old (within ds m fs x) (Value t v) j)
    ∙ children_in f old ds m fs (grown x g) r fine.3 (omega arith) (omega arith)
    ∙ ap (λ k. put_from old (within ds m fs (opened x.tag k)) r) (append_three x.children g f)
children_in (element t c f) old ds m fs x r fine a b =
    let at : ℕ = size_of ds + 5 + open_size (x ∷ fs) in
    let g : Children = element t c none in
    let sz = size-append x.children g in
    let l : length fs + 1 < max_level = omega (arith, fine.0) in
    let j : judge old (within ds m fs x) (Open t) ≡ None =
    ap (λ z. test z TooDeep (test (room at 7 old) NoRoom None)) (lt-ltb (length fs + 1) max_level l) ∙ roomy at 7 old (omega arith) (omega arith) in
    let e : length fs + 2 + 1 ≡ length (x ∷ fs) + 2 = omega arith in
    let k : judge old (within ds m (x ∷ fs) (opened t c)) Close ≡ None = roomy (size_of ds + 5 + open_size (opened t c ∷ x ∷ fs)) 1 old (omega arith) (omega arith) in
    ap (λ d. put_from old d (calls_in c (Close ∷ calls_in f r))) (taken_in old (within ds m fs x) (Open t) j)
    ∙ children_in c old ds m (x ∷ fs) (opened t none) (Close ∷ calls_in f r) (subst (λ (i : ℕ). FineIn i c) e fine.2) (omega arith) (omega arith)
    ∙ ap (λ d. put_from old d (calls_in f r)) (taken_in old (within ds m (x ∷ fs) (opened t c)) Close k)
    ∙ children_in f old ds m fs (grown x g) r fine.3 (omega arith) (omega arith)
    ∙ ap (λ k. put_from old (within ds m fs (opened x.tag k)) r) (append_three x.children g f)

documents_in : (ds : Forest) (old : List ℕ) (es : Forest) → FineFrom (least_of 0 es) ds → size_of es + size_of ds ≤ length old → size_of es + size_of ds ≤ max_bytes
    → put_from old (between es) (calls_of ds) ≡ between (es ++ ds)
documents_in [] old es fine a b = ap between (sym (append-nil es))
documents_in (x ∷ ds) old es fine a b =
    let c : Children = x.children in
    let m : ℕ = x.number in
    let t : ℕ = x.tag in
    let rest : List WriterCall = calls_of ds in
    let at : ℕ = size_of es in
    let sn = size_snoc es x in
    let j₁ : judge old (between es) (Begin m) ≡ None =
    ap (λ z. test z DocumentOrder (test (leb (least_of 0 es) m) DocumentOrder (test (room at 5 old) NoRoom None))) (le-leb m max_document fine.1)
    ∙ ap (λ z. test z DocumentOrder (test (room at 5 old) NoRoom None)) (le-leb (least_of 0 es) m fine.0) ∙ roomy at 5 old (omega arith) (omega arith) in
    let j₂ : judge old (begun es m) (Open t) ≡ None = roomy (at + 5) 7 old (omega arith) (omega arith) in
    let j₃ : judge old (within es m [] (opened t c)) Close ≡ None = roomy (at + 5 + open_size (opened t c ∷ [])) 1 old (omega arith) (omega arith) in
    let j₄ : judge old (rooted es m t c) End ≡ None = roomy (at + 5 + (8 + size c)) 1 old (omega arith) (omega arith) in
    ap (λ d. put_from old d (Open t ∷ calls_in c (Close ∷ End ∷ rest))) (taken_in old (between es) (Begin m) j₁)
    ∙ ap (λ d. put_from old d (calls_in c (Close ∷ End ∷ rest))) (taken_in old (begun es m) (Open t) j₂)
    ∙ children_in c old es m [] (opened t none) (Close ∷ End ∷ rest) fine.3 (omega arith) (omega arith)
    ∙ ap (λ d. put_from old d (End ∷ rest)) (taken_in old (within es m [] (opened t c)) Close j₃)
    ∙ ap (λ d. put_from old d rest) (taken_in old (rooted es m t c) End j₄)
    ∙ documents_in ds old (es ++ (x ∷ [])) (subst (λ (i : ℕ). FineFrom i ds) (sym (least_snoc 0 es x)) fine.4) (omega arith) (omega arith)
    ∙ ap between (append_assoc es (x ∷ []) ds)

pub forest_in : (old : List ℕ) (f : Forest) → Fine f → length (encode f) ≤ length old → put_in old (calls_of f) ≡ between f
forest_in old f h fits =
    let l = length_docs 0 f in
    let s = h.short in
    documents_in f old [] h.documents (omega arith) (omega arith)
