use Rattle.std.proofs.Common.{◌≡◌, ℕ, zero, suc, ◌+◌, ◌-◌, ◌<◌, ◌≤◌, Bool, true, false, cond, eqb, ltb, leb, ◌≢◌, List, [], ◌∷◌, ◌++◌, length, get_or, take, drop, set, None, Option, sym, refl, ap, ◌∙◌, subst, inl, inr, arith, length-set, get_or-drop, take_all, get_or-set_other, get_or-set_same, take-add}
use Rattle.std.proofs.lemmas.Bool.{leb-true, ltb-true, eqb-true, both_ways, lt-ltb, cases_lt}
use Rattle.nodes.specs.Limits.{max_document, max_level}
use Rattle.nodes.specs.Bytes.{two, four}
use Rattle.nodes.specs.Whole.{Whole}
use Rattle.nodes.specs.declared.refusal.Refusal.{Refusal}
use Rattle.nodes.specs.declared.refusal.Refusal.TheVariants.{Misplaced, DocumentOrder, TooDeep, OutsideElement, CloseElsewhere}
use Rattle.tapes.specs.declared.command.Command.{Command}
use Rattle.tapes.specs.declared.command.Command.TheVariants.{Begin, Open, Close, Value, End}
use Rattle.tapes.specs.declared.stage.Stage.TheVariants.{Outside, Begun, Rooted}
use Rattle.tapes.specs.Command.{command_in}
use Rattle.tapes.specs.Reading
use Rattle.tapes.specs.Reading.{Reading, test, judge, innermost, reads, end_at, start}
use Rattle.tapes.specs.Forest.{Children, none, value, Document, Forest, encode_in, encode, FineFrom}
use Rattle.tapes.specs.Draft.{Opened, Draft, between, begun, within, rooted, opened, document, grown, closed, size_of, open_size, draft_size, least_of, Operand, open_bytes, draft_bytes, FineDraft}
use Rattle.tapes.proofs.Onward.{reads-step, reads_end}
use Rattle.tapes.proofs.Drafts
use Rattle.tapes.proofs.Drafts.{size-append, fine_append, fine_snoc, least_snoc, size_snoc, put_end, put_open, put-value, put_close, front, inner, headed, closed-size, fine_closed}
use Rattle.tapes.proofs.Rows.{passed}
use Rattle.tapes.proofs.Commands.{CommandAt, command_of, by_result, on_to, some_not}

-- the operands of the open elements are the CLOSE offsets that the reading keeps
abbrev pub of_path : List ℕ → Operand
of_path p at around = get_or p (length around) 0

-- the stage of a reading, its depth and the least number of the next document, by what was read
abbrev pub Stands : Reading → Draft → Type 0
Stands s (between f) = (s.stage ≡ Outside) × (s.depth ≡ 0) × (s.least ≡ least_of 0 f)
Stands s (begun f n) = (s.stage ≡ Begun) × (s.depth ≡ 0) × (s.least ≡ n + 1)
Stands s (within f n fs x) = (s.stage ≡ Rooted) × (s.depth ≡ length fs + 1) × (s.least ≡ n + 1)
Stands s (rooted f n t c) = (s.stage ≡ Rooted) × (s.depth ≡ 0) × (s.least ≡ n + 1)

-- a reading has come so far: all bytes before its place are those of a draft
pub record ReadTo (bs : List ℕ) (s : Reading) (d : Draft) : Type 0 where
  pub bytes : take s.at bs ≡ draft_bytes (of_path s.path) d
  pub place : s.at ≡ draft_size d
  pub stands : Stands s d
  pub room : length s.path ≡ max_level
  pub fine : FineDraft d

-- an offset kept for a deeper element changes none of those around
open_path : (p : List ℕ) (i v at : ℕ) (fs : List Opened) → length fs ≤ i → open_bytes (of_path p) at fs ≡ open_bytes (of_path (set p i v)) at fs
open_path p i v at [] h = refl
open_path p i v at (x ∷ fs) h =
    let ne : length fs ≢ i = omega arith in
    let k : List ℕ = encode_in (at + open_size fs + 7) x.children [] in
    ap (λ z. z ++ (2 ∷ two x.tag (four (get_or p (length fs) 0) k))) (open_path p i v at fs (omega arith))
    ∙ ap (λ z. open_bytes (of_path (set p i v)) at fs ++ (2 ∷ two x.tag (four z k))) (sym (get_or-set_other p i (length fs) v 0 ne))

-- one command more
taken_on : (bs : List ℕ) (s : Reading) (d : Draft) (l new : List ℕ) (w : ℕ) → ReadTo bs s d → drop s.at bs ≡ l → take w l ≡ new
    → take (s.at + w) bs ≡ draft_bytes (of_path s.path) d ++ new
taken_on bs s d l new w i e q =
    take-add s.at w bs ∙ ap (λ x. x ++ take w (drop s.at bs)) i.bytes ∙ ap (λ x. draft_bytes (of_path s.path) d ++ take w x) e
    ∙ ap (λ x. draft_bytes (of_path s.path) d ++ x) q

never : {A : Type 0} (b : Bool) → b ≡ true → b ≡ false → A
never b h k = absurd (both_ways b k h)

no_depth : (s : Reading) → s.depth ≡ 0 → ltb 0 s.depth ≡ false
no_depth s e = ap (ltb 0) e

depth_one : (s : Reading) (m : ℕ) → s.depth ≡ m + 1 → ltb 0 s.depth ≡ true
depth_one s m e = lt-ltb 0 s.depth (omega arith)

abbrev Goes : List ℕ → Reading → Command → Type 0
Goes bs s k = (q : Draft) × ReadTo bs (on_to s k) q

go_begin : (bs : List ℕ) (s : Reading) (p : Draft) (d : ℕ) (r : List ℕ) → ReadTo bs s p → drop s.at bs ≡ 1 ∷ four d r
    → judge (length bs) s (Begin d) ≡ None → Goes bs s (Begin d)
go_begin bs s p d r i e j =
    let a = passed (Reading.outside s.stage) Misplaced (test (leb d max_document) DocumentOrder (test (leb s.least d) DocumentOrder None)) j in
    by p i a.0 a.1
  where
    by : (p : Draft) → ReadTo bs s p → Reading.outside s.stage ≡ true
        → test (leb d max_document) DocumentOrder (test (leb s.least d) DocumentOrder None) ≡ None → Goes bs s (Begin d)
    by (between ds) i o j =
        let b = passed (leb d max_document) DocumentOrder (test (leb s.least d) DocumentOrder None) j in
        let c = passed (leb s.least d) DocumentOrder None b.1 in
        let h = i.stands in
        let hi : d ≤ max_document = leb-true d max_document b.0 in
        let lo : s.least ≤ d = leb-true s.least d c.0 in
        let ls : s.least ≡ least_of 0 ds = h.2 in (
          begun ds d,
          record {
            bytes = taken_on bs s (between ds) (1 ∷ four d r) (1 ∷ four d []) 5 i e refl;
            place = ap (λ k. k + 5) i.place;
            stands = (refl, h.1, refl);
            room = i.room;
            fine = (i.fine, omega arith, hi);
          },
        )
    by (begun ds n) i o j = never (Reading.outside s.stage) o (ap Reading.outside i.stands.0)
    by (within ds n fs x) i o j = never (Reading.outside s.stage) o (ap Reading.outside i.stands.0)
    by (rooted ds n t f) i o j = never (Reading.outside s.stage) o (ap Reading.outside i.stands.0)

-- the tests of an OPEN inside an element, and of a root
abbrev deep_tests : ℕ → Reading → ℕ → Option Refusal
deep_tests n s c =
    test (ltb s.depth max_level) TooDeep
    (test (ltb s.at (innermost s)) OutsideElement
    (test (leb (s.at + 7) c) OutsideElement
    (test (ltb c (innermost s)) OutsideElement None)))

abbrev root_tests : ℕ → Reading → ℕ → Option Refusal
root_tests n s c =
    test (Reading.begun s.stage) Misplaced
    (test (leb (s.at + 7) c) OutsideElement
    (test (ltb c n) OutsideElement None))

root_only : {A : Type 0} (n : ℕ) (s : Reading) (t c : ℕ) → s.depth ≡ 0 → Reading.begun s.stage ≡ false → judge n s (Open t c) ≡ None → A
root_only n s t c d k j =
    let r : root_tests n s c ≡ None = sym (ap (λ b. cond b (deep_tests n s c) (root_tests n s c)) (no_depth s d)) ∙ j in
    never (Reading.begun s.stage) (passed (Reading.begun s.stage) Misplaced (test (leb (s.at + 7) c) OutsideElement (test (ltb c n) OutsideElement None)) r).0 k

go_open : (bs : List ℕ) (s : Reading) (p : Draft) (t c : ℕ) (r : List ℕ) → ReadTo bs s p → drop s.at bs ≡ 2 ∷ two t (four c r) → t < 65536
    → judge (length bs) s (Open t c) ≡ None → Goes bs s (Open t c)
go_open bs s (between ds) t c r i e ht j = root_only (length bs) s t c i.stands.1 (ap Reading.begun i.stands.0) j
go_open bs s (begun ds n) t c r i e ht j =
    let h = i.stands in
    let hd : s.depth ≡ 0 = h.1 in
    let rm : length s.path ≡ max_level = i.room in
    let pl = i.place in
    let lt : 0 < length s.path = omega arith in
    let kept : get_or (set s.path s.depth c) 0 0 ≡ c = ap (λ k. get_or (set s.path k c) 0 0) hd ∙ get_or-set_same s.path 0 c 0 lt in (
      within ds n [] (opened t none),
      record {
        bytes = taken_on bs s (begun ds n) (2 ∷ two t (four c r)) (2 ∷ two t (four c [])) 7 i e refl
            ∙ ap (λ k. headed ds n ++ (2 ∷ two t (four k []))) (sym kept);
        place = omega arith;
        stands = (refl, ap (λ k. k + 1) hd, h.2);
        room = length-set s.path s.depth c ∙ rm;
        fine = (i.fine, (ht, omega arith, tt, tt));
      },
    )
go_open bs s (within ds n fs x) t c r i e ht j =
    let h = i.stands in
    let hd : s.depth ≡ length fs + 1 = h.1 in
    let dp : deep_tests (length bs) s c ≡ None =
    sym (ap (λ b. cond b (deep_tests (length bs) s c) (root_tests (length bs) s c)) (depth_one s (length fs) hd)) ∙ j in
    let a = passed (ltb s.depth max_level) TooDeep _ dp in
    let l : s.depth < max_level = ltb-true s.depth max_level a.0 in
    let rm : length s.path ≡ max_level = i.room in
    let pl = i.place in
    let lt : s.depth < length s.path = omega arith in
    let dq : length (x ∷ fs) ≡ s.depth = omega arith in
    let le : length (x ∷ fs) ≤ s.depth = omega arith in
    let at : ℕ = size_of ds + 5 in
    let p : List ℕ = set s.path s.depth c in
    let kept : get_or p (length (x ∷ fs)) 0 ≡ c = ap (λ k. get_or p k 0) dq ∙ get_or-set_same s.path s.depth c 0 lt in (
      within ds n (x ∷ fs) (opened t none),
      record {
        bytes = taken_on bs s (within ds n fs x) (2 ∷ two t (four c r)) (2 ∷ two t (four c [])) 7 i e refl
            ∙ ap (λ z. (headed ds n ++ z) ++ (2 ∷ two t (four c []))) (open_path s.path s.depth c at (x ∷ fs) le)
            ∙ ap (λ z. draft_bytes (of_path p) (within ds n fs x) ++ (2 ∷ two t (four z []))) (sym kept)
            ∙ put_open (of_path p) ds n t fs x;
        place = omega arith;
        stands = (refl, omega arith, h.2);
        room = length-set s.path s.depth c ∙ rm;
        fine = (i.fine.0, (ht, omega arith, tt, i.fine.1));
      },
    )
go_open bs s (rooted ds n u f) t c r i e ht j = root_only (length bs) s t c i.stands.1 (ap Reading.begun i.stands.0) j

depth_needed : {A : Type 0} (s : Reading) (x : Option Refusal) → s.depth ≡ 0 → test (ltb 0 s.depth) Misplaced x ≡ None → A
depth_needed s x d j = never (ltb 0 s.depth) (passed (ltb 0 s.depth) Misplaced x j).0 (no_depth s d)

go_value : (bs : List ℕ) (s : Reading) (p : Draft) (t v : ℕ) (r : List ℕ) → ReadTo bs s p → drop s.at bs ≡ 4 ∷ two t (four v r)
    → t < 65536 → v < 4294967296 → judge (length bs) s (Value t v) ≡ None → Goes bs s (Value t v)
go_value bs s (between ds) t v r i e ht hv j = depth_needed s _ i.stands.1 j
go_value bs s (begun ds n) t v r i e ht hv j = depth_needed s _ i.stands.1 j
go_value bs s (within ds n fs x) t v r i e ht hv j =
    let h = i.stands in
    let hd : s.depth ≡ length fs + 1 = h.1 in
    let a = passed (ltb 0 s.depth) Misplaced _ j in
    let b = passed (ltb s.depth max_level) TooDeep _ a.1 in
    let l : s.depth < max_level = ltb-true s.depth max_level b.0 in
    let l₂ : length fs + 2 ≤ max_level = omega arith in
    let g : Children = value t v none in
    let sz = size-append x.children g in
    let pl = i.place in
    let f = i.fine.1 in (
      within ds n fs (grown x g),
      record {
        bytes = taken_on bs s (within ds n fs x) (4 ∷ two t (four v r)) (4 ∷ two t (four v [])) 7 i e refl ∙ put-value (of_path s.path) ds n t v fs x;
        place = omega arith;
        stands = (h.0, h.1, h.2);
        room = i.room;
        fine = (i.fine.0, (f.0, f.1, fine_append (length fs + 2) x.children g f.2 (l₂, ht, hv, tt), f.3));
      },
    )
go_value bs s (rooted ds n u f) t v r i e ht hv j = depth_needed s _ i.stands.1 j

closed_stands : (ds : Forest) (n : ℕ) (fs : List Opened) (x : Opened) (s : Reading) → Stands s (within ds n fs x) → Stands (on_to s Close) (closed ds n fs x)
closed_stands ds n [] x s h = (h.0, omega (arith, h.1), h.2)
closed_stands ds n (y ∷ fs) x s h = (h.0, omega (arith, h.1), h.2)

go_close : (bs : List ℕ) (s : Reading) (p : Draft) (r : List ℕ) → ReadTo bs s p → drop s.at bs ≡ 3 ∷ r → judge (length bs) s Close ≡ None → Goes bs s Close
go_close bs s (between ds) r i e j = depth_needed s _ i.stands.1 j
go_close bs s (begun ds n) r i e j = depth_needed s _ i.stands.1 j
go_close bs s (within ds n fs x) r i e j =
    let h = i.stands in
    let held : Operand = of_path s.path in
    let hd : s.depth ≡ length fs + 1 = h.1 in
    let a = passed (ltb 0 s.depth) Misplaced _ j in
    let b = passed (eqb s.at (innermost s)) CloseElsewhere None a.1 in
    let tp : s.at ≡ innermost s = eqb-true s.at (innermost s) b.0 in
    let dm : s.depth - 1 ≡ length fs = omega arith in
    let ts : innermost s ≡ get_or s.path (length fs) 0 = ap (λ k. get_or s.path k 0) dm in
    let sh : get_or s.path (length fs) 0 ≡ size_of ds + 5 + open_size (x ∷ fs) = sym (tp ∙ ts) ∙ i.place in
    let pl = i.place in
    let ss = closed-size ds n fs x in (
      closed ds n fs x,
      record {
        bytes = taken_on bs s (within ds n fs x) (3 ∷ r) (3 ∷ []) 1 i e refl
            ∙ ap (λ z. z ++ (3 ∷ [])) (Drafts.innermost held ds n fs x)
            ∙ ap (λ o. (front held ds n fs ++ inner held ds fs x o) ++ (3 ∷ [])) sh
            ∙ put_close held ds n fs x;
        place = omega arith;
        stands = closed_stands ds n fs x s h;
        room = i.room;
        fine = fine_closed ds n fs x i.fine;
      },
    )
go_close bs s (rooted ds n t f) r i e j = depth_needed s _ i.stands.1 j

root_needed : {A : Type 0} (s : Reading) → Reading.rooted s.stage ≡ false → test (Reading.rooted s.stage) Misplaced (test (eqb s.depth 0) Misplaced None) ≡ None → A
root_needed s k j = never (Reading.rooted s.stage) (passed (Reading.rooted s.stage) Misplaced _ j).0 k

go_end : (bs : List ℕ) (s : Reading) (p : Draft) (r : List ℕ) → ReadTo bs s p → drop s.at bs ≡ 5 ∷ r → judge (length bs) s End ≡ None → Goes bs s End
go_end bs s (between ds) r i e j = root_needed s (ap Reading.rooted i.stands.0) j
go_end bs s (begun ds n) r i e j = root_needed s (ap Reading.rooted i.stands.0) j
go_end bs s (within ds n fs x) r i e j =
    let a = passed (Reading.rooted s.stage) Misplaced (test (eqb s.depth 0) Misplaced None) j in
    let b = passed (eqb s.depth 0) Misplaced None a.1 in
    let z : s.depth ≡ 0 = eqb-true s.depth 0 b.0 in
    let hd : s.depth ≡ length fs + 1 = i.stands.1 in
    absurd (omega arith)
go_end bs s (rooted ds n t f) r i e j =
    let x : Document = document n t f in
    let h = i.stands in
    let sz = size_snoc ds x in
    let pl = i.place in (
      between (ds ++ (x ∷ [])),
      record {
        bytes = taken_on bs s (rooted ds n t f) (5 ∷ r) (5 ∷ []) 1 i e refl ∙ put_end ds n t f;
        place = omega arith;
        stands = (refl, h.1, h.2 ∙ sym (least_snoc 0 ds x));
        room = i.room;
        fine = fine_snoc 0 ds x i.fine.0.0 i.fine.0.1 i.fine.0.2 i.fine.1 i.fine.2;
      },
    )

go : (bs : List ℕ) (s : Reading) (p : Draft) (k : Command) → ReadTo bs s p → CommandAt (drop s.at bs) k → judge (length bs) s k ≡ None → Goes bs s k
go bs s p (Begin d) i c j = go_begin bs s p d c.rest i c.bytes j
go bs s p (Open t n) i c j = go_open bs s p t n c.rest i c.bytes c.within.0 j
go bs s p Close i c j = go_close bs s p c.rest i c.bytes j
go bs s p (Value t v) i c j = go_value bs s p t v c.rest i c.bytes c.within.0 c.within.1 j
go bs s p End i c j = go_end bs s p c.rest i c.bytes j

farther : (s : Reading) (k : Command) → s.at < (on_to s k).at
farther s (Begin d) = omega arith
farther s (Open t c) = omega arith
farther s Close = omega arith
farther s (Value t v) = omega arith
farther s End = omega arith

abbrev pub Encodes : List ℕ → Type 0
Encodes bs = (f : Forest) × (FineFrom 0 f × (bs ≡ encode f))

at_end_lem : (bs : List ℕ) (s : Reading) (p : Draft) → ReadTo bs s p → length bs ≤ s.at → (end_at s.stage (length bs)).stop ≡ None → Encodes bs
at_end_lem bs s (between ds) i l h = (ds, (i.fine, sym (take_all s.at bs l) ∙ i.bytes))
at_end_lem bs s (begun ds n) i l h = absurd (some_not (sym (ap (λ g. (end_at g (length bs)).stop) i.stands.0) ∙ h))
at_end_lem bs s (within ds n fs x) i l h = absurd (some_not (sym (ap (λ g. (end_at g (length bs)).stop) i.stands.0) ∙ h))
at_end_lem bs s (rooted ds n t f) i l h = absurd (some_not (sym (ap (λ g. (end_at g (length bs)).stop) i.stands.0) ∙ h))

-- to the end, by no more commands than bytes are left
all_read : (fuel : ℕ) (bs : List ℕ) (s : Reading) (p : Draft) → length bs - s.at ≤ fuel → ((i : ℕ) → get_or bs i 0 < 256) → ReadTo bs s p
    → (reads bs s).stop ≡ None → Encodes bs
all_read zero bs s p f b i h =
    let l : length bs ≤ s.at = omega arith in
    at_end_lem bs s p i l (sym (ap (λ (r : Whole). r.stop) (reads_end bs s l)) ∙ h)
all_read (suc fuel) bs s p f b i h =
    elim (cases_lt s.at (length bs)) [
      | inl l ↦
          let o = by_result (length bs) s (command_in (drop s.at bs)) (reads bs) (sym (ap (λ (r : Whole). r.stop) (reads-step bs s l)) ∙ h) in
          let sm : (n : ℕ) → get_or (drop s.at bs) n 0 < 256 =
          λ n. subst (λ (z : ℕ). z < 256) (sym (get_or-drop s.at bs n 0)) (b (s.at + n)) in
          let c = command_of (drop s.at bs) o.0 sm o.1 in
          let g = go bs s p o.0 i c o.2 in
          let fa = farther s o.0 in
          all_read fuel bs (on_to s o.0) g.0 (omega arith) b g.1 o.3
      | inr l ↦ at_end_lem bs s p i l (sym (ap (λ (r : Whole). r.stop) (reads_end bs s l)) ∙ h)
    ]

-- a tape that reads to the end is the encoding of a forest
pub encodes : (bs : List ℕ) → ((i : ℕ) → get_or bs i 0 < 256) → (reads bs start).stop ≡ None → Encodes bs
encodes bs b h =
    all_read (length bs) bs start (between []) (omega arith) b
    (record { bytes = refl; place = refl; stands = (refl, refl, refl); room = refl; fine = tt }) h
