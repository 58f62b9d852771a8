use Rattle.std.proofs.Common.{◌≡◌, ℕ, ◌+◌, ◌-◌, ◌<◌, ◌≤◌, Bool, true, false, cond, ◌&&◌, eqb, ltb, leb, List, [], ◌∷◌, ◌++◌, length, get_or, Some, None, Ok, Err, Option, sym, refl, ap, ◌∙◌, subst, arith, length-append}
use Rattle.std.proofs.lemmas.Bool.{leb-true, ltb-true, ne_eqb, lt-ltb, and_parts}
use Rattle.nodes.specs.Limits.{max_bytes, max_document, max_level}
use Rattle.nodes.specs.Bytes.{two, four, four_at}
use Rattle.nodes.specs.declared.refusal.Refusal.{Refusal}
use Rattle.nodes.specs.declared.refusal.Refusal.TheVariants.{Misplaced, DocumentOrder, TooDeep, NoRoom, BrokenOpen}
use Rattle.tapes.specs.Reading.{test}
use Rattle.tapes.specs.Forest.{Children, none, value, Document, Forest, size, encode_in}
use Rattle.tapes.specs.Draft.{Opened, Draft, between, begun, within, rooted, opened, document, grown, closed, size_of, open_size, draft_size, least_of}
use Rattle.tapes.proofs.Walk.{length-encode}
use Rattle.tapes.proofs.Commands.{some_not}
use Rattle.tapes.proofs.Rows.{passed}
use Rattle.tapes.proofs.Drafts.{size-append, size_snoc, least_snoc, fine_append, fine_snoc, fine_closed, closed-size, length_draft, put_open, put-value, put_end, put_close, front, inner, innermost, length_front}
use Rattle.writer.specs.Root.{no_open}
use Rattle.writer.specs.Writer
use Rattle.writer.specs.Writer.{Out, In, written, room, around, held_by, intact, begin_refusal, open_refusal, value_refusal, close_refusal, end_refusal, begin_bytes, open_bytes, value_bytes, close_bytes, end_bytes}
use Rattle.writer.specs.Views.{out, ins, Refuses, Begins, Opens, Values, Closes, Ends}
use Rattle.writer.specs.Calls.{Answer, judge, put, answer_at, unless_refused, around_at, bytes_of_draft, over}
use Rattle.writer.specs.Turns.{State, free, busy, out_numbers, in_numbers, Stands, Holds, Made}
use Rattle.writer.specs.declared.call.WriterCall.{WriterCall}
use Rattle.writer.specs.declared.call.WriterCall.TheVariants.{Begin, Open, Value, Close, End}
use Rattle.writer.specs.declared.fault.WriteFault.{WriteFault}
use Rattle.writer.specs.declared.state.GivenBack.{GivenBack}
use Rattle.writer.specs.declared.state.WriterOutside.{WriterOutside}
use Rattle.writer.specs.declared.state.WriterInside.{WriterInside}
use Rattle.writer.proofs.Over.{length_over, write_over, patch_over, head_over, held-over}

-- room for so many bytes more
pub room_left : (at k : ℕ) (old : List ℕ) → test (room at k old) NoRoom None ≡ None → (at + k ≤ length old) × (at + k ≤ max_bytes)
room_left at k old e =
    let p = passed (room at k old) NoRoom None e in
    let a = and_parts (leb (at + k) (length old)) (leb (at + k) max_bytes) p.0 in
    (leb-true (at + k) (length old) a.0, leb-true (at + k) max_bytes a.1)

room_same : (at k : ℕ) (bs old : List ℕ) → length bs ≡ length old → room at k bs ≡ room at k old
room_same at k bs old e = ap (λ n. leb (at + k) n && leb (at + k) max_bytes) e

-- the caller's bytes keep their length
pub length-held : (old bs : List ℕ) (s : State) (d : Draft) → Holds old bs s d → length bs ≡ length old
length-held old bs s d i =
    let l = length_draft around_at d in
    let f = i.fits in
    ap length i.bytes ∙ length_over (bytes_of_draft d) old (omega arith)

-- an accepted call, and a refused one
accepted : (old bs : List ℕ) (s : State) (d : Draft) (c : WriterCall) → judge old d c ≡ None → Holds old bs s (put old d c) → Made old bs s d c (Ok tt)
accepted old bs s d c e i = record {
  answers = sym (ap (answer_at (draft_size d)) e);
  holds = subst (λ (x : Draft). Holds old bs s x) (sym (ap (λ j. unless_refused j (put old d c) d) e)) i;
}

refused : (old bs bs' : List ℕ) (s s' : State) (d : Draft) (c : WriterCall) (first : Option Refusal) (n : ℕ) (e : WriteFault)
    → Holds old bs s d → Refuses first n bs bs' e → first ≡ judge old d c → n ≡ draft_size d → s' ≡ s → Made old bs' s' d c (Err e)
refused old bs bs' s s' d c first n e i r p q h =
    let j : judge old d c ≡ Some e.refusal = sym p ∙ r.refusal in
    let i₁ : Holds old bs' s d = subst (λ (x : List ℕ). Holds old x s d) (sym r.bytes) i in
    let i₂ : Holds old bs' s' d = subst (λ (x : State). Holds old bs' x d) (sym h) i₁ in
    record {
      answers = ap (λ k. Err (record { refusal = e.refusal; place = k })) (r.place ∙ q) ∙ sym (ap (answer_at (draft_size d)) j);
      holds = subst (λ (x : Draft). Holds old bs' s' x) (sym (ap (λ z. unless_refused z (put old d c) d) j)) i₂;
    }

-- a write at the end of what is written
wrote : (old bs bs' new : List ℕ) (s : State) (d d' : Draft) (n : ℕ) → Holds old bs s d → n ≡ draft_size d
    → bs' ≡ written n new bs → bytes_of_draft d ++ new ≡ bytes_of_draft d' → bs' ≡ over (bytes_of_draft d') old
wrote old bs bs' new s d d' n i e h p =
    h ∙ ap (written n new) i.bytes ∙ write_over (bytes_of_draft d) new old n (e ∙ sym (length_draft around_at d)) ∙ ap (λ x. over x old) p

-- where a writer stands
pub out_place : (old bs : List ℕ) (w : Out) (d : Draft) → Holds old bs (free w) d → w.length ≡ draft_size d
out_place old bs w (between ds) i = ap (λ (x : Out). x.length) i.stands
out_place old bs w (begun ds n) i = absurd i.stands
out_place old bs w (within ds n fs x) i = absurd i.stands
out_place old bs w (rooted ds n t f) i = absurd i.stands

pub in_place : (old bs : List ℕ) (w : In) (d : Draft) → Holds old bs (busy w) d → w.length ≡ draft_size d
in_place old bs w (between ds) i = absurd i.stands
in_place old bs w (begun ds n) i = ap (λ (x : In). x.length) i.stands
in_place old bs w (within ds n fs x) i = ap (λ (x : In). x.length) i.stands
in_place old bs w (rooted ds n t f) i = ap (λ (x : In). x.length) i.stands

-- begin
begin_first : (old bs : List ℕ) (w : Out) (d : Draft) (m : ℕ) → Holds old bs (free w) d → begin_refusal bs w m ≡ judge old d (Begin m)
begin_first old bs w (between ds) m i =
    ap (λ (x : Out). begin_refusal bs x m) i.stands
    ∙ ap (λ b. test (leb m max_document) DocumentOrder (test (leb (least_of 0 ds) m) DocumentOrder (test b NoRoom None)))
    (room_same (size_of ds) 5 bs old (length-held old bs (free w) (between ds) i))
begin_first old bs w (begun ds n) m i = absurd i.stands
begin_first old bs w (within ds n fs x) m i = absurd i.stands
begin_first old bs w (rooted ds n t f) m i = absurd i.stands

begin_put : (old bs bs' : List ℕ) (w : Out) (v : In) (d : Draft) (m : ℕ) → Holds old bs (free w) d → judge old d (Begin m) ≡ None
    → v ≡ Writer.begun w m → bs' ≡ begin_bytes w m bs → Holds old bs' (busy v) (put old d (Begin m))
begin_put old bs bs' w v (between ds) m i j hv hb =
    let l = out_place old bs w (between ds) i in
    let a = passed (leb m max_document) DocumentOrder _ j in
    let b = passed (leb (least_of 0 ds) m) DocumentOrder _ a.1 in
    let r = room_left (size_of ds) 5 old b.1 in
    record {
      bytes = wrote old bs bs' (1 ∷ four m []) (free w) (between ds) (begun ds m) w.length i l hb refl;
      stands = hv ∙ ap (λ n. in_numbers (n + 5) (m + 1) false 0 0) l;
      fits = r.0;
      short = r.1;
      fine = (i.fine, leb-true (least_of 0 ds) m b.0, leb-true m max_document a.0);
    }
begin_put old bs bs' w v (begun ds n) m i j hv hb = absurd i.stands
begin_put old bs bs' w v (within ds n fs x) m i j hv hb = absurd i.stands
begin_put old bs bs' w v (rooted ds n t f) m i j hv hb = absurd i.stands

pub begin_ok : (old bs bs' : List ℕ) (w : Out) (d : Draft) (m : ℕ) (v : WriterInside)
    → Holds old bs (free w) d → Begins bs bs' w m (Ok v) → Made old bs' (busy (ins v)) d (Begin m) (Ok tt)
begin_ok old bs bs' w d m v i b =
    let j : judge old d (Begin m) ≡ None = sym (begin_first old bs w d m i) ∙ b.none in
    accepted old bs' (busy (ins v)) d (Begin m) j (begin_put old bs bs' w (ins v) d m i j b.writer b.bytes)

pub begin_err : (old bs bs' : List ℕ) (w : Out) (d : Draft) (m : ℕ) (e : GivenBack WriterOutside)
    → Holds old bs (free w) d → Begins bs bs' w m (Err e) → Made old bs' (free (out e.writer)) d (Begin m) (Err e.fault)
begin_err old bs bs' w d m e i b =
    refused old bs bs' (free w) (free (out e.writer)) d (Begin m) (begin_refusal bs w m) w.length e.fault i b.0
    (begin_first old bs w d m i) (out_place old bs w d i) (ap free b.1)

-- open
open_first : (old bs : List ℕ) (w : In) (d : Draft) (t : ℕ) → Holds old bs (busy w) d → open_refusal bs w ≡ judge old d (Open t)
open_first old bs w (between ds) t i = absurd i.stands
open_first old bs w (begun ds n) t i =
    ap (open_refusal bs) i.stands
    ∙ ap (λ b. test b NoRoom None) (room_same (size_of ds + 5) 7 bs old (length-held old bs (busy w) (begun ds n) i))
open_first old bs w (within ds n fs x) t i =
    let at : ℕ = size_of ds + 5 + open_size (x ∷ fs) in
    let r : Option Refusal = test (room at 7 bs) NoRoom None in
    ap (open_refusal bs) i.stands
    ∙ ap (λ b. cond b (cond true (Some Misplaced) r) (test (ltb (length fs + 1) max_level) TooDeep r)) (ne_eqb (length fs + 1) 0 (λ e. omega arith))
    ∙ ap (λ b. test (ltb (length fs + 1) max_level) TooDeep (test b NoRoom None)) (room_same at 7 bs old (length-held old bs (busy w) (within ds n fs x) i))
open_first old bs w (rooted ds n u f) t i = ap (open_refusal bs) i.stands

open_put : (old bs bs' : List ℕ) (w v : In) (d : Draft) (t : ℕ) → t < 65536 → Holds old bs (busy w) d → judge old d (Open t) ≡ None
    → v ≡ Writer.opened w → bs' ≡ open_bytes w t bs → Holds old bs' (busy v) (put old d (Open t))
open_put old bs bs' w v (between ds) t sm i j hv hb = absurd i.stands
open_put old bs bs' w v (begun ds n) t sm i j hv hb =
    let r = room_left (size_of ds + 5) 7 old j in
    let l = in_place old bs w (begun ds n) i in
    let e : size_of ds + 5 + 7 ≡ size_of ds + 5 + (0 + 7 + 0) = omega arith in
    let e₀ : size_of ds + 5 ≡ size_of ds + 5 + 0 = omega arith in
    record {
      bytes = wrote old bs bs' (2 ∷ two t (four no_open [])) (busy w) (begun ds n) (within ds n [] (opened t none)) w.length i l
          (hb ∙ ap (λ (x : In). written w.length (2 ∷ two t (four (around x) [])) bs) i.stands) refl;
      stands = hv ∙ ap Writer.opened i.stands ∙ ap (λ k. in_numbers k (n + 1) true 1 (size_of ds + 5)) e
          ∙ ap (λ k. in_numbers (size_of ds + 5 + open_size (opened t none ∷ [])) (n + 1) true 1 k) e₀;
      fits = omega arith;
      short = omega arith;
      fine = (i.fine, (sm, omega arith, tt, tt));
    }
open_put old bs bs' w v (within ds n fs x) t sm i j hv hb =
    let at : ℕ = size_of ds + 5 in
    let a = passed (ltb (length fs + 1) max_level) TooDeep _ j in
    let lv = ltb-true (length fs + 1) max_level a.0 in
    let r = room_left (at + open_size (x ∷ fs)) 7 old a.1 in
    let l = in_place old bs w (within ds n fs x) i in
    let ar : around w ≡ at + open_size fs =
    ap around i.stands ∙ ap (λ b. cond b no_open (at + open_size fs)) (ne_eqb (length fs + 1) 0 (λ e. omega arith)) in
    let e : at + open_size (x ∷ fs) + 7 ≡ at + open_size (opened t none ∷ x ∷ fs) = omega arith in
    let q : length fs + 1 + 1 ≡ length (x ∷ fs) + 1 = omega arith in
    record {
      bytes = wrote old bs bs' (2 ∷ two t (four (at + open_size fs) [])) (busy w) (within ds n fs x) (within ds n (x ∷ fs) (opened t none)) w.length i l
          (hb ∙ ap (λ k. written w.length (2 ∷ two t (four k [])) bs) ar) (put_open around_at ds n t fs x);
      stands = hv ∙ ap Writer.opened i.stands ∙ ap (λ k. in_numbers k (n + 1) true (length fs + 1 + 1) (at + open_size (x ∷ fs))) e
          ∙ ap (λ k. in_numbers (at + open_size (opened t none ∷ x ∷ fs)) (n + 1) true k (at + open_size (x ∷ fs))) q;
      fits = omega arith;
      short = omega arith;
      fine = (i.fine.0, (sm, omega arith, tt, i.fine.1));
    }
open_put old bs bs' w v (rooted ds n u f) t sm i j hv hb = absurd (some_not j)

pub open_made : (old bs bs' : List ℕ) (w v : In) (d : Draft) (t : ℕ) (r : Answer) → t < 65536
    → Holds old bs (busy w) d → Opens bs bs' w v t r → Made old bs' (busy v) d (Open t) r
open_made old bs bs' w v d t (Ok u) sm i b =
    let j : judge old d (Open t) ≡ None = sym (open_first old bs w d t i) ∙ b.none in
    accepted old bs' (busy v) d (Open t) j (open_put old bs bs' w v d t sm i j b.writer b.bytes)
open_made old bs bs' w v d t (Err e) sm i b =
    refused old bs bs' (busy w) (busy v) d (Open t) (open_refusal bs w) w.length e i b.0 (open_first old bs w d t i) (in_place old bs w d i) (ap busy b.1)

-- value
value-first : (old bs : List ℕ) (w : In) (d : Draft) (t y : ℕ) → Holds old bs (busy w) d → value_refusal bs w ≡ judge old d (Value t y)
value-first old bs w (between ds) t y i = absurd i.stands
value-first old bs w (begun ds n) t y i = ap (value_refusal bs) i.stands
value-first old bs w (within ds n fs x) t y i =
    let at : ℕ = size_of ds + 5 + open_size (x ∷ fs) in
    let r : Option Refusal = test (room at 7 bs) NoRoom None in
    ap (value_refusal bs) i.stands
    ∙ ap (λ b. test b Misplaced (test (ltb (length fs + 1) max_level) TooDeep r)) (lt-ltb 0 (length fs + 1) (omega arith))
    ∙ ap (λ b. test (ltb (length fs + 1) max_level) TooDeep (test b NoRoom None)) (room_same at 7 bs old (length-held old bs (busy w) (within ds n fs x) i))
value-first old bs w (rooted ds n u f) t y i = ap (value_refusal bs) i.stands

value-put : (old bs bs' : List ℕ) (w v : In) (d : Draft) (t y : ℕ) → t < 65536 → y < 4294967296 → Holds old bs (busy w) d → judge old d (Value t y) ≡ None
    → v ≡ Writer.valued w → bs' ≡ value_bytes w t y bs → Holds old bs' (busy v) (put old d (Value t y))
value-put old bs bs' w v (between ds) t y sm sn i j hv hb = absurd i.stands
value-put old bs bs' w v (begun ds n) t y sm sn i j hv hb = absurd (some_not j)
value-put old bs bs' w v (within ds n fs x) t y sm sn i j hv hb =
    let at : ℕ = size_of ds + 5 in
    let a = passed (ltb (length fs + 1) max_level) TooDeep _ j in
    let lv = ltb-true (length fs + 1) max_level a.0 in
    let lv₂ : length fs + 2 ≤ max_level = omega arith in
    let r = room_left (at + open_size (x ∷ fs)) 7 old a.1 in
    let l = in_place old bs w (within ds n fs x) i in
    let g : Children = value t y none in
    let sz = size-append x.children g in
    let e : at + open_size (x ∷ fs) + 7 ≡ at + open_size (grown x g ∷ fs) = omega arith in
    let f = i.fine.1 in
    record {
      bytes = wrote old bs bs' (4 ∷ two t (four y [])) (busy w) (within ds n fs x) (within ds n fs (grown x g)) w.length i l hb (put-value around_at ds n t y fs x);
      stands = hv ∙ ap Writer.valued i.stands ∙ ap (λ k. in_numbers k (n + 1) true (length fs + 1) (at + open_size fs)) e;
      fits = omega arith;
      short = omega arith;
      fine = (i.fine.0, (f.0, f.1, fine_append (length fs + 2) x.children g f.2 (lv₂, sm, sn, tt), f.3));
    }
value-put old bs bs' w v (rooted ds n u f) t y sm sn i j hv hb = absurd (some_not j)

pub value_made : (old bs bs' : List ℕ) (w v : In) (d : Draft) (t y : ℕ) (r : Answer) → t < 65536 → y < 4294967296
    → Holds old bs (busy w) d → Values bs bs' w v t y r → Made old bs' (busy v) d (Value t y) r
value_made old bs bs' w v d t y (Ok u) sm sn i b =
    let j : judge old d (Value t y) ≡ None = sym (value-first old bs w d t y i) ∙ b.none in
    accepted old bs' (busy v) d (Value t y) j (value-put old bs bs' w v d t y sm sn i j b.writer b.bytes)
value_made old bs bs' w v d t y (Err e) sm sn i b =
    refused old bs bs' (busy w) (busy v) d (Value t y) (value_refusal bs w) w.length e i b.0 (value-first old bs w d t y i) (in_place old bs w d i) (ap busy b.1)

-- end
end_first : (old bs : List ℕ) (w : In) (d : Draft) → Holds old bs (busy w) d → end_refusal bs w ≡ judge old d End
end_first old bs w (between ds) i = absurd i.stands
end_first old bs w (begun ds n) i = ap (end_refusal bs) i.stands
end_first old bs w (within ds n fs x) i =
    let r : Option Refusal = test (room (size_of ds + 5 + open_size (x ∷ fs)) 1 bs) NoRoom None in
    ap (end_refusal bs) i.stands ∙ ap (λ b. test b Misplaced r) (ne_eqb (length fs + 1) 0 (λ e. omega arith))
end_first old bs w (rooted ds n u f) i =
    ap (end_refusal bs) i.stands
    ∙ ap (λ b. test b NoRoom None) (room_same (size_of ds + 5 + (8 + size f)) 1 bs old (length-held old bs (busy w) (rooted ds n u f) i))

end_put : (old bs bs' : List ℕ) (w : In) (v : Out) (d : Draft) → Holds old bs (busy w) d → judge old d End ≡ None
    → v ≡ Writer.ended w → bs' ≡ end_bytes w bs → Holds old bs' (free v) (put old d End)
end_put old bs bs' w v (between ds) i j hv hb = absurd i.stands
end_put old bs bs' w v (begun ds n) i j hv hb = absurd (some_not j)
end_put old bs bs' w v (within ds n fs x) i j hv hb = absurd (some_not j)
end_put old bs bs' w v (rooted ds n t f) i j hv hb =
    let x : Document = document n t f in
    let at : ℕ = size_of ds + 5 + (8 + size f) in
    let r = room_left at 1 old j in
    let l = in_place old bs w (rooted ds n t f) i in
    let sz = size_snoc ds x in
    let e : at + 1 ≡ size_of (ds ++ (x ∷ [])) = omega arith in
    record {
      bytes = wrote old bs bs' (5 ∷ []) (busy w) (rooted ds n t f) (between (ds ++ (x ∷ []))) w.length i l hb (put_end ds n t f);
      stands = hv ∙ ap Writer.ended i.stands ∙ ap (λ k. out_numbers k (n + 1)) e ∙ ap (λ k. out_numbers (size_of (ds ++ (x ∷ []))) k) (sym (least_snoc 0 ds x));
      fits = omega arith;
      short = omega arith;
      fine = fine_snoc 0 ds x i.fine.0.0 i.fine.0.1 i.fine.0.2 i.fine.1 i.fine.2;
    }

pub end_ok : (old bs bs' : List ℕ) (w : In) (d : Draft) (v : WriterOutside) → Holds old bs (busy w) d → Ends bs bs' w (Ok v) → Made old bs' (free (out v)) d End (Ok tt)
end_ok old bs bs' w d v i b =
    let j : judge old d End ≡ None = sym (end_first old bs w d i) ∙ b.none in
    accepted old bs' (free (out v)) d End j (end_put old bs bs' w (out v) d i j b.writer b.bytes)

pub end_err : (old bs bs' : List ℕ) (w : In) (d : Draft) (e : GivenBack WriterInside)
    → Holds old bs (busy w) d → Ends bs bs' w (Err e) → Made old bs' (busy (ins e.writer)) d End (Err e.fault)
end_err old bs bs' w d e i b =
    refused old bs bs' (busy w) (busy (ins e.writer)) d End (end_refusal bs w) w.length e.fault i b.0 (end_first old bs w d i) (in_place old bs w d i) (ap busy b.1)

-- close: the innermost OPEN is as it was written
module _ (old bs : List ℕ) (w : In) (ds : Forest) (n : ℕ) (fs : List Opened) (x : Opened) (i : Holds old bs (busy w) (within ds n fs x)) where
  innermost_over : bs ≡ over (front around_at ds n fs ++ inner around_at ds fs x (around_at (size_of ds + 5) fs)) old
  innermost_over = i.bytes ∙ ap (λ p. over p old) (innermost around_at ds n fs x)

  at_open : w.innermost ≡ size_of ds + 5 + open_size fs
  at_open = ap (λ (y : In). y.innermost) i.stands

  around_small : (gs : List Opened) → size_of ds + 5 + open_size gs ≤ max_bytes → around_at (size_of ds + 5) gs < 4294967296
  around_small [] h = omega arith
  around_small (y ∷ gs) h = omega arith

  held : held_by bs w ≡ around_at (size_of ds + 5) fs
  held =
      let at : ℕ = size_of ds + 5 in
      let m = i.short in
      let k : List ℕ = encode_in (at + open_size fs + 7) x.children [] in
      ap (λ b. four_at b (w.innermost + 3)) innermost_over
      ∙ held-over (front around_at ds n fs) k old x.tag (around_at at fs) w.innermost (at_open ∙ sym (length_front around_at ds n fs)) (around_small fs (omega arith))

  open_byte : get_or bs w.innermost 0 ≡ 2
  open_byte =
      let at : ℕ = size_of ds + 5 in
      let k : List ℕ = encode_in (at + open_size fs + 7) x.children [] in
      ap (λ b. get_or b w.innermost 0) innermost_over
      ∙ head_over (front around_at ds n fs) k old x.tag (around_at at fs) w.innermost (at_open ∙ sym (length_front around_at ds n fs))

abbrev intact_by : ℕ → ℕ → ℕ → ℕ → Bool
intact_by b h d i = eqb b 2 && cond (eqb d 1) (eqb h no_open) (ltb h i)

untouched : (at : ℕ) (fs : List Opened) → intact_by 2 (around_at at fs) (length fs + 1) (at + open_size fs) ≡ true
untouched at [] = refl
untouched at (y ∷ fs) =
    let h : ℕ = at + open_size fs in
    let i : ℕ = at + open_size (y ∷ fs) in
    ap (λ b. cond b (eqb h no_open) (ltb h i)) (ne_eqb (length (y ∷ fs) + 1) 1 (λ e. omega arith)) ∙ lt-ltb h i (omega arith)

is_intact : (old bs : List ℕ) (w : In) (ds : Forest) (n : ℕ) (fs : List Opened) (x : Opened) → Holds old bs (busy w) (within ds n fs x) → intact bs w ≡ true
is_intact old bs w ds n fs x i =
    let at : ℕ = size_of ds + 5 in
    ap (λ b. intact_by b (held_by bs w) w.depth w.innermost) (open_byte old bs w ds n fs x i)
    ∙ ap (λ h. intact_by 2 h w.depth w.innermost) (held old bs w ds n fs x i)
    ∙ ap (λ d. intact_by 2 (around_at at fs) d w.innermost) (ap (λ (y : In). y.depth) i.stands)
    ∙ ap (λ k. intact_by 2 (around_at at fs) (length fs + 1) k) (at_open old bs w ds n fs x i)
    ∙ untouched at fs

abbrev close_by : List ℕ → Bool → In → Option Refusal
close_by bs b w = test (ltb 0 w.depth) Misplaced (test (room w.length 1 bs) NoRoom (test b BrokenOpen None))

close_first : (old bs : List ℕ) (w : In) (d : Draft) → Holds old bs (busy w) d → close_refusal bs w ≡ judge old d Close
close_first old bs w (between ds) i = absurd i.stands
close_first old bs w (begun ds n) i = ap (close_by bs (intact bs w)) i.stands
close_first old bs w (within ds n fs x) i =
    let at : ℕ = size_of ds + 5 + open_size (x ∷ fs) in
    let r : Option Refusal = test (room at 1 bs) NoRoom None in
    ap (λ b. close_by bs b w) (is_intact old bs w ds n fs x i)
    ∙ ap (close_by bs true) i.stands
    ∙ ap (λ b. test b Misplaced r) (lt-ltb 0 (length fs + 1) (omega arith))
    ∙ ap (λ b. test b NoRoom None) (room_same at 1 bs old (length-held old bs (busy w) (within ds n fs x) i))
close_first old bs w (rooted ds n t f) i = ap (close_by bs (intact bs w)) i.stands

closed_stands : (ds : Forest) (n : ℕ) (fs : List Opened) (x : Opened)
    → Stands (busy (in_numbers (size_of ds + 5 + open_size (x ∷ fs) + 1) (n + 1) true (length fs + 1 - 1) (around_at (size_of ds + 5) fs))) (closed ds n fs x)
closed_stands ds n [] x = ap (λ k. in_numbers k (n + 1) true 0 no_open) (sym (closed-size ds n [] x))
closed_stands ds n (y ∷ fs) x =
    let at : ℕ = size_of ds + 5 in
    let e : length (y ∷ fs) + 1 - 1 ≡ length fs + 1 = omega arith in
    ap (λ k. in_numbers k (n + 1) true (length (y ∷ fs) + 1 - 1) (at + open_size fs)) (sym (closed-size ds n (y ∷ fs) x))
    ∙ ap (λ k. in_numbers (draft_size (closed ds n (y ∷ fs) x)) (n + 1) true k (at + open_size fs)) e

close_put : (old bs bs' : List ℕ) (w v : In) (d : Draft) → Holds old bs (busy w) d → judge old d Close ≡ None
    → v ≡ Writer.closed bs w → bs' ≡ close_bytes w bs → Holds old bs' (busy v) (put old d Close)
close_put old bs bs' w v (between ds) i j hv hb = absurd i.stands
close_put old bs bs' w v (begun ds n) i j hv hb = absurd (some_not j)
close_put old bs bs' w v (within ds n fs x) i j hv hb =
    let at : ℕ = size_of ds + 5 in
    let o : ℕ = at + open_size (x ∷ fs) in
    let k : List ℕ = encode_in (at + open_size fs + 7) x.children [] in
    let q : List ℕ = front around_at ds n fs in
    let p' : List ℕ = q ++ inner around_at ds fs x o in
    let r = room_left o 1 old j in
    let wl : w.length ≡ o = ap (λ (y : In). y.length) i.stands in
    let wi = at_open old bs w ds n fs x i in
    let lp : length p' ≡ o =
    let a = length-append q (inner around_at ds fs x o) in let b = length_front around_at ds n fs in
    let c = length-encode (at + open_size fs + 7) x.children [] in omega arith in
    let cs = closed-size ds n fs x in
    let e : in_numbers (w.length + 1) w.least w.rooted (w.depth - 1) (held_by bs w) ≡ in_numbers (o + 1) (n + 1) true (length fs + 1 - 1) (around_at at fs) =
    ap (λ h. in_numbers (w.length + 1) w.least w.rooted (w.depth - 1) h) (held old bs w ds n fs x i)
    ∙ ap (λ (y : In). in_numbers (y.length + 1) y.least y.rooted (y.depth - 1) (around_at at fs)) i.stands in
    record {
      bytes = hb
          ∙ ap (λ b. written w.length (3 ∷ []) (written (w.innermost + 3) (four w.length []) b)) (innermost_over old bs w ds n fs x i)
          ∙ ap (λ z. written z (3 ∷ []) (written (w.innermost + 3) (four z []) (over (q ++ inner around_at ds fs x (around_at at fs)) old))) wl
          ∙ ap (written o (3 ∷ [])) (patch_over q k old x.tag (around_at at fs) o w.innermost (wi ∙ sym (length_front around_at ds n fs)))
          ∙ write_over p' (3 ∷ []) old o (sym lp)
          ∙ ap (λ z. over z old) (put_close around_at ds n fs x);
      stands = subst (λ (y : In). Stands (busy y) (closed ds n fs x)) (sym (hv ∙ e)) (closed_stands ds n fs x);
      fits = omega (arith, r.0);
      short = omega (arith, r.1);
      fine = fine_closed ds n fs x i.fine;
    }
close_put old bs bs' w v (rooted ds n t f) i j hv hb = absurd (some_not j)

pub close_made : (old bs bs' : List ℕ) (w v : In) (d : Draft) (r : Answer)
    → Holds old bs (busy w) d → Closes bs bs' w v r → Made old bs' (busy v) d Close r
close_made old bs bs' w v d (Ok u) i b =
    let j : judge old d Close ≡ None = sym (close_first old bs w d i) ∙ b.none in
    accepted old bs' (busy v) d Close j (close_put old bs bs' w v d i j b.writer b.bytes)
close_made old bs bs' w v d (Err e) i b =
    refused old bs bs' (busy w) (busy v) d Close (close_refusal bs w) w.length e i b.0 (close_first old bs w d i) (in_place old bs w d i) (ap busy b.1)
