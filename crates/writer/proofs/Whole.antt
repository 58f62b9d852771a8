use Rattle.std.proofs.Common.{◌≡◌, ℕ, suc, ◌+◌, ◌<◌, min, List, [], ◌∷◌, ◌++◌, length, get_or, take, drop, set, Some, Ok, Option, sym, refl, ap, ◌∙◌, subst, inl, inr, append_assoc, append-nil, add-one, arith, length-append, length-take-le, take_all, drop-cons, take-suc}
use lib.Seq.{set_at}
use Rattle.std.proofs.lemmas.List.{take_at, drop_all}
use Rattle.std.proofs.lemmas.Slice.{drop-append-drop}
use Rattle.std.proofs.lemmas.Bool.{cases_lt}
use Rattle.tapes.specs.Forest.{Forest, encode}
use Rattle.tapes.specs.Draft.{Draft, between, begun, within, rooted}
use Rattle.tapes.proofs.Checks.{tape_of}
use Rattle.tapes.proofs.Commands.{some_not}
use Rattle.tapes.proofs.Drafts.{length_docs}
use Rattle.writer.specs.Writer.{Out}
use Rattle.writer.specs.Calls.{Answer, bytes_of_draft, draft_calls, put_in, answers, after, accepted, over, finished_length}
use Rattle.writer.specs.Turns.{State, free, busy, Stands, Holds, Made, length_of, Far}
use Rattle.writer.specs.Writes.{Unbroken, PutsIn, Writes, WritesAll}
use Rattle.writer.specs.declared.call.WriterCall.{WriterCall}
use Rattle.writer.proofs.PutIn.{put_snoc, answers_snoc, length_answers, accepted_calls, finished_stand, answers_still, forest_in}

-- a writer outside has put a forest in
pub puts_in : (cs : List WriterCall) (old new : List ℕ) (s : State) (d : Draft) (got : List Answer) (n : ℕ)
    → Holds old new s d → accepted cs got ≡ draft_calls d → finished_length d ≡ Some n → (f : Forest) × PutsIn cs got (take n new) f
puts_in cs old new s (between f) got n h e p =
    let q : length (encode f) ≡ n = cc in
    let l = length_docs 0 f in
    let sm = h.short in
    let b : take n new ≡ encode f = ap (take n) h.bytes ∙ take_at (encode f) (drop (length (encode f)) old) n q in
    (f, record { calls = e; tape = tape_of (take n new) f (record { documents = h.fine; short = omega arith }) b })
puts_in cs old new s (begun f m) got n h e p = absurd (some_not (sym p))
puts_in cs old new s (within f m fs x) got n h e p = absurd (some_not (sym p))
puts_in cs old new s (rooted f m t c) got n h e p = absurd (some_not (sym p))

pub ends_at : (s : State) (d : Draft) → Stands s d → length_of s ≡ finished_length d
ends_at (free w) (between f) e = ap (λ (x : Out). Some x.length) e ∙ ap Some (sym (length_docs 0 f))
ends_at (free w) (begun f n) e = absurd e
ends_at (free w) (within f n fs x) e = absurd e
ends_at (free w) (rooted f n t c) e = absurd e
ends_at (busy w) (between f) e = absurd e
ends_at (busy w) (begun f n) e = refl
ends_at (busy w) (within f n fs x) e = refl
ends_at (busy w) (rooted f n t c) e = refl

-- one answer more over those before
set-over : (j b : List Answer) (a : Answer) (i : ℕ) → length j ≡ i → i < length b → set (over j b) i a ≡ over (j ++ (a ∷ [])) b
set-over j b a i e h =
    let lt : length j < length b = omega arith in
    let l : suc (length j) ≡ length (j ++ (a ∷ [])) = sym (add-one (length j)) ∙ sym (length-append j (a ∷ [])) in
    ap (λ r. set (j ++ r) i a) (drop-cons b (length j) (Ok tt) lt)
    ∙ set_at j (get_or b (length j) (Ok tt)) (drop (suc (length j)) b) a i e
    ∙ ap (λ k. j ++ (a ∷ drop k b)) l
    ∙ sym (append_assoc j (a ∷ []) (drop (length (j ++ (a ∷ []))) b))

-- one call more
pub farther : (old new new' : List ℕ) (s s' : State) (calls : List WriterCall) (z : WriterCall) (i : ℕ) (before got : List Answer) (a : Answer)
    → Far (take i calls) old new s before got → i < length calls → i < length before
    → ((o : List ℕ) (d : Draft) → Holds o new s d → Made o new' s' d (get_or calls i z) a)
    → Far (take (i + 1) calls) old new' s' before (set got i a)
farther old new new' s s' calls z i before got a f h k m =
    let cs : List WriterCall = take i calls in
    let c : WriterCall = get_or calls i z in
    let n : length cs ≡ i = length-take-le i calls (omega arith) in
    let t : cs ++ (c ∷ []) ≡ take (i + 1) calls = sym (take-suc calls i z h) ∙ ap (λ j. take j calls) (sym (add-one i)) in
    let d = m old (put_in old cs) f.holds in
    subst (λ (x : List WriterCall). Far x old new' s' before (set got i a)) t
    (record {
      holds = subst (λ (x : Draft). Holds old new' s' x) (sym (put_snoc old (between []) cs c)) d.holds;
      answers = ap (λ l. set l i a) f.answers
          ∙ set-over (answers old cs) before a i (length_answers old (between []) cs ∙ n) k
          ∙ ap (λ x. over (answers old cs ++ (x ∷ [])) before) d.answers
          ∙ ap (λ j. over j before) (sym (answers_snoc old (between []) cs c));
    })

-- as many calls as there are answers for
pub as_many : (calls : List WriterCall) (n i : ℕ) → i ≡ min (length calls) n → take i calls ≡ take n calls
as_many calls n i e =
    elim (cases_lt n (length calls)) [
      | inl h ↦ let p : i ≡ n = omega arith in ap (λ j. take j calls) p
      | inr h ↦ take_all i calls (omega arith) ∙ sym (take_all n calls h)
    ]

-- what calls wrote, by what they put in
pub writes : (cs : List WriterCall) (old new : List ℕ) (s : State) (got : List Answer) (r : Option ℕ)
    → Holds old new s (put_in old cs) → got ≡ answers old cs → r ≡ length_of s → Writes cs old new got r
writes cs old new s got r h e p =
    let d : Draft = put_in old cs in
    let q : r ≡ finished_length d = p ∙ ends_at s d h.stands in
    let a : accepted cs got ≡ draft_calls d = ap (accepted cs) e ∙ sym (accepted_calls old (between []) cs) in
    record {
      bytes = h.bytes;
      answers = e;
      puts = a;
      unbroken = subst Unbroken (sym e) (answers_still old (between []) cs);
      result = q;
      forest = λ n k. puts_in cs old new s d got n h a (sym q ∙ k);
      stand = finished_stand cs old new h.bytes;
      writable = λ f fine fits c.
          let b : d ≡ between f = ap (put_in old) c ∙ forest_in old f fine fits in
          record {
            calls = a ∙ ap draft_calls b ∙ sym c;
            bytes = ap (take (length (encode f))) (h.bytes ∙ ap (λ (x : Draft). over (bytes_of_draft x) old) b)
                ∙ take_at (encode f) (drop (length (encode f)) old) (length (encode f)) refl;
            result = q ∙ ap finished_length b;
          };
    }

-- the answers of the calls, in front of those that were there
answers_first : {A : Type 0} (told before : List A) (n : ℕ) → length told ≡ min n (length before) → take n (over told before) ≡ told
answers_first told before n e =
    elim (cases_lt (length before) n) [
      | inl h ↦
          let none : drop (length told) before ≡ [] = drop_all (length told) before (omega arith) in
          ap (λ z. take n (told ++ z)) none ∙ ap (take n) (append-nil told) ∙ take_all n told (omega arith)
      | inr h ↦ take_at told (drop (length told) before) n (omega arith)
    ]

pub writes_all : (calls : List WriterCall) (old new : List ℕ) (s : State) (before after : List Answer) (i : ℕ) (r : Option ℕ)
    → i ≡ min (length calls) (length before) → Far (take i calls) old new s before after → r ≡ length_of s → WritesAll calls old new before after r
writes_all calls old new s before after i r m f e =
    let cs : List WriterCall = take i calls in
    let told : List Answer = answers old cs in
    let n : length told ≡ i = length_answers old (between []) cs ∙ length-take-le i calls (omega arith) in
    let g : take (length calls) after ≡ told = ap (take (length calls)) f.answers ∙ answers_first told before (length calls) (n ∙ m) in
    record {
      writes = subst (λ (x : List WriterCall). Writes x old new (take (length calls) after) r) (as_many calls (length before) i m)
          (writes cs old new s (take (length calls) after) r f.holds g e);
      behind = ap (drop (length calls)) f.answers ∙ drop-append-drop (length told) before told (length calls) (omega arith) refl;
    }
