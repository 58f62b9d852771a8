use Rattle.std.proofs.Common.{◌≡◌, ℕ, ◌+◌, ◌-◌, ◌<◌, ◌≤◌, true, false, eqb, ltb, leb, List, [], ◌∷◌, length, get_or, drop, None, sym, refl, ap, ◌∙◌, subst, arith, length-drop, length-set, drop-drop}
use Rattle.std.proofs.lemmas.Bool.{le-leb, lt-ltb, le-ltb, eq-eqb}
use Rattle.nodes.specs.Limits.{max_bytes, max_document, max_level}
use Rattle.nodes.specs.Bytes.{two, four}
use Rattle.nodes.specs.Whole.{Whole, more}
use Rattle.tapes.specs.declared.command.Command.TheVariants.{Begin, Open, End}
use Rattle.tapes.specs.declared.stage.Stage.TheVariants.{Outside, Begun, Rooted}
use Rattle.tapes.specs.Command.{command_in}
use Rattle.tapes.specs.Reading.{Reading, done, move, move_by, step, reads, onward, end_at, innermost, start, tape_reads}
use Rattle.tapes.specs.Forest.{Children, none, element, Forest, size, encode_in, encode_from, encode, rows_in, rows_from, forest_rows, tagged, FineIn, FineFrom, Fine}
use Rattle.tapes.proofs.Onward.{reads-step, reads_end, short_reads}
use Rattle.tapes.proofs.Bytes.{open_in, begin_in, end_in_lem}
use Rattle.tapes.proofs.Walk.{length-encode, encode-drop, inside, after_open, after_close, top_open, walk, step_close}

pub step_begin : (bs x : List ℕ) (s : Reading) (n : ℕ) → drop s.at bs ≡ 1 ∷ four n x → s.stage ≡ Outside → n ≤ max_document → s.least ≤ n
    → step bs s ≡ done s (Begin n)
step_begin bs x s n e st h l =
    let p : leb n max_document ≡ true = le-leb n max_document h in
    let q : leb s.least n ≡ true = le-leb s.least n l in
    let m : move (length bs) s (Begin n) ≡ done s (Begin n) = rw (st, p, q) refl in
    ap (move_by (length bs) s) (ap command_in e ∙ begin_in n x (omega arith)) ∙ m

pub step_root : (bs x : List ℕ) (s : Reading) (t c : ℕ) → drop s.at bs ≡ 2 ∷ two t (four c x) → t < 65536 → c < 4294967296
    → s.stage ≡ Begun → s.depth ≡ 0 → s.at + 7 ≤ c → c < length bs → step bs s ≡ done s (Open t c)
step_root bs x s t c e ht hc st d lo hi =
    let p : ltb 0 s.depth ≡ false = le-ltb 0 s.depth (omega arith) in
    let u : leb (s.at + 7) c ≡ true = le-leb (s.at + 7) c lo in
    let v : ltb c (length bs) ≡ true = lt-ltb c (length bs) hi in
    let m : move (length bs) s (Open t c) ≡ done s (Open t c) = rw (p, st, u, v) refl in
    ap (move_by (length bs) s) (ap command_in e ∙ open_in t c x ht hc) ∙ m

pub step_end : (bs x : List ℕ) (s : Reading) → drop s.at bs ≡ 5 ∷ x → s.stage ≡ Rooted → s.depth ≡ 0 → step bs s ≡ done s End
step_end bs x s e st d =
    let p : eqb s.depth 0 ≡ true = eq-eqb s.depth 0 d in
    let m : move (length bs) s End ≡ done s End = rw (st, p) refl in
    ap (move_by (length bs) s) (ap command_in e ∙ end_in_lem x) ∙ m

abbrev pub after_begin : Reading → ℕ → Reading
after_begin s n = record { at = s.at + 5; stage = Begun; document = n; least = n + 1; depth = s.depth; path = s.path }

abbrev pub after_end : Reading → Reading
after_end s = record { at = s.at + 1; stage = Outside; document = s.document; least = s.least; depth = s.depth; path = s.path }

pub docs_walk : (ds : Forest) (bs : List ℕ) (s : Reading) → FineFrom s.least ds → length bs ≤ max_bytes → drop s.at bs ≡ encode_from s.at ds
    → s.stage ≡ Outside → s.depth ≡ 0 → length s.path ≡ max_level
    → reads bs s ≡ record { rows = rows_from s.at ds; stop = None }
docs_walk [] bs s fine short e st d pl =
    let a = length-drop s.at bs in
    let b : length (drop s.at bs) ≡ 0 = ap length e in
    let le : length bs ≤ s.at = omega arith in
    reads_end bs s le ∙ ap (λ g. end_at g (length bs)) st
docs_walk (x ∷ ds) bs s fine short e st d pl =
    let n : ℕ = x.number in
    let c : Children = x.children in
    let a : Reading = after_begin s n in
    let o : ℕ = s.at + 5 + 7 + size c in
    let v : Reading = after_open a o in
    let y : List ℕ = encode_from (s.at + 14 + size c) ds in
    let z : List ℕ = encode_in (s.at + 5) (element x.tag c none) (5 ∷ y) in
    let r' : Whole = record { rows = rows_from (s.at + 14 + size c) ds; stop = None } in
    let le = length-encode (s.at + 5) (element x.tag c none) (5 ∷ y) in
    let li = inside bs (1 ∷ four n z) s.at (5 + length z) e (omega arith) (omega arith) in
    let lt : s.at < length bs = omega arith in
    let e₁ : drop (s.at + 5) bs ≡ z = sym (drop-drop 5 s.at bs) ∙ ap (drop 5) e in
    let e₂ : drop (s.at + 5 + 7) bs ≡ encode_in (s.at + 5 + 7) c (3 ∷ 5 ∷ y) = sym (drop-drop 7 (s.at + 5) bs) ∙ ap (drop 7) e₁ in
    let lt₁ : s.at + 5 < length bs = omega arith in
    let ol : o < length bs = omega arith in
    let dl : s.depth < length s.path = omega arith in
    let one : s.depth + 1 - 1 ≡ s.depth = omega arith in
    let tv : innermost v ≡ o = ap (λ i. get_or v.path i 0) one ∙ top_open a o dl in
    let hi : s.at + 5 + 7 + size c ≤ innermost v = omega arith in
    let fk : FineIn (s.depth + 1 + 1) c = subst (λ (i : ℕ). FineIn (i + 1 + 1) c) (sym d) fine.3 in
    reads-step bs s lt
    ∙ ap (λ m. onward s m (reads bs)) (step_begin bs z s n e st fine.1 fine.0)
    ∙ reads-step bs a lt₁
    ∙ ap (λ m. onward a m (reads bs)) (step_root bs (encode_in (s.at + 5 + 7) c (3 ∷ 5 ∷ y)) a x.tag o e₁ fine.2 (omega arith) refl d (omega arith) ol)
    ∙ ap (more (tagged x.tag n (s.at + 5) o (s.depth + 1)))
    (walk c bs (3 ∷ 5 ∷ y) v r' fk short e₂ refl (omega arith) (length-set s.path s.depth o ∙ pl) hi
    (λ u w.
    let ua : u.at ≡ o = w.at in
    let ud : u.depth ≡ s.depth + 1 = w.depth in
    let eu : drop u.at bs ≡ 3 ∷ 5 ∷ y =
    ap (λ i. drop i bs) ua ∙ sym (drop-drop (size c) (s.at + 5 + 7) bs) ∙ ap (drop (size c)) e₂ ∙ encode-drop (s.at + 5 + 7) c (3 ∷ 5 ∷ y) in
    let ui : u.depth - 1 ≡ s.depth = omega arith in
    let ut : u.at ≡ innermost u =
    ua ∙ sym (ap (λ i. get_or u.path i 0) ui ∙ w.path s.depth (omega arith) ∙ top_open a o dl) in
    let ul : u.at < length bs = omega arith in
    let e₃ : drop (u.at + 1) bs ≡ 5 ∷ y = sym (drop-drop 1 u.at bs) ∙ ap (drop 1) eu in
    let ul₁ : u.at + 1 < length bs = omega arith in
    let za : s.at + 14 + size c ≡ u.at + 1 + 1 = omega arith in
    let e₄ : drop (u.at + 1 + 1) bs ≡ encode_from (u.at + 1 + 1) ds =
    sym (drop-drop 1 (u.at + 1) bs) ∙ ap (drop 1) e₃ ∙ ap (λ i. encode_from i ds) za in
    let fd : FineFrom u.least ds = subst (λ (i : ℕ). FineFrom i ds) (sym w.least) fine.4 in
    reads-step bs u ul
    ∙ ap (λ m. onward u m (reads bs)) (step_close bs (5 ∷ y) u eu (omega arith) ut)
    ∙ reads-step bs (after_close u) ul₁
    ∙ ap (λ m. onward (after_close u) m (reads bs)) (step_end bs y (after_close u) e₃ w.stage (omega arith))
    ∙ docs_walk ds bs (after_end (after_close u)) fd short e₄ refl (omega arith) (w.room ∙ length-set s.path s.depth o ∙ pl)
    ∙ ap (λ b. record { rows = rows_from b ds; stop = None }) (sym za)))
    ∙ ap (λ b. record { rows = rows_in n (b + 1) (s.at + 5) (element x.tag c none) (rows_from (s.at + 14 + size c) ds); stop = None }) d

-- the tape of a forest reads as its rows, and then ends
pub forest_reads : (f : Forest) → Fine f → tape_reads (encode f) ≡ record { rows = forest_rows f; stop = None }
forest_reads f h =
    short_reads (encode f) start h.short ∙ docs_walk f (encode f) start h.documents h.short refl refl refl refl
