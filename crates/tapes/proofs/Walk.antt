use Rattle.std.proofs.Common.{◌≡◌, ℕ, ◌+◌, ◌-◌, ◌<◌, ◌≤◌, true, eqb, ltb, leb, ◌≢◌, List, ◌∷◌, length, get_or, drop, set, sym, refl, ap, ◌∙◌, subst, arith, length-drop, length-set, get_or-set_other, get_or-set_same, drop-drop}
use Rattle.std.proofs.lemmas.Bool.{le-leb, lt-ltb, eq-eqb}
use Rattle.nodes.specs.Limits.{max_bytes, max_level}
use Rattle.nodes.specs.Bytes.{two, four}
use Rattle.nodes.specs.Whole.{Whole, more}
use Rattle.tapes.specs.declared.command.Command.TheVariants.{Open, Close, Value}
use Rattle.tapes.specs.declared.stage.Stage.TheVariants.{Rooted}
use Rattle.tapes.specs.Command.{command_in}
use Rattle.tapes.specs.Reading.{Reading, done, move, move_by, step, reads, onward, innermost}
use Rattle.tapes.specs.Forest.{Children, none, value, element, size, encode_in, rows_in, FineIn, tagged}
use Rattle.tapes.proofs.Onward.{reads-step}
use Rattle.tapes.proofs.Bytes.{close_in, value_in, open_in}

pub length-encode : (at : ℕ) (f : Children) (r : List ℕ) → length (encode_in at f r) ≡ size f + length r
length-encode at none r = omega arith
length-encode at (value t n f) r = let h = length-encode (at + 7) f r in omega arith
length-encode at (element t c f) r =
    let h = length-encode (at + 7) c (3 ∷ encode_in (at + 8 + size c) f r) in
    let k = length-encode (at + 8 + size c) f r in omega arith

-- a VALUE that nothing refuses
pub step_value : (bs x : List ℕ) (s : Reading) (t n : ℕ) → drop s.at bs ≡ 4 ∷ two t (four n x) → t < 65536 → n < 4294967296
    → 0 < s.depth → s.depth < max_level → s.at < innermost s → step bs s ≡ done s (Value t n)
step_value bs x s t n e ht hn d l a =
    let p : ltb 0 s.depth ≡ true = lt-ltb 0 s.depth d in
    let q : ltb s.depth max_level ≡ true = lt-ltb s.depth max_level l in
    let r : ltb s.at (innermost s) ≡ true = lt-ltb s.at (innermost s) a in
    let m : move (length bs) s (Value t n) ≡ done s (Value t n) = rw (p, q, r) refl in
    ap (move_by (length bs) s) (ap command_in e ∙ value_in t n x ht hn) ∙ m

pub step_open : (bs x : List ℕ) (s : Reading) (t c : ℕ) → drop s.at bs ≡ 2 ∷ two t (four c x) → t < 65536 → c < 4294967296
    → 0 < s.depth → s.depth < max_level → s.at < innermost s → s.at + 7 ≤ c → c < innermost s → step bs s ≡ done s (Open t c)
step_open bs x s t c e ht hc d l a lo hi =
    let p : ltb 0 s.depth ≡ true = lt-ltb 0 s.depth d in
    let q : ltb s.depth max_level ≡ true = lt-ltb s.depth max_level l in
    let r : ltb s.at (innermost s) ≡ true = lt-ltb s.at (innermost s) a in
    let u : leb (s.at + 7) c ≡ true = le-leb (s.at + 7) c lo in
    let v : ltb c (innermost s) ≡ true = lt-ltb c (innermost s) hi in
    let m : move (length bs) s (Open t c) ≡ done s (Open t c) = rw (p, q, r, u, v) refl in
    ap (move_by (length bs) s) (ap command_in e ∙ open_in t c x ht hc) ∙ m

pub step_close : (bs x : List ℕ) (s : Reading) → drop s.at bs ≡ 3 ∷ x → 0 < s.depth → s.at ≡ innermost s → step bs s ≡ done s Close
step_close bs x s e d a =
    let p : ltb 0 s.depth ≡ true = lt-ltb 0 s.depth d in
    let q : eqb s.at (innermost s) ≡ true = eq-eqb s.at (innermost s) a in
    let m : move (length bs) s Close ≡ done s Close = rw (p, q) refl in
    ap (move_by (length bs) s) (ap command_in e ∙ close_in x) ∙ m

pub encode-drop : (at : ℕ) (f : Children) (r : List ℕ) → drop (size f) (encode_in at f r) ≡ r
encode-drop at none r = refl
encode-drop at (value t n f) r =
    sym (drop-drop (size f) 7 (encode_in at (value t n f) r)) ∙ encode-drop (at + 7) f r
encode-drop at (element t c f) r =
    let l : List ℕ = encode_in at (element t c f) r in
    let e : List ℕ = encode_in (at + 8 + size c) f r in
    let n : 8 + (size c + size f) ≡ 7 + (size c + (1 + size f)) = omega arith in
    ap (λ k. drop k l) n
    ∙ sym (drop-drop (size c + (1 + size f)) 7 l)
    ∙ sym (drop-drop (1 + size f) (size c) (encode_in (at + 7) c (3 ∷ e)))
    ∙ ap (drop (1 + size f)) (encode-drop (at + 7) c (3 ∷ e))
    ∙ sym (drop-drop (size f) 1 (3 ∷ e))
    ∙ encode-drop (at + 8 + size c) f r

-- the place lies within the bytes where something stands there
pub inside : (bs l : List ℕ) (i n : ℕ) → drop i bs ≡ l → length l ≡ n → 0 < n → i + n ≡ length bs
inside bs l i n e h p = let a = length-drop i bs in let b : length (drop i bs) ≡ length l = ap length e in omega arith

abbrev pub after_value : Reading → Reading
after_value s = record { at = s.at + 7; stage = s.stage; document = s.document; least = s.least; depth = s.depth; path = s.path }

abbrev pub after_open : Reading → ℕ → Reading
after_open s c = record { at = s.at + 7; stage = Rooted; document = s.document; least = s.least; depth = s.depth + 1; path = set s.path s.depth c }

abbrev pub after_close : Reading → Reading
after_close s = record { at = s.at + 1; stage = s.stage; document = s.document; least = s.least; depth = s.depth - 1; path = s.path }

pub top_open : (s : Reading) (c : ℕ) → s.depth < length s.path → get_or (after_open s c).path s.depth 0 ≡ c
top_open s c h = rw get_or-set_same refl

pub below_open : (s : Reading) (c k : ℕ) → k < s.depth → get_or (after_open s c).path k 0 ≡ get_or s.path k 0
below_open s c k h = let ne : k ≢ s.depth = omega arith in rw get_or-set_other refl

-- where a reading is so many bytes on, and all else stands as it stood
pub record Later (s : Reading) (n : ℕ) (t : Reading) : Type 0 where
  pub at : t.at ≡ s.at + n
  pub stage : t.stage ≡ s.stage
  pub document : t.document ≡ s.document
  pub least : t.least ≡ s.least
  pub depth : t.depth ≡ s.depth
  pub room : length t.path ≡ length s.path
  pub path : (k : ℕ) → k < s.depth → get_or t.path k 0 ≡ get_or s.path k 0

-- the rows of children in front of what follows them
abbrev pub ahead : Reading → Children → Whole → Whole
ahead s f r = record { rows = rows_in s.document (s.depth + 1) s.at f r.rows; stop = r.stop }

-- children in an open element read as their rows, and then as what follows them does
pub walk : (f : Children) (bs rest : List ℕ) (s : Reading) (r : Whole)
    → FineIn (s.depth + 1) f → length bs ≤ max_bytes → drop s.at bs ≡ encode_in s.at f rest
    → s.stage ≡ Rooted → 0 < s.depth → length s.path ≡ max_level → s.at + size f ≤ innermost s
    → ((t : Reading) → Later s (size f) t → reads bs t ≡ r) → reads bs s ≡ ahead s f r
walk none bs rest s r fine short e st d pl hi k =
    k s (record { at = omega arith; stage = refl; document = refl; least = refl; depth = refl; room = refl; path = λ _ _. refl })
walk (value t n f) bs rest s r fine short e st d pl hi k =
    let x : List ℕ = encode_in (s.at + 7) f rest in
    let li = inside bs (encode_in s.at (value t n f) rest) s.at (7 + size f + length rest) e (length-encode s.at (value t n f) rest) (omega arith) in
    let lt : s.at < length bs = omega arith in
    let lv : s.depth < max_level = omega (arith, fine.0) in
    let tp : s.at < innermost s = omega arith in
    let hi' : s.at + 7 + size f ≤ innermost s = omega arith in
    reads-step bs s lt
    ∙ ap (λ m. onward s m (reads bs)) (step_value bs x s t n e fine.1 fine.2 d lv tp)
    ∙ ap (more (tagged t s.document s.at s.at (s.depth + 1)))
    (walk f bs rest (after_value s) r fine.3 short (sym (drop-drop 7 s.at bs) ∙ ap (drop 7) e) st d pl hi'
    (λ u o. k u (record { at = omega (arith, o.at); stage = o.stage; document = o.document; least = o.least; depth = o.depth; room = o.room; path = o.path })))
walk (element t c f) bs rest s r fine short e st d pl hi k =
    let x : List ℕ = encode_in (s.at + 8 + size c) f rest in
    let o : ℕ = s.at + 7 + size c in
    let v : Reading = after_open s o in
    let r' : Whole = record { rows = rows_in s.document (s.depth + 1) (s.at + 8 + size c) f r.rows; stop = r.stop } in
    let li = inside bs (encode_in s.at (element t c f) rest) s.at (8 + (size c + size f) + length rest) e (length-encode s.at (element t c f) rest) (omega arith) in
    let lt : s.at < length bs = omega arith in
    let lv : s.depth < max_level = omega (arith, fine.0) in
    let dl : s.depth < length s.path = omega arith in
    let tp : s.at < innermost s = omega arith in
    let lo : s.at + 7 ≤ o = omega arith in
    let ho : o < innermost s = omega arith in
    let sm : o < 4294967296 = omega arith in
    let e₁ : drop (s.at + 7) bs ≡ encode_in (s.at + 7) c (3 ∷ x) = sym (drop-drop 7 s.at bs) ∙ ap (drop 7) e in
    let one : s.depth + 1 - 1 ≡ s.depth = omega arith in
    let tv : innermost v ≡ o = ap (λ i. get_or v.path i 0) one ∙ top_open s o dl in
    let hi₁ : s.at + 7 + size c ≤ innermost v = omega arith in
    reads-step bs s lt
    ∙ ap (λ m. onward s m (reads bs)) (step_open bs (encode_in (s.at + 7) c (3 ∷ x)) s t o e fine.1 sm d lv tp lo ho)
    ∙ ap (more (tagged t s.document s.at o (s.depth + 1)))
    (walk c bs (3 ∷ x) v r' fine.2 short e₁ refl (omega arith) (length-set s.path s.depth o ∙ pl) hi₁
    (λ u w.
    let ua : u.at ≡ o = w.at in
    let ud : u.depth ≡ s.depth + 1 = w.depth in
    let eu : drop u.at bs ≡ 3 ∷ x =
    ap (λ i. drop i bs) ua ∙ sym (drop-drop (size c) (s.at + 7) bs) ∙ ap (drop (size c)) e₁ ∙ encode-drop (s.at + 7) c (3 ∷ x) in
    let ui : u.depth - 1 ≡ s.depth = omega arith in
    let ut : u.at ≡ innermost u =
    ua ∙ sym (ap (λ i. get_or u.path i 0) ui ∙ w.path s.depth (omega arith) ∙ top_open s o dl) in
    let ul : u.at < length bs = omega arith in
    let z : Reading = after_close u in
    let za : s.at + 8 + size c ≡ u.at + 1 = omega arith in
    let ez : drop (u.at + 1) bs ≡ encode_in (u.at + 1) f rest =
    sym (drop-drop 1 u.at bs) ∙ ap (drop 1) eu ∙ ap (λ i. encode_in i f rest) za in
    let below : (j : ℕ) → j < s.depth → get_or u.path j 0 ≡ get_or s.path j 0 =
    λ j h. w.path j (omega arith) ∙ below_open s o j h in
    let zi : u.depth - 1 - 1 ≡ s.depth - 1 = omega arith in
    let zt : innermost z ≡ innermost s = ap (λ i. get_or u.path i 0) zi ∙ below (s.depth - 1) (omega arith) in
    let zf : FineIn (u.depth - 1 + 1) f = subst (λ (i : ℕ). FineIn (i + 1) f) (sym ui) fine.3 in
    let zl : length u.path ≡ max_level = w.room ∙ length-set s.path s.depth o ∙ pl in
    let zh : u.at + 1 + size f ≤ innermost z = omega arith in
    reads-step bs u ul
    ∙ ap (λ m. onward u m (reads bs)) (step_close bs x u eu (omega arith) ut)
    ∙ walk f bs rest z r zf short ez w.stage (omega arith) zl zh
    (λ y q. k y (record {
      at = omega (arith, q.at);
      stage = q.stage ∙ w.stage ∙ sym st;
      document = q.document ∙ w.document;
      least = q.least ∙ w.least;
      depth = q.depth ∙ ui;
      room = q.room ∙ w.room ∙ length-set s.path s.depth o;
      path = λ j h. q.path j (omega arith) ∙ below j h;
    }))
    ∙ ap (λ b. record { rows = rows_in b (u.depth - 1 + 1) (u.at + 1) f r.rows; stop = r.stop }) w.document
    ∙ ap (λ b. record { rows = rows_in s.document (b + 1) (u.at + 1) f r.rows; stop = r.stop }) ui
    ∙ ap (λ b. record { rows = rows_in s.document (s.depth + 1) b f r.rows; stop = r.stop }) (sym za)))
