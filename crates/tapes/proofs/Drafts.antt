use Rattle.std.proofs.Common.{◌≡◌, ℕ, ◌+◌, ◌<◌, ◌≤◌, List, [], ◌∷◌, ◌++◌, length, sym, refl, ap, ◌∙◌, subst, append_assoc, arith, length-append}
use Rattle.nodes.specs.Limits.{max_document, max_level}
use Rattle.nodes.specs.Bytes.{two, four}
use Rattle.tapes.specs.Forest.{Children, none, value, element, Document, Forest, size, encode_in, encode_from, encode, FineIn, FineFrom}
use Rattle.tapes.specs.Draft.{Opened, Draft, between, begun, within, rooted, opened, document, append, grown, closed, size_of, open_size, draft_size, least_of, Operand, open_bytes, draft_bytes, FineDraft}
use Rattle.tapes.proofs.Walk.{length-encode}

pub encode_app : (at : ℕ) (f : Children) (a b : List ℕ) → encode_in at f (a ++ b) ≡ encode_in at f a ++ b
encode_app at none a b = refl
encode_app at (value t n f) a b = ap (λ r. 4 ∷ two t (four n r)) (encode_app (at + 7) f a b)
encode_app at (element t c f) a b =
    ap (λ r. 2 ∷ two t (four (at + 7 + size c) (encode_in (at + 7) c (3 ∷ r)))) (encode_app (at + 8 + size c) f a b)
    ∙ ap (λ r. 2 ∷ two t (four (at + 7 + size c) r)) (encode_app (at + 7) c (3 ∷ encode_in (at + 8 + size c) f a) b)

pub size-append : (f g : Children) → size (append f g) ≡ size f + size g
size-append none g = omega arith
size-append (value t n f) g = let h = size-append f g in omega arith
size-append (element t c f) g = let h = size-append f g in omega arith

pub encode-append : (at : ℕ) (f g : Children) (r : List ℕ) → encode_in at (append f g) r ≡ encode_in at f (encode_in (at + size f) g r)
encode-append at none g r = let e : at ≡ at + 0 = omega arith in ap (λ i. encode_in i g r) e
encode-append at (value t n f) g r =
    let e : at + 7 + size f ≡ at + (7 + size f) = omega arith in
    ap (λ x. 4 ∷ two t (four n x)) (encode-append (at + 7) f g r ∙ ap (λ i. encode_in (at + 7) f (encode_in i g r)) e)
encode-append at (element t c f) g r =
    let e : at + 8 + size c + size f ≡ at + (8 + (size c + size f)) = omega arith in
    ap (λ x. 2 ∷ two t (four (at + 7 + size c) (encode_in (at + 7) c (3 ∷ x))))
    (encode-append (at + 8 + size c) f g r ∙ ap (λ i. encode_in (at + 8 + size c) f (encode_in i g r)) e)

pub fine_append : (l : ℕ) (f g : Children) → FineIn l f → FineIn l g → FineIn l (append f g)
fine_append l none g a b = b
fine_append l (value t n f) g a b = (a.0, a.1, a.2, fine_append l f g a.3 b)
fine_append l (element t c f) g a b = (a.0, a.1, a.2, fine_append l f g a.3 b)

-- sizes are lengths
pub length_docs : (at : ℕ) (ds : Forest) → length (encode_from at ds) ≡ size_of ds
length_docs at [] = refl
length_docs at (x ∷ ds) =
    let y : List ℕ = encode_from (at + 14 + size x.children) ds in
    let h = length_docs (at + 14 + size x.children) ds in
    let k = length-encode (at + 5) (element x.tag x.children none) (5 ∷ y) in omega arith

-- documents, and one more
pub docs_snoc : (at : ℕ) (ds : Forest) (x : Document)
    → encode_from at (ds ++ (x ∷ [])) ≡ encode_from at ds ++ encode_from (at + size_of ds) (x ∷ [])
docs_snoc at [] x = let e : at ≡ at + 0 = omega arith in ap (λ i. encode_from i (x ∷ [])) e
docs_snoc at (y ∷ ds) x =
    let b : ℕ = at + 14 + size y.children in
    let e : b + size_of ds ≡ at + (14 + size y.children + size_of ds) = omega arith in
    ap (λ r. 1 ∷ four y.number r)
    (ap (λ r. encode_in (at + 5) (element y.tag y.children none) (5 ∷ r)) (docs_snoc b ds x ∙ ap (λ i. encode_from b ds ++ encode_from i (x ∷ [])) e)
    ∙ encode_app (at + 5) (element y.tag y.children none) (5 ∷ encode_from b ds) (encode_from (at + (14 + size y.children + size_of ds)) (x ∷ [])))

pub size_snoc : (ds : Forest) (x : Document) → size_of (ds ++ (x ∷ [])) ≡ size_of ds + 14 + size x.children
size_snoc [] x = omega arith
size_snoc (y ∷ ds) x = let h = size_snoc ds x in omega arith

pub least_snoc : (l : ℕ) (ds : Forest) (x : Document) → least_of l (ds ++ (x ∷ [])) ≡ x.number + 1
least_snoc l [] x = refl
least_snoc l (y ∷ ds) x = least_snoc (y.number + 1) ds x

pub fine_snoc : (l : ℕ) (ds : Forest) (x : Document) → FineFrom l ds → least_of l ds ≤ x.number → x.number ≤ max_document → x.tag < 65536 → FineIn 2 x.children
    → FineFrom l (ds ++ (x ∷ []))
fine_snoc l [] x f a b c d = (a, b, c, d, tt)
fine_snoc l (y ∷ ds) x f a b c d = (f.0, f.1, f.2, f.3, fine_snoc (y.number + 1) ds x f.4 a b c d)

abbrev pub headed : Forest → ℕ → List ℕ
headed ds n = encode ds ++ (1 ∷ four n [])

pub length-headed : (ds : Forest) (n : ℕ) → length (headed ds n) ≡ size_of ds + 5
length-headed ds n = let h = length_docs 0 ds in let a = length-append (encode ds) (1 ∷ four n []) in omega arith

pub put_end : (ds : Forest) (n t : ℕ) (f : Children)
    → (headed ds n ++ encode_in (size_of ds + 5) (element t f none) []) ++ (5 ∷ []) ≡ encode (ds ++ (document n t f ∷ []))
put_end ds n t f =
    let at : ℕ = size_of ds + 5 in
    let z : List ℕ = encode_in at (element t f none) [] in
    let e : at ≡ 0 + size_of ds + 5 = omega arith in
    append_assoc (encode_from 0 ds ++ (1 ∷ four n [])) z (5 ∷ [])
    ∙ append_assoc (encode_from 0 ds) (1 ∷ four n []) (z ++ (5 ∷ []))
    ∙ ap (λ r. encode_from 0 ds ++ (1 ∷ four n r))
    (sym (encode_app at (element t f none) [] (5 ∷ [])) ∙ ap (λ i. encode_in i (element t f none) (5 ∷ [])) e)
    ∙ sym (docs_snoc 0 ds (document n t f))

module _ (held : Operand) where
  pub length_open : (at : ℕ) (fs : List Opened) → length (open_bytes held at fs) ≡ open_size fs
  length_open at [] = refl
  length_open at (x ∷ fs) =
      let e : List ℕ = encode_in (at + open_size fs + 7) x.children [] in
      let h = length_open at fs in
      let k = length-encode (at + open_size fs + 7) x.children [] in
      let a = length-append (open_bytes held at fs) (2 ∷ two x.tag (four (held at fs) e)) in omega arith

  pub length_draft : (d : Draft) → length (draft_bytes held d) ≡ draft_size d
  length_draft (between ds) = length_docs 0 ds
  length_draft (begun ds n) = length-headed ds n
  length_draft (within ds n fs x) =
      let h = length-headed ds n in let o = length_open (size_of ds + 5) (x ∷ fs) in
      let a = length-append (headed ds n) (open_bytes held (size_of ds + 5) (x ∷ fs)) in omega arith
  length_draft (rooted ds n t f) =
      let h = length-headed ds n in let o = length-encode (size_of ds + 5) (element t f none) [] in
      let a = length-append (headed ds n) (encode_in (size_of ds + 5) (element t f none) []) in omega arith

  pub put_open : (ds : Forest) (n t : ℕ) (fs : List Opened) (x : Opened)
      → draft_bytes held (within ds n fs x) ++ (2 ∷ two t (four (held (size_of ds + 5) (x ∷ fs)) [])) ≡ draft_bytes held (within ds n (x ∷ fs) (opened t none))
  put_open ds n t fs x = append_assoc (headed ds n) (open_bytes held (size_of ds + 5) (x ∷ fs)) (2 ∷ two t (four (held (size_of ds + 5) (x ∷ fs)) []))

  -- more children in the innermost open element
  pub grow : (at : ℕ) (fs : List Opened) (x : Opened) (g : Children)
      → open_bytes held at (x ∷ fs) ++ encode_in (at + open_size (x ∷ fs)) g [] ≡ open_bytes held at (grown x g ∷ fs)
  grow at fs x g =
      let b : ℕ = at + open_size fs + 7 in
      let e : b + size x.children ≡ at + (open_size fs + 7 + size x.children) = omega arith in
      let z : List ℕ = encode_in (at + open_size (x ∷ fs)) g [] in
      append_assoc (open_bytes held at fs) (2 ∷ two x.tag (four (held at fs) (encode_in b x.children []))) z
      ∙ ap (λ r. open_bytes held at fs ++ (2 ∷ two x.tag (four (held at fs) r)))
      (sym (encode_app b x.children [] z)
      ∙ ap (λ i. encode_in b x.children (encode_in i g [])) (sym e)
      ∙ sym (encode-append b x.children g []))

  pub put-value : (ds : Forest) (n t v : ℕ) (fs : List Opened) (x : Opened)
      → draft_bytes held (within ds n fs x) ++ (4 ∷ two t (four v [])) ≡ draft_bytes held (within ds n fs (grown x (value t v none)))
  put-value ds n t v fs x =
      let at : ℕ = size_of ds + 5 in
      append_assoc (headed ds n) (open_bytes held at (x ∷ fs)) (4 ∷ two t (four v []))
      ∙ ap (λ r. headed ds n ++ r) (grow at fs x (value t v none))

  -- the bytes before the innermost element, and its own with any operand
  abbrev pub front : Forest → ℕ → List Opened → List ℕ
  front ds n fs = headed ds n ++ open_bytes held (size_of ds + 5) fs

  abbrev pub inner : Forest → List Opened → Opened → ℕ → List ℕ
  inner ds fs x o = 2 ∷ two x.tag (four o (encode_in (size_of ds + 5 + open_size fs + 7) x.children []))

  pub innermost : (ds : Forest) (n : ℕ) (fs : List Opened) (x : Opened)
      → draft_bytes held (within ds n fs x) ≡ front ds n fs ++ inner ds fs x (held (size_of ds + 5) fs)
  innermost ds n fs x = sym (append_assoc (headed ds n) (open_bytes held (size_of ds + 5) fs) (inner ds fs x (held (size_of ds + 5) fs)))

  pub length_front : (ds : Forest) (n : ℕ) (fs : List Opened) → length (front ds n fs) ≡ size_of ds + 5 + open_size fs
  length_front ds n fs =
      let a = length-append (headed ds n) (open_bytes held (size_of ds + 5) fs) in
      let b = length-headed ds n in let c = length_open (size_of ds + 5) fs in omega arith

  pub put_close : (ds : Forest) (n : ℕ) (fs : List Opened) (x : Opened)
      → (front ds n fs ++ inner ds fs x (size_of ds + 5 + open_size (x ∷ fs))) ++ (3 ∷ []) ≡ draft_bytes held (closed ds n fs x)
  put_close ds n [] x =
      let at : ℕ = size_of ds + 5 in
      let e : at + 0 + 7 ≡ at + 7 = omega arith in
      let e₂ : at + (0 + 7 + size x.children) ≡ at + 7 + size x.children = omega arith in
      ap (λ r. r ++ (3 ∷ [])) (append_assoc (headed ds n) [] (inner ds [] x (at + open_size (x ∷ []))))
      ∙ append_assoc (headed ds n) (inner ds [] x (at + open_size (x ∷ []))) (3 ∷ [])
      ∙ ap (λ r. headed ds n ++ (2 ∷ two x.tag (four (at + open_size (x ∷ [])) r))) (sym (encode_app (at + 0 + 7) x.children [] (3 ∷ [])))
      ∙ ap (λ i. headed ds n ++ (2 ∷ two x.tag (four i (encode_in (at + 0 + 7) x.children (3 ∷ []))))) e₂
      ∙ ap (λ i. headed ds n ++ (2 ∷ two x.tag (four (at + 7 + size x.children) (encode_in i x.children (3 ∷ []))))) e
  put_close ds n (y ∷ fs) x =
      let at : ℕ = size_of ds + 5 in
      let b : ℕ = at + open_size (y ∷ fs) in
      let o : ℕ = at + open_size (x ∷ y ∷ fs) in
      let e : o ≡ b + 7 + size x.children = omega arith in
      append_assoc (front ds n (y ∷ fs)) (inner ds (y ∷ fs) x o) (3 ∷ [])
      ∙ append_assoc (headed ds n) (open_bytes held at (y ∷ fs)) (inner ds (y ∷ fs) x o ++ (3 ∷ []))
      ∙ ap (λ r. headed ds n ++ (open_bytes held at (y ∷ fs) ++ (2 ∷ two x.tag (four o r)))) (sym (encode_app (b + 7) x.children [] (3 ∷ [])))
      ∙ ap (λ i. headed ds n ++ (open_bytes held at (y ∷ fs) ++ (2 ∷ two x.tag (four i (encode_in (b + 7) x.children (3 ∷ [])))))) e
      ∙ ap (λ r. headed ds n ++ r) (grow at fs y (element x.tag x.children none))

pub closed-size : (ds : Forest) (n : ℕ) (fs : List Opened) (x : Opened) → draft_size (closed ds n fs x) ≡ size_of ds + 5 + open_size (x ∷ fs) + 1
closed-size ds n [] x = omega arith
closed-size ds n (y ∷ fs) x = let h = size-append y.children (element x.tag x.children none) in omega arith

pub fine_closed : (ds : Forest) (n : ℕ) (fs : List Opened) (x : Opened) → FineDraft (within ds n fs x) → FineDraft (closed ds n fs x)
fine_closed ds n [] x f = (f.0, f.1.0, f.1.2)
fine_closed ds n (y ∷ fs) x f =
    let g = f.1.3 in
    let e : length (y ∷ fs) + 2 ≡ length fs + 2 + 1 = omega arith in
    let l : length fs + 2 ≤ max_level = omega (arith, f.1.1) in
    let k : FineIn (length fs + 2 + 1) x.children = subst (λ (m : ℕ). FineIn m x.children) e f.1.2 in
    (f.0, (g.0, g.1, fine_append (length fs + 2) y.children (element x.tag x.children none) g.2 (l, f.1.0, k, tt), g.3))
