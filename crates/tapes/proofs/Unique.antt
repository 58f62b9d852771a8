use Rattle.std.proofs.Common.{◌≡◌, ℕ, ◌+◌, ◌*◌, ◌/◌, ◌%◌, ◌<◌, List, [], ◌∷◌, get_or, drop, sym, refl, ap, ◌∙◌, arith}
use Rattle.nodes.specs.Bytes.{two, four, four_at}
use Rattle.tapes.specs.Forest.{Children, none, value, element, Forest, size, encode_in, encode_from, encode, FineIn, FineFrom, Fine}
use Rattle.tapes.specs.Draft.{document}
use Rattle.std.proofs.lemmas.Nat.{from_be_bytes-to_be_bytes_2, from_be_bytes-to_be_bytes_4}

pub two_same : (t u : ℕ) (x y : List ℕ) → t < 65536 → u < 65536 → two t x ≡ two u y → (t ≡ u) × (x ≡ y)
two_same t u x y a b h =
    let p : t / 256 % 256 ≡ u / 256 % 256 = ap (λ l. get_or l 0 0) h in
    let q : t % 256 ≡ u % 256 = ap (λ l. get_or l 1 0) h in
    (sym (from_be_bytes-to_be_bytes_2 t a) ∙ ap (λ z. z * 256 + t % 256) p ∙ ap (λ z. u / 256 % 256 * 256 + z) q ∙ from_be_bytes-to_be_bytes_2 u b, ap (drop 2) h)

pub four_same : (n m : ℕ) (x y : List ℕ) → n < 4294967296 → m < 4294967296 → four n x ≡ four m y → (n ≡ m) × (x ≡ y)
four_same n m x y a b h = (
  sym (from_be_bytes-to_be_bytes_4 n a)
      ∙ ap (λ l. four_at l 0) h
      ∙ from_be_bytes-to_be_bytes_4 m b,
  ap (drop 4) h,
)

pub forest_one : (f g : Children) (at l : ℕ) (r q : List ℕ) → FineIn l f → FineIn l g → encode_in at f (3 ∷ r) ≡ encode_in at g (3 ∷ q) → (f ≡ g) × (r ≡ q)
forest_one none none at l r q a b h = (refl, ap (drop 1) h)
forest_one none (value u m g) at l r q a b h = absurd cc
forest_one none (element u c g) at l r q a b h = absurd cc
forest_one (value t n f) none at l r q a b h = absurd cc
forest_one (value t n f) (value u m g) at l r q a b h =
    let e = two_same t u (four n (encode_in (at + 7) f (3 ∷ r))) (four m (encode_in (at + 7) g (3 ∷ q))) a.1 b.1 (ap (drop 1) h) in
    let v = four_same n m (encode_in (at + 7) f (3 ∷ r)) (encode_in (at + 7) g (3 ∷ q)) a.2 b.2 e.1 in
    let i = forest_one f g (at + 7) l r q a.3 b.3 v.1 in
    (ap (λ z. value z n f) e.0 ∙ ap (λ z. value u z f) v.0 ∙ ap (value u m) i.0, i.1)
forest_one (value t n f) (element u c g) at l r q a b h = absurd cc
forest_one (element t c f) none at l r q a b h = absurd cc
forest_one (element t c f) (value u m g) at l r q a b h = absurd cc
forest_one (element t c f) (element u k g) at l r q a b h =
    let x : List ℕ = encode_in (at + 8 + size c) f (3 ∷ r) in
    let y : List ℕ = encode_in (at + 8 + size k) g (3 ∷ q) in
    let e = two_same t u (four (at + 7 + size c) (encode_in (at + 7) c (3 ∷ x))) (four (at + 7 + size k) (encode_in (at + 7) k (3 ∷ y))) a.1 b.1 (ap (drop 1) h) in
    let i = forest_one c k (at + 7) (l + 1) x y a.2 b.2 (ap (drop 4) e.1) in
    let j = forest_one f g (at + 8 + size c) l r q a.3 b.3 (i.1 ∙ ap (λ z. encode_in (at + 8 + size z) g (3 ∷ q)) (sym i.0)) in
    (ap (λ z. element z c f) e.0 ∙ ap (λ z. element u z f) i.0 ∙ ap (element u k) j.0, j.1)

pub docs_one : (ds es : Forest) (at l m : ℕ) → FineFrom l ds → FineFrom m es → encode_from at ds ≡ encode_from at es → ds ≡ es
docs_one [] [] at l m a b h = refl
docs_one [] (y ∷ es) at l m a b h = absurd cc
docs_one (x ∷ ds) [] at l m a b h = absurd cc
docs_one (x ∷ ds) (y ∷ es) at l m a b h =
    let c : Children = x.children in
    let k : Children = y.children in
    let d : List ℕ = encode_from (at + 14 + size c) ds in
    let e : List ℕ = encode_from (at + 14 + size k) es in
    let lo : x.number < 4294967296 = omega (arith, a.1) in
    let hi : y.number < 4294967296 = omega (arith, b.1) in
    let n = four_same x.number y.number (encode_in (at + 5) (element x.tag c none) (5 ∷ d)) (encode_in (at + 5) (element y.tag k none) (5 ∷ e)) lo hi (ap (drop 1) h) in
    let t = two_same x.tag y.tag (four (at + 5 + 7 + size c) (encode_in (at + 5 + 7) c (3 ∷ 5 ∷ d))) (four (at + 5 + 7 + size k) (encode_in (at + 5 + 7) k (3 ∷ 5 ∷ e))) a.2 b.2 (ap (drop 1) n.1) in
    let i = forest_one c k (at + 5 + 7) 2 (5 ∷ d) (5 ∷ e) a.3 b.3 (ap (drop 4) t.1) in
    let j = docs_one ds es (at + 14 + size c) (x.number + 1) (y.number + 1) a.4 b.4
    (ap (drop 1) i.1 ∙ ap (λ z. encode_from (at + 14 + size z) es) (sym i.0)) in
    ap (λ z. document z x.tag c ∷ ds) n.0 ∙ ap (λ z. document y.number z c ∷ ds) t.0 ∙ ap (λ z. document y.number y.tag z ∷ ds) i.0 ∙ ap (λ z. y ∷ z) j

-- two forests of one tape are the same
pub one_forest : (f g : Forest) → Fine f → Fine g → encode f ≡ encode g → f ≡ g
one_forest f g a b h = docs_one f g 0 0 0 a.documents b.documents h
