use Rattle.std.proofs.Common.{◌≡◌, ℕ, ◌+◌, ◌*◌, ◌/◌, ◌%◌, ◌<◌, ◌≤◌, List, [], ◌∷◌, ◌++◌, length, get_or, take, drop, sym, refl, ap, ◌∙◌, append_assoc, suc-add, arith, length-append, length-drop, drop-drop, take_at, get_or-append-add}
use lib.Seq.{drop-append-add, get_or_at}
use Rattle.nodes.specs.Bytes.{two, four, four_at}
use Rattle.std.proofs.lemmas.Nat.{from_be_bytes-to_be_bytes_4}
use Rattle.writer.specs.Writer.{written}
use Rattle.writer.specs.Calls.{over}

-- writing over a list keeps its length
pub length_over : (p old : List ℕ) → length p ≤ length old → length (over p old) ≡ length old
length_over p old h = let a = length-append p (drop (length p) old) in let b = length-drop (length p) old in omega arith

-- a write at the end of what is written
pub write_over : (p new old : List ℕ) (n : ℕ) → n ≡ length p → written n new (over p old) ≡ over (p ++ new) old
write_over p new old n e =
    let d : List ℕ = drop (length p) old in
    ap (λ i. written i new (over p old)) e
    ∙ ap (λ x. x ++ (new ++ drop (length p + length new) (p ++ d))) (take_at p d (length p) refl)
    ∙ ap (λ x. p ++ (new ++ x)) (drop-append-add p d (length new) ∙ drop-drop (length new) (length p) old ∙ ap (λ i. drop i old) (sym (length-append p new)))
    ∙ sym (append_assoc p new (drop (length (p ++ new)) old))

-- close writes the true offset over what the last operand held
pub patched : (pre rest : List ℕ) (b t o n : ℕ)
    → written (length pre + 3) (four n []) (pre ++ (b ∷ two t (four o rest))) ≡ pre ++ (b ∷ two t (four n rest))
patched [] rest b t o n = refl
patched (x ∷ pre) rest b t o n =
    let l : List ℕ = pre ++ (b ∷ two t (four o rest)) in
    ap (λ i. written i (four n []) (x ∷ l)) (suc-add (length pre) 3)
    ∙ ap (λ j. x ∷ (take (length pre + 3) l ++ (four n [] ++ drop j (x ∷ l)))) (suc-add (length pre + 3) 4)
    ∙ ap (λ r. x ∷ r) (patched pre rest b t o n)

-- the same in bytes that go on behind
pub patch_over : (q k old : List ℕ) (t o n i : ℕ) → i ≡ length q
    → written (i + 3) (four n []) (over (q ++ (2 ∷ two t (four o k))) old) ≡ over (q ++ (2 ∷ two t (four n k))) old
patch_over q k old t o n i e =
    let d : List ℕ = drop (length (q ++ (2 ∷ two t (four o k)))) old in
    let l : length (q ++ (2 ∷ two t (four o k))) ≡ length (q ++ (2 ∷ two t (four n k))) =
    length-append q (2 ∷ two t (four o k)) ∙ sym (length-append q (2 ∷ two t (four n k))) in
    ap (λ j. written (j + 3) (four n []) (over (q ++ (2 ∷ two t (four o k))) old)) e
    ∙ ap (written (length q + 3) (four n [])) (append_assoc q (2 ∷ two t (four o k)) d)
    ∙ patched q (k ++ d) 2 t o n
    ∙ sym (append_assoc q (2 ∷ two t (four n k)) d)
    ∙ ap (λ j. (q ++ (2 ∷ two t (four n k))) ++ drop j old) l

-- what the innermost OPEN's bytes are
pub head_over : (q k old : List ℕ) (t o i : ℕ) → i ≡ length q → get_or (over (q ++ (2 ∷ two t (four o k))) old) i 0 ≡ 2
head_over q k old t o i e =
    let d : List ℕ = drop (length (q ++ (2 ∷ two t (four o k)))) old in
    ap (λ l. get_or l i 0) (append_assoc q (2 ∷ two t (four o k)) d)
    ∙ get_or_at q 2 (two t (four o (k ++ d))) 0 i (sym e)

pub held-over : (q k old : List ℕ) (t o i : ℕ) → i ≡ length q → o < 4294967296 → four_at (over (q ++ (2 ∷ two t (four o k))) old) (i + 3) ≡ o
held-over q k old t o i e h =
    let d : List ℕ = drop (length (q ++ (2 ∷ two t (four o k)))) old in
    let l : List ℕ = 2 ∷ two t (four o (k ++ d)) in
    let a : (j m : ℕ) → j ≡ length q + m → get_or (q ++ l) j 0 ≡ get_or l m 0 = λ j m w. ap (λ x. get_or (q ++ l) x 0) w ∙ get_or-append-add q l m 0 in
    let a₀ = a (i + 3) 3 (omega arith) in
    let a₁ = a (i + 3 + 1) 4 (omega arith) in
    let a₂ = a (i + 3 + 2) 5 (omega arith) in
    let a₃ = a (i + 3 + 3) 6 (omega arith) in
    ap (λ x. four_at x (i + 3)) (append_assoc q (2 ∷ two t (four o k)) d)
    ∙ ap (λ x. x * 16777216 + get_or (q ++ l) (i + 3 + 1) 0 * 65536 + get_or (q ++ l) (i + 3 + 2) 0 * 256 + get_or (q ++ l) (i + 3 + 3) 0) a₀
    ∙ ap (λ x. o / 16777216 % 256 * 16777216 + x * 65536 + get_or (q ++ l) (i + 3 + 2) 0 * 256 + get_or (q ++ l) (i + 3 + 3) 0) a₁
    ∙ ap (λ x. o / 16777216 % 256 * 16777216 + o / 65536 % 256 * 65536 + x * 256 + get_or (q ++ l) (i + 3 + 3) 0) a₂
    ∙ ap (λ x. o / 16777216 % 256 * 16777216 + o / 65536 % 256 * 65536 + o / 256 % 256 * 256 + x) a₃
    ∙ from_be_bytes-to_be_bytes_4 o h
