use Rattle.std.proofs.Common.{◌≡◌, ℕ, ◌+◌, ◌*◌, ◌/◌, ◌%◌, ◌<◌, ◌≤◌, Bool, true, false, cond, eqb, leb, ◌⊎◌, List, [], ◌∷◌, ◌++◌, length, get_or, Some, None, Ok, Err, Option, Result, sym, refl, ap, ◌∙◌, subst, inl, inr, arith}
use Rattle.std.proofs.lemmas.Bool.{leb-true, eqb-true}
use Rattle.nodes.specs.Bytes.{two, four, two_at, four_at}
use Rattle.nodes.specs.Whole.{Whole}
use Rattle.nodes.specs.declared.refusal.Refusal.{Refusal}
use Rattle.nodes.specs.declared.refusal.Refusal.TheVariants.{UnknownCommand, ShortCommand}
use Rattle.tapes.specs.declared.command.Command.{Command}
use Rattle.tapes.specs.declared.command.Command.TheVariants.{Begin, Open, Close, Value, End}
use Rattle.tapes.specs.Command.{command_in, by_byte, whole, width, bytes_of}
use Rattle.tapes.specs.Reading.{Reading, done, judge, unless, move_by, onward}
use Rattle.tapes.specs.Source.{after}

-- bytes give the number's bytes back
pub two_forth : (a b : ℕ) (r : List ℕ) → a < 256 → b < 256 → a ∷ b ∷ r ≡ two (a * 256 + b) r
two_forth a b r ha hb =
    let n : ℕ = a * 256 + b in
    let p : a ≡ (a * 256 + b) / 256 % 256 = omega arith in
    let q : b ≡ (a * 256 + b) % 256 = omega arith in
    ap (λ z. z ∷ b ∷ r) p ∙ ap (λ z. ((a * 256 + b) / 256 % 256) ∷ z ∷ r) q

abbrev pub four_of : ℕ → ℕ → ℕ → ℕ → ℕ
four_of a b c d = a * 16777216 + b * 65536 + c * 256 + d

pub four_forth : (a b c d : ℕ) (r : List ℕ) → a < 256 → b < 256 → c < 256 → d < 256 → a ∷ b ∷ c ∷ d ∷ r ≡ four (four_of a b c d) r
four_forth a b c d r ha hb hc hd =
    let x₃ : four_of a b c d / 16777216 ≡ a = omega arith in
    let x₂ : four_of a b c d / 65536 ≡ a * 256 + b = omega arith in
    let x₁ : four_of a b c d / 256 ≡ (a * 256 + b) * 256 + c = omega arith in
    let y₃ : a ≡ four_of a b c d / 16777216 % 256 = (let m : a ≡ a % 256 = omega arith in m ∙ ap (λ z. z % 256) (sym x₃)) in
    let y₂ : b ≡ four_of a b c d / 65536 % 256 = (let m : b ≡ (a * 256 + b) % 256 = omega arith in m ∙ ap (λ z. z % 256) (sym x₂)) in
    let y₁ : c ≡ four_of a b c d / 256 % 256 = (let m : c ≡ ((a * 256 + b) * 256 + c) % 256 = omega arith in m ∙ ap (λ z. z % 256) (sym x₁)) in
    let y₀ : d ≡ four_of a b c d % 256 = omega arith in
    ap (λ z. z ∷ b ∷ c ∷ d ∷ r) y₃
    ∙ ap (λ z. (four_of a b c d / 16777216 % 256) ∷ z ∷ c ∷ d ∷ r) y₂
    ∙ ap (λ z. (four_of a b c d / 16777216 % 256) ∷ (four_of a b c d / 65536 % 256) ∷ z ∷ d ∷ r) y₁
    ∙ ap (λ z. (four_of a b c d / 16777216 % 256) ∷ (four_of a b c d / 65536 % 256) ∷ (four_of a b c d / 256 % 256) ∷ z ∷ r) y₀

-- the operands of a command are of their widths
abbrev pub Within : Command → Type 0
Within (Begin d) = d < 4294967296
Within (Open t c) = (t < 65536) × (c < 4294967296)
Within Close = Unit {0}
Within (Value t v) = (t < 65536) × (v < 4294967296)
Within End = Unit {0}

pub record CommandAt (l : List ℕ) (k : Command) : Type 0 where
  pub rest : List ℕ
  pub bytes : l ≡ bytes_of k ++ rest
  pub within : Within k

pub cond_ways : (b : Bool) (x y : Result Command Refusal) (k : Command) → cond b x y ≡ Ok k → ((b ≡ true) × (x ≡ Ok k)) ⊎ ((b ≡ false) × (y ≡ Ok k))
cond_ways true x y k h = inl (refl, h)
cond_ways false x y k h = inr (refl, h)

pub needed : (l : List ℕ) (j k : Command) → whole l j ≡ Ok k → (width j ≤ length l) × (j ≡ k)
needed l j k h = elim (cond_ways (leb (width j) (length l)) (Ok j) (Err ShortCommand) k h)
    [ inl p ↦ (leb-true (width j) (length l) p.0, cc) | inr p ↦ let e = p.1 in absurd cc ]

-- small lists taken apart
pub begins_as : (l : List ℕ) → ((i : ℕ) → get_or l i 0 < 256) → get_or l 0 0 ≡ 1 → 5 ≤ length l → CommandAt l (Begin (four_at l 1))
begins_as [] s e h = absurd (omega arith)
begins_as (x ∷ []) s e h = absurd (omega arith)
begins_as (x ∷ a ∷ []) s e h = absurd (omega arith)
begins_as (x ∷ a ∷ b ∷ []) s e h = absurd (omega arith)
begins_as (x ∷ a ∷ b ∷ c ∷ []) s e h = absurd (omega arith)
begins_as (x ∷ a ∷ b ∷ c ∷ d ∷ r) s e h =
    let ha : a < 256 = s 1 in let hb : b < 256 = s 2 in let hc : c < 256 = s 3 in let hd : d < 256 = s 4 in
    record { rest = r; bytes = ap (λ z. z ∷ a ∷ b ∷ c ∷ d ∷ r) e ∙ ap (λ z. 1 ∷ z) (four_forth a b c d r ha hb hc hd); within = omega arith }

pub seven_as : (m : ℕ) (l : List ℕ) → ((i : ℕ) → get_or l i 0 < 256) → get_or l 0 0 ≡ m → 7 ≤ length l
    → (r : List ℕ) × (l ≡ m ∷ two (two_at l 1) (four (four_at l 3) r)) × (two_at l 1 < 65536) × (four_at l 3 < 4294967296)
seven_as m [] s e h = absurd (omega arith)
seven_as m (x ∷ []) s e h = absurd (omega arith)
seven_as m (x ∷ t ∷ []) s e h = absurd (omega arith)
seven_as m (x ∷ t ∷ u ∷ []) s e h = absurd (omega arith)
seven_as m (x ∷ t ∷ u ∷ a ∷ []) s e h = absurd (omega arith)
seven_as m (x ∷ t ∷ u ∷ a ∷ b ∷ []) s e h = absurd (omega arith)
seven_as m (x ∷ t ∷ u ∷ a ∷ b ∷ c ∷ []) s e h = absurd (omega arith)
seven_as m (x ∷ t ∷ u ∷ a ∷ b ∷ c ∷ d ∷ r) s e h =
    let ht : t < 256 = s 1 in let hu : u < 256 = s 2 in
    let ha : a < 256 = s 3 in let hb : b < 256 = s 4 in let hc : c < 256 = s 5 in let hd : d < 256 = s 6 in (
      r,
      ap (λ z. z ∷ t ∷ u ∷ a ∷ b ∷ c ∷ d ∷ r) e ∙ ap (λ z. m ∷ z) (two_forth t u (a ∷ b ∷ c ∷ d ∷ r) ht hu ∙ ap (two (t * 256 + u)) (four_forth a b c d r ha hb hc hd)),
      omega arith,
      omega arith,
    )

pub one_as : (m : ℕ) (l : List ℕ) → get_or l 0 0 ≡ m → 0 < m → (r : List ℕ) × (l ≡ m ∷ r)
one_as m [] e h = absurd (omega arith)
one_as m (x ∷ r) e h = (r, ap (λ z. z ∷ r) e)

pub command_of : (l : List ℕ) (k : Command) → ((i : ℕ) → get_or l i 0 < 256) → command_in l ≡ Ok k → CommandAt l k
command_of l k s h =
    let b : ℕ = get_or l 0 0 in
    let k₅ : Result Command Refusal = cond (eqb b 5) (whole l End) (Err UnknownCommand) in
    let k₄ : Result Command Refusal = cond (eqb b 4) (whole l (Value (two_at l 1) (four_at l 3))) k₅ in
    let k₃ : Result Command Refusal = cond (eqb b 3) (whole l Close) k₄ in
    let k₂ : Result Command Refusal = cond (eqb b 2) (whole l (Open (two_at l 1) (four_at l 3))) k₃ in
    elim (cond_ways (eqb (length l) 0) (Err ShortCommand) (by_byte b l) k h) [
      | inl p ↦ let e = p.1 in absurd cc
      | inr p ↦
          elim (cond_ways (eqb b 1) (whole l (Begin (four_at l 1))) k₂ k p.1) [
            | inl q ↦
                let n = needed l (Begin (four_at l 1)) k q.1 in
                subst (λ (j : Command). CommandAt l j) n.1 (begins_as l s (eqb-true b 1 q.0) n.0)
            | inr q ↦
                elim (cond_ways (eqb b 2) (whole l (Open (two_at l 1) (four_at l 3))) k₃ k q.1) [
                  | inl u ↦
                      let n = needed l (Open (two_at l 1) (four_at l 3)) k u.1 in
                      let v = seven_as 2 l s (eqb-true b 2 u.0) n.0 in
                      subst (λ (j : Command). CommandAt l j) n.1 (record { rest = v.0; bytes = v.1; within = (v.2, v.3) })
                  | inr u ↦
                      elim (cond_ways (eqb b 3) (whole l Close) k₄ k u.1) [
                        | inl w ↦
                            let v = one_as 3 l (eqb-true b 3 w.0) (omega arith) in
                            subst (λ (j : Command). CommandAt l j) (needed l Close k w.1).1 (record { rest = v.0; bytes = v.1; within = tt })
                        | inr w ↦
                            elim (cond_ways (eqb b 4) (whole l (Value (two_at l 1) (four_at l 3))) k₅ k w.1) [
                              | inl x ↦
                                  let n = needed l (Value (two_at l 1) (four_at l 3)) k x.1 in
                                  let v = seven_as 4 l s (eqb-true b 4 x.0) n.0 in
                                  subst (λ (j : Command). CommandAt l j) n.1 (record { rest = v.0; bytes = v.1; within = (v.2, v.3) })
                              | inr x ↦
                                  elim (cond_ways (eqb b 5) (whole l End) (Err UnknownCommand) k x.1) [
                                    | inl y ↦
                                        let v = one_as 5 l (eqb-true b 5 y.0) (omega arith) in
                                        subst (λ (j : Command). CommandAt l j) (needed l End k y.1).1 (record { rest = v.0; bytes = v.1; within = tt })
                                    | inr y ↦ let e = y.1 in absurd cc
                                  ]
                            ]
                      ]
                ]
          ]
    ]

-- a reading that comes to the end was not refused here
pub some_not : {A : Type 0} {x : A} → ◌≡◌ {A = Option A} (Some x) None → ⊥
some_not e = cc

abbrev pub on_to : Reading → Command → Reading
on_to s k = after s (done s k)

went : (s : Reading) (k : Command) (go : Reading → Whole) → (onward s (done s k) go).stop ≡ (go (on_to s k)).stop
went s (Begin d) go = refl
went s (Open t c) go = refl
went s Close go = refl
went s (Value t v) go = refl
went s End go = refl

unrefused : (j : Option Refusal) (s : Reading) (k : Command) (go : Reading → Whole) → (onward s (unless j (done s k)) go).stop ≡ None
    → (j ≡ None) × ((go (on_to s k)).stop ≡ None)
unrefused None s k go h = (refl, sym (went s k go) ∙ h)
unrefused (Some f) s k go h = absurd (some_not h)

pub by_result : (n : ℕ) (s : Reading) (r : Result Command Refusal) (go : Reading → Whole) → (onward s (move_by n s r) go).stop ≡ None
    → (k : Command) × (r ≡ Ok k) × (judge n s k ≡ None) × ((go (on_to s k)).stop ≡ None)
by_result n s (Ok k) go h = let u = unrefused (judge n s k) s k go h in (k, refl, u.0, u.1)
by_result n s (Err f) go h = absurd (some_not h)
