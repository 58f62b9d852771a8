use Rattle.std.proofs.Common.{◌≡◌, ℕ, ◌<◌, length, Some, None, Ok, Err, sym, refl, ap, ◌∙◌, subst, arith}
use Rattle.nodes.specs.Whole.{stopped, more}
use Rattle.nodes.specs.declared.refusal.Refusal.{Refusal}
use Rattle.nodes.specs.declared.refusal.Refusal.TheVariants.{Misplaced}
use Rattle.nodes.specs.declared.tagged.Tagged.{Tagged}
use Rattle.tapes.specs.declared.stage.Stage.{Stage}
use Rattle.tapes.specs.declared.stage.Stage.TheVariants.{Outside, Begun, Rooted}
use Rattle.tapes.specs.declared.reader.Reader.{Reader}
use Rattle.tapes.specs.Reading.{Reading, Move, refused, moved, made, step, onward, end_at, reads}
use Rattle.tapes.specs.Source.{reading, left, Moves}
use Rattle.tapes.proofs.Onward.{Forward, forward, reads-step}

-- what one step of a reader brings
module _ (s t : Reader) (inside : s.at < length s.bytes.now) where
  left_step : (m : Move) → m ≡ step s.bytes.now (reading s) → left s ≡ onward (reading s) m (reads s.bytes.now)
  left_step m e = reads-step s.bytes.now (reading s) inside ∙ ap (λ x. onward (reading s) x (reads s.bytes.now)) (sym e)

  left_at : (u : Reading) → t.bytes ≡ s.bytes → reading t ≡ u → left t ≡ reads s.bytes.now u
  left_at u b e = ap (λ x. reads x.now (reading t)) b ∙ ap (reads s.bytes.now) e

  ahead : (m : Move) → m ≡ step s.bytes.now (reading s) → Forward (reading s) m
  ahead m e = subst (Forward (reading s)) (sym e) (forward s.bytes.now (reading s))

  none_by : (m : Move) → m ≡ step s.bytes.now (reading s) → Moves m s (Ok None) t → (left s ≡ left t) × (s.at < t.at)
  none_by (refused f) e h = absurd (let a = h.answers in cc)
  none_by (made x u) e h = absurd (let a = h.answers in cc)
  none_by (moved u) e h = (
    left_step (moved u) e ∙ sym (left_at u h.bytes h.stands),
    let p : s.at < u.at = ahead (moved u) e in let q : t.at ≡ u.at = ap (λ (x : Reading). x.at) h.stands in omega arith,
  )

  some_by : (m : Move) (x : Tagged) → m ≡ step s.bytes.now (reading s) → Moves m s (Ok (Some x)) t → (left s ≡ more x (left t)) × (s.at < t.at)
  some_by (refused f) x e h = absurd (let a = h.answers in cc)
  some_by (moved u) x e h = absurd (let a = h.answers in cc)
  some_by (made y u) x e h =
      let a = h.answers in
      let yx : y ≡ x = cc in (
        left_step (made y u) e ∙ ap (more y) (sym (left_at u h.bytes h.stands)) ∙ ap (λ z. more z (left t)) yx,
        let p : s.at < u.at = ahead (made y u) e in let q : t.at ≡ u.at = ap (λ (x : Reading). x.at) h.stands in omega arith,
      )

  err_by : (m : Move) (f : Refusal) → m ≡ step s.bytes.now (reading s) → Moves m s (Err f) t → (left s ≡ stopped f t.at) × (left t ≡ left s) × (t.at ≡ s.at)
  err_by (moved u) f e h = absurd (let a = h.answers in cc)
  err_by (made x u) f e h = absurd (let a = h.answers in cc)
  err_by (refused g) f e h =
      let a = h.answers in
      let gf : g ≡ f = cc in (
        left_step (refused g) e ∙ ap (λ z. stopped z s.at) gf ∙ ap (λ (x : Reading). stopped f x.at) (sym h.stands),
        left_at (reading s) h.bytes h.stands,
        ap (λ (x : Reading). x.at) h.stands,
      )

  pub on_none : Moves (step s.bytes.now (reading s)) s (Ok None) t → (left s ≡ left t) × (s.at < t.at)
  on_none = none_by _ refl

  pub on_some : (x : Tagged) → Moves (step s.bytes.now (reading s)) s (Ok (Some x)) t → (left s ≡ more x (left t)) × (s.at < t.at)
  on_some x = some_by _ x refl

  pub on_err : (f : Refusal) → Moves (step s.bytes.now (reading s)) s (Err f) t → (left s ≡ stopped f t.at) × (left t ≡ left s) × (t.at ≡ s.at)
  on_err f = err_by _ f refl

pub not-outside : (g : Stage) (n : ℕ) → (g ≡ Outside → ⊥) → end_at g n ≡ stopped Misplaced n
not-outside Outside n h = absurd (h refl)
not-outside Begun n h = refl
not-outside Rooted n h = refl
