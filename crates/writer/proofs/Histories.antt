use Rattle.std.proofs.Common.{◌≡◌, ℕ, List, [], ◌∷◌, ◌++◌, sym, refl, ap, ◌∙◌, subst, arith}
use Rattle.tapes.specs.Draft.{Draft, between}
use Rattle.writer.specs.Views.{out, ins}
use Rattle.writer.specs.Calls.{Answer, put_in, answers}
use Rattle.writer.specs.Turns.{State, Holds, Made}
use Rattle.writer.specs.Histories
use Rattle.writer.specs.Histories.{Called, History, fresh, then, EveryHistory}
use Rattle.writer.specs.declared.call.WriterCall.{WriterCall}
use Rattle.writer.proofs.Steps.{begin_ok, begin_err, open_made, value_made, close_made, end_ok, end_err}
use Rattle.writer.proofs.PutIn.{put_snoc, answers_snoc}
use Rattle.writer.proofs.Whole.{writes}

-- a call by its contract is a call on what was put in
called : (old bs bs' : List ℕ) {s s' : State} {c : WriterCall} {a : Answer} (d : Draft) → Holds old bs s d → Called bs bs' s c s' a → Made old bs' s' d c a
called old bs bs' d i (Histories.begun w v m b) = begin_ok old bs bs' (out w) d m v i b
called old bs bs' d i (Histories.not-begun w e m b) = begin_err old bs bs' (out w) d m e i b
called old bs bs' d i (Histories.opened w v t r h b) = open_made old bs bs' (ins w) (ins v) d t r h i b
called old bs bs' d i (Histories.valued w v t n r h k b) = value_made old bs bs' (ins w) (ins v) d t n r h k i b
called old bs bs' d i (Histories.closed w v r b) = close_made old bs bs' (ins w) (ins v) d r i b
called old bs bs' d i (Histories.ended w v b) = end_ok old bs bs' (ins w) d v i b
called old bs bs' d i (Histories.not_ended w e b) = end_err old bs bs' (ins w) d e i b

holds : (old : List ℕ) {cs : List WriterCall} {bs : List ℕ} {s : State} {got : List Answer} → History old cs bs s got → Holds old bs s (put_in old cs)
holds old fresh = record { bytes = refl; stands = refl; fits = omega arith; short = omega arith; fine = tt }
holds old (then {cs = cs} {bs = bs} {bs' = bs'} {s' = s'} {c = c} h k) =
    subst (λ (x : Draft). Holds old bs' s' x) (sym (put_snoc old (between []) cs c)) (called old bs bs' (put_in old cs) (holds old h) k).holds

answered : (old : List ℕ) {cs : List WriterCall} {bs : List ℕ} {s : State} {got : List Answer} → History old cs bs s got → got ≡ answers old cs
answered old fresh = refl
answered old (then {cs = cs} {bs = bs} {bs' = bs'} {c = c} {a = a} h k) =
    ap (λ g. g ++ (a ∷ [])) (answered old h)
    ∙ ap (λ z. answers old cs ++ (z ∷ [])) (called old bs bs' (put_in old cs) (holds old h) k).answers
    ∙ sym (answers_snoc old (between []) cs c)

pub every_history : EveryHistory
every_history old cs new s got h = writes cs old new s got _ (holds old h) (answered old h) refl
