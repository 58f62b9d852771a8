-- Rows laid down by a step.
use Rattle.std.proofs.Common.{◌≡◌, ℕ, ◌+◌, ◌<◌, ◌≤◌, true, false, cond, ltb, leb, List, [], ◌∷◌, ◌++◌, map, length, take, drop, set, Some, None, Ok, Err, Option, Result, sym, refl, ap, ◌∙◌, subst, add-zero, zero-add, arith}
use Rattle.std.proofs.lemmas.List.{take-append-drop, append_assoc, take_more_set, drop-set-lt, length-set, length-map, take_at}
use Rattle.std.proofs.lemmas.Bool.{cond-true, lt-ltb, leb-true}
use Rattle.std.proofs.lemmas.Bool.Decides.{nat_tests}
use Rattle.nodes.specs.declared.row.Row.{Row}
use Rattle.nodes.specs.declared.node.Node.{Node}
use Rattle.nodes.specs.declared.refusal.Fault.{Fault}
use Rattle.nodes.specs.Node.{row_of}
use Rattle.paths.specs.declared.fault.StepFault.{StepFault}
use Rattle.paths.specs.declared.fault.StepFault.TheVariants.{Full, Stopped}
use Rattle.paths.specs.Drain.{drained, laid, Drained}
use Rattle.merge.specs.Turns.{Opening}
use Rattle.under.specs.Nodes.{run_ending}
use Rattle.paths.specs.declared.query.Step.{Step}
use Rattle.paths.specs.Path.{Scope, step_opening, step_nodes, step_means, ended, taken, counted, given, Laid}

abbrev ended_at : ℕ → ℕ → Option Fault → Result ℕ StepFault
ended_at k n None = Ok n
ended_at k n (Some f) = Err (Stopped k f)

drained_room : (k room n : ℕ) (ns : List Node) (e : Option Fault) → n + length ns ≤ room → drained k room n ns e ≡ ended_at k (n + length ns) e
drained_room k room n [] None h = ap Ok (omega arith)
drained_room k room n [] (Some f) h = refl
drained_room k room n (x ∷ xs) e h =
    let t : ltb n room ≡ true = lt-ltb n room (omega arith) in
    let m : n + 1 + length xs ≡ n + length (x ∷ xs) = omega arith in
    cond-true (ltb n room) _ _ t ∙ drained_room k room (n + 1) xs e (omega arith) ∙ ap (λ j. ended_at k j e) m

drained_full : (k room n : ℕ) (ns : List Node) (e : Option Fault) → n ≤ room → room < n + length ns → drained k room n ns e ≡ Err (Full k)
drained_full k room n [] e h l = absurd (omega arith)
drained_full k room n (x ∷ xs) e h l =
    elim (ltb n room) as (λ b. ltb n room ≡ b → cond b (drained k room (n + 1) xs e) (Err (Full k)) ≡ Err (Full k))
    [ true ↦ (λ t. drained_full k room (n + 1) xs e (grind (arith, nat_tests)) (omega arith)) | false ↦ (λ _. refl) ] refl

laid_room : (n : ℕ) (ns : List Node) (rows : List Row) → n + length ns ≤ length rows → laid n ns rows ≡ take n rows ++ (map row_of ns ++ drop (n + length ns) rows)
laid_room n [] rows h = sym (ap (λ j. take n rows ++ drop j rows) (add-zero n) ∙ take-append-drop n rows)
laid_room n (x ∷ xs) rows h =
    let t : ltb n (length rows) ≡ true = lt-ltb n (length rows) (omega arith) in
    let m : n + 1 + length xs ≡ n + length (x ∷ xs) = omega arith in
    let s = set rows n (row_of x) in
    cond-true (ltb n (length rows)) _ _ t ∙ laid_room (n + 1) xs s (rw (length-set rows n (row_of x)) (omega arith))
    ∙ rw (take_more_set rows n (row_of x) (omega arith), drop-set-lt (n + 1 + length xs) rows n (row_of x) (omega arith), m, append_assoc (take n rows) (row_of x ∷ []) (map row_of xs ++ drop (n + length (x ∷ xs)) rows))

counted_ended : (k : ℕ) (ns : List Node) (e : Option Fault) → counted (ended k ns e) ≡ ended_at k (length ns) e
counted_ended k ns None = refl
counted_ended k ns (Some f) = refl

given_ended : (k : ℕ) (ns : List Node) (e : Option Fault) (new : List Row) → take (length ns) new ≡ map row_of ns → take (length (given (ended k ns e))) new ≡ map row_of (given (ended k ns e))
given_ended k ns None new h = h
given_ended k ns (Some f) new h = refl

-- from a source drained into the first rows of a list to the meaning of the step
pub advanced : (k room : ℕ) (ns : List Node) (e : Option Fault) (r : Result ℕ StepFault) (to part new : List Row) → length part ≡ room → Drained k ns e r part new → Laid (taken k room ns e) r (new ++ to)
advanced k room ns e r to part new l d =
    elim (leb (length ns) room) as (λ b. leb (length ns) room ≡ b → Laid (cond b (ended k ns e) (Err (Full k))) r (new ++ to)) [
      | true ↦ (λ t.
          let h : length ns ≤ room = leb-true (length ns) room t in
          let p : drained k (length part) 0 ns e ≡ ended_at k (length ns) e = drained_room k (length part) 0 ns e (omega arith) ∙ ap (λ j. ended_at k j e) (zero-add (length ns)) in
          let q : laid 0 ns part ≡ map row_of ns ++ drop (0 + length ns) part = laid_room 0 ns part (omega arith) in
          let w : new ++ to ≡ map row_of ns ++ (drop (0 + length ns) part ++ to) = ap (λ z. z ++ to) (d.lays ∙ q) ∙ append_assoc (map row_of ns) (drop (0 + length ns) part) to in
          record {
            answers = d.answers ∙ p ∙ sym (counted_ended k ns e);
            lays = given_ended k ns e (new ++ to) (ap (take (length ns)) w ∙ take_at (map row_of ns) (drop (0 + length ns) part ++ to) (length ns) (length-map ns row_of));
          })
      | false ↦ (λ t.
          let h : room < length ns = grind (arith, nat_tests) in
          record { answers = d.answers ∙ drained_full k (length part) 0 ns e (omega arith) (omega arith); lays = refl })
    ] refl

-- the meaning of a step, from its run over what a list gives
pub step_is : (w : Scope) (k : ℕ) (s : Step) {o : Opening} {cs cs' : List Node} {ce ce' : Option Fault} → o ≡ step_opening w k s cs ce → cs ≡ cs' → ce ≡ ce' → taken k w.room (step_nodes k o) (run_ending o) ≡ step_means w k s cs' ce'
step_is w k s e p q = ap (λ (o : Opening). taken k w.room (step_nodes k o) (run_ending o)) (e ∙ λ i. step_opening w k s (p i) (q i))

pub meant : {F : Type 0} {m m' : Result (List Node) F} {r : Result ℕ F} {new : List Row} → m ≡ m' → Laid m r new → Laid m' r new
meant {r = r} {new = new} e a = subst (λ z. Laid z r new) e a
