-- The steps of a query keep the law.
use Rattle.std.proofs.Common.{◌≡◌, ℕ, zero, suc, ◌+◌, ◌<◌, ◌≤◌, Bool, true, false, eqb, leb, List, [], ◌∷◌, length, drop, Some, None, Ok, Err, filter, Option, Result, sym, refl, ap, ◌∙◌, subst, add-one, arith}
use Rattle.std.proofs.lemmas.List.{drop_more, drop_all, length-drop}
use Rattle.std.proofs.lemmas.Bool.{ne_eqb, cond-true, cond-false, le-leb, leb-true}
use Rattle.std.proofs.lemmas.Bool.Decides.{nat_tests}
use Rattle.nodes.specs.declared.node.Node.{Node}
use Rattle.nodes.specs.declared.refusal.Fault.{Fault}
use Rattle.nodes.specs.declared.refusal.Refusal.TheVariants.{ListFull}
use Rattle.under.specs.Nodes.{is_paired, first_fits, paired_nodes, first_nodes, run_ending}
use Rattle.paths.specs.declared.fault.PathFault.TheVariants.{Own, Step}
use Rattle.paths.specs.declared.fault.StepFault.{StepFault}
use Rattle.paths.specs.declared.fault.StepFault.TheVariants.{Full, Stopped}
use Rattle.paths.specs.declared.query.Step.{Step as Asked}
use Rattle.paths.specs.Path.{Scope, ended, taken, onward, walk_over, walk}
use Rattle.paths.specs.Law.{Exactly, step_at, Fits, run_at, fitting, Reached, Stops, Crowded, MoreFit, QueryOf, PathLaw, too_many, stopped, answered}
use Rattle.under.specs.Law.{Holds, InTreeOrder}
use Rattle.under.proofs.Held.{holds_kept, kept_holds, order_kept}
use Rattle.paths.proofs.Exact.{paired_holds, holds_paired, first_is, is_first, from_holds, fitted_run, ended_run}

module _ (w : Scope) (ss : List Asked) where
  -- the list of a step's tag
  abbrev list_at : ℕ → List Node
  list_at i = w.list_of (step_at ss i).tag

  -- the nodes of a step that was run to its end are exactly those that fit
  pub exact : (i : ℕ) (ns : List Node) → Reached w ss i ns → Exactly (Fits w.list_of ss i) ns
  exact zero ns h = subst (Exactly (Fits w.list_of ss zero)) (sym h) (record { rises = tt; only = λ n i. i; every = λ n i. i })
  exact (suc zero) ns (cs, r, e, g, l) =
      let p : Node → Bool = λ d. first_fits (step_at ss 0).axis d.level in
      let f = ended_run (run_at w ss 0 cs) e in
      let q : ns ≡ filter p (list_at 0) = g ∙ f.firsts in
      record {
        rises = subst InTreeOrder (sym q) (order_kept p (list_at 0) f.order);
        only = λ n i. let k = kept_holds p (list_at 0) n (subst (λ (z : List Node). Holds z n) q i) in (k.0, first_is (step_at ss 0).axis n k.1);
        every = λ n i. subst (λ (z : List Node). Holds z n) (sym q) (holds_kept p (list_at 0) n i.0 (is_first (step_at ss 0).axis n i.1));
      }
  exact (suc (suc k)) ns (cs, r, e, g, l) =
      let c = exact (suc k) cs r in
      let axis = (step_at ss (suc k)).axis in
      let p : Node → Bool = is_paired axis cs in
      let f = ended_run (run_at w ss (suc k) cs) e in
      let z : eqb (suc k + 1) 1 ≡ false = ne_eqb (suc k + 1) 1 (λ x. omega arith) in
      let q : ns ≡ filter p (list_at (suc k)) = g ∙ cond-false (eqb (suc k + 1) 1) (first_nodes (run_at w ss (suc k) cs)) (paired_nodes (run_at w ss (suc k) cs)) z ∙ f.pairs in
      record {
        rises = subst InTreeOrder (sym q) (order_kept p (list_at (suc k)) f.order);
        only = λ n i.
            let a = kept_holds p (list_at (suc k)) n (subst (λ (x : List Node). Holds x n) q i) in
            let m = paired_holds axis cs n a.1 in
            (a.0, (m.0, c.only m.0 m.1, m.2));
        every = λ n i. subst (λ (x : List Node). Holds x n) (sym q) (holds_kept p (list_at (suc k)) n i.0 (holds_paired axis cs n i.1.0 (c.every i.1.0 i.1.1) i.1.2));
      }

  -- the nodes of any step fit it, in tree order
  more_fit : (i : ℕ) (cs : List Node) → Reached w ss i cs → w.room < length (fitting w ss i cs) → MoreFit w ss i
  more_fit zero cs r l =
      let f = fitted_run (run_at w ss 0 cs) in
      (fitting w ss 0 cs, l, f.firsts_order, from_holds (Fits w.list_of ss 1) (fitting w ss 0 cs) f.firsts_fit)
  more_fit (suc k) cs r l =
      let f = fitted_run (run_at w ss (suc k) cs) in
      let c = exact (suc k) cs r in
      let z : eqb (suc k + 1) 1 ≡ false = ne_eqb (suc k + 1) 1 (λ x. omega arith) in
      let q : fitting w ss (suc k) cs ≡ paired_nodes (run_at w ss (suc k) cs) = cond-false (eqb (suc k + 1) 1) (first_nodes (run_at w ss (suc k) cs)) (paired_nodes (run_at w ss (suc k) cs)) z in (
        paired_nodes (run_at w ss (suc k) cs),
        subst (λ (x : List Node). w.room < length x) q l,
        f.pairs_order,
        from_holds (Fits w.list_of ss (suc (suc k))) (paired_nodes (run_at w ss (suc k) cs)) (λ n i. let a = f.pairs_fit n i in (a.0, (a.1.0, c.only a.1.0 a.1.1, a.1.2))),
      )

  step_cons : (k : ℕ) → k < length ss → drop k ss ≡ step_at ss k ∷ drop (k + 1) ss
  step_cons k h = drop_more ss k _ h

  taken_ok : (j : ℕ) (ns : List Node) (e : Option Fault) → length ns ≤ w.room → taken j w.room ns e ≡ ended j ns e
  taken_ok j ns e h = cond-true (leb (length ns) w.room) _ _ (le-leb (length ns) w.room h)

  taken_full : (j : ℕ) (ns : List Node) (e : Option Fault) → w.room < length ns → taken j w.room ns e ≡ Err (Full j)
  taken_full j ns e h = let f : leb (length ns) w.room ≡ false = grind (arith, nat_tests) in cond-false (leb (length ns) w.room) _ _ f

  -- one step of a walk
  at_step : (k : ℕ) (cs : List Node) (t : Result (List Node) StepFault) → k < length ss → taken (k + 1) w.room (fitting w ss k cs) (run_ending (run_at w ss k cs)) ≡ t
      → walk_over w (k + 1) (drop k ss) cs ≡ onward t (λ ns. walk_over w (suc k + 1) (drop (suc k) ss) ns)
  at_step k cs t h e =
      ap (λ z. walk_over w (k + 1) z cs) (step_cons k h)
      ∙ ap (λ z. onward z (λ ns. walk_over w (k + 1 + 1) (drop (k + 1) ss) ns)) e
      ∙ ap (λ j. onward t (λ ns. walk_over w (j + 1) (drop j ss) ns)) (add-one k)

  -- a walk is what is left of it after the steps that were reached
  unrolls : (k : ℕ) (cs : List Node) → k ≤ length ss → Reached w ss k cs → walk w ss ≡ walk_over w (k + 1) (drop k ss) cs
  unrolls zero cs h r = ap (walk_over w 1 ss) (sym r)
  unrolls (suc k) ns h (cs, r, e, g, l) =
      let t : taken (k + 1) w.room (fitting w ss k cs) (run_ending (run_at w ss k cs)) ≡ Ok ns =
      taken_ok (k + 1) (fitting w ss k cs) (run_ending (run_at w ss k cs)) (subst (λ z. length z ≤ w.room) g l) ∙ ap (ended (k + 1) (fitting w ss k cs)) e ∙ ap Ok (sym g) in
      unrolls k cs (omega arith) r ∙ at_step k cs (Ok ns) (omega arith) t

  -- what each way through the steps gives
  pub gives_nodes : (ns : List Node) → Reached w ss (length ss) ns → walk w ss ≡ Ok ns
  gives_nodes ns r = unrolls (length ss) ns (omega arith) r ∙ ap (λ z. walk_over w (length ss + 1) z ns) (drop_all (length ss) ss (omega arith))

  pub gives_stop : (i : ℕ) (f : Fault) → i < length ss → Stops w ss i f → walk w ss ≡ Err (Step (i + 1) f)
  gives_stop i f h (cs, r, e, l) = unrolls i cs (omega arith) r ∙ at_step i cs (Err (Stopped (i + 1) f)) h (taken_ok (i + 1) (fitting w ss i cs) _ l ∙ ap (ended (i + 1) (fitting w ss i cs)) e)

  pub gives_full : (i : ℕ) → i < length ss → Crowded w ss i → walk w ss ≡ Err (Own ListFull (i + 1))
  gives_full i h (cs, r, l) = unrolls i cs (omega arith) r ∙ at_step i cs (Err (Full (i + 1))) h (taken_full (i + 1) (fitting w ss i cs) _ l)

  module _ (bytes : List ℕ) (q : QueryOf ss bytes) where
    law_from : (rest : List Asked) (k : ℕ) (cs : List Node) → drop k ss ≡ rest → k ≤ length ss → Reached w ss k cs → PathLaw w bytes (walk w ss)
    law_from [] k cs e h r =
        let n : length ss ≤ k = omega (arith, length-drop k ss, ap length e) in
        let d : k ≡ length ss = omega arith in
        let x : Reached w ss (length ss) cs = subst (λ z. Reached w ss z cs) d r in
        answered ss cs q x (exact (length ss) cs x) (gives_nodes cs x)
    law_from (s ∷ rest) k cs e h r =
        let less : k < length ss = omega (arith, length-drop k ss, ap length e) in
        go (leb (length (fitting w ss k cs)) w.room) refl (run_ending (run_at w ss k cs)) refl less
        (λ ns x. law_from rest (suc k) ns (let y : step_at ss k ∷ drop (k + 1) ss ≡ s ∷ rest = sym (step_cons k less) ∙ e in ap (λ j. drop j ss) (sym (add-one k)) ∙ (cc)) (omega arith) x)
      where
        go : (b : Bool) → leb (length (fitting w ss k cs)) w.room ≡ b → (v : Option Fault) → run_ending (run_at w ss k cs) ≡ v → k < length ss
            → ((ns : List Node) → Reached w ss (suc k) ns → PathLaw w bytes (walk w ss))
            → PathLaw w bytes (walk w ss)
        go false x v y less ih =
            let m : w.room < length (fitting w ss k cs) = grind (arith, nat_tests) in
            too_many ss k q less (cs, r, m) (more_fit k cs r m) (gives_full k less (cs, r, m))
        go true x None y less ih = ih (fitting w ss k cs) (cs, r, y, refl, leb-true (length (fitting w ss k cs)) w.room x)
        go true x (Some f) y less ih =
            let m : length (fitting w ss k cs) ≤ w.room = leb-true (length (fitting w ss k cs)) w.room x in
            stopped ss k f q less (cs, r, y, m) (gives_stop k f less (cs, r, y, m))

    pub steps_law : PathLaw w bytes (walk w ss)
    steps_law = law_from ss zero [] refl (omega arith) refl
