-- The law of paths: it holds of what a path gives, and leaves one answer.
use Rattle.std.proofs.Common.{◌≡◌, ℕ, zero, suc, ◌+◌, ◌*◌, ◌/◌, ◌%◌, ◌≤◌, Bool, true, false, cond, ◌&&◌, eqb, leb, List, [], ◌∷◌, length, Some, None, Ok, Err, Option, Result, sym, refl, ap, ◌∙◌, subst, arith}
use Rattle.std.proofs.lemmas.Bool.{eq-eqb, eqb-true, le-leb, leb-true, and_parts, and_from}
use Rattle.nodes.specs.declared.node.Node.{Node}
use Rattle.nodes.specs.declared.refusal.Refusal.TheVariants.{QueryLength, QueryCommand}
use Rattle.merge.specs.declared.pair.Axis.{Axis}
use Rattle.merge.specs.declared.pair.Axis.TheVariants.{Child, Descendant}
use Rattle.merge.proofs.Judging.{never}
use Rattle.paths.specs.declared.fault.PathFault.{PathFault}
use Rattle.paths.specs.declared.fault.PathFault.TheVariants.{Own}
use Rattle.paths.specs.Query.{code, axis_of, step_of, before, step_then, steps_from, in_steps}
use Rattle.paths.specs.declared.query.Step.{Step as Asked}
use Rattle.paths.specs.Path.{Scope, asked, walk, path_means, counted, shown}
use Rattle.paths.specs.Law.{Written, QueryOf, WholeSteps, FirstBad, PathLaw, no_query, no_command, too_many, stopped, answered, OneAnswer}
use Rattle.paths.proofs.Lawful.{gives_nodes, gives_stop, gives_full, steps_law}

axis_code : (c : ℕ) (a : Axis) → axis_of c ≡ Some a → c ≡ code a
axis_code c a h = go (eqb c 33) refl (eqb c 34) refl a h
  where
    go : (x : Bool) → eqb c 33 ≡ x → (y : Bool) → eqb c 34 ≡ y → (a : Axis) → cond x (Some Child) (cond y (Some Descendant) None) ≡ Some a → c ≡ code a
    go true p y q a e = eqb-true c 33 p ∙ (let f : Child ≡ a = cc in ap code f)
    go false p true q a e = eqb-true c 34 q ∙ (let f : Descendant ≡ a = cc in ap code f)
    go false p false q a e = never (cc)

code_axis : (a : Axis) → axis_of (code a) ≡ Some a
code_axis Child = refl
code_axis Descendant = refl

no_axis : (c : ℕ) → axis_of c ≡ None → (a : Axis) → c ≡ code a → ⊥
no_axis c h a e = let f : Some a ≡ None = sym (code_axis a) ∙ ap axis_of (sym e) ∙ h in never (cc)

-- what reading whole steps says: they are written there, or the first command that is none
pub data Reads (k : ℕ) (bytes : List ℕ) (r : Result (List Asked) PathFault) : Type 0 where
  reads-steps : (ss : List Asked) → Written ss bytes → 3 * length ss ≡ length bytes → r ≡ Ok ss → Reads k bytes r
  reads_none : (i : ℕ) → FirstBad i bytes → r ≡ Err (Own QueryCommand (k + i)) → Reads k bytes r

reads_more : (k c h l : ℕ) (bs : List ℕ) (a : Axis) → c ≡ code a → (r : Result (List Asked) PathFault) → Reads (k + 1) bs r → Reads k (c ∷ (h ∷ (l ∷ bs))) (before (step_of a h l ∷ []) r)
reads_more k c h l bs a e r (reads-steps ss u n q) = reads-steps (step_of a h l ∷ ss) (e, refl, u) (omega (arith, n)) (ap (before (step_of a h l ∷ [])) q)
reads_more k c h l bs a e r (reads_none i b q) =
    let n : k + 1 + i ≡ k + suc i = omega arith in
    reads_none (suc i) ((a, e), b) (ap (before (step_of a h l ∷ [])) q ∙ ap (λ z. Err (Own QueryCommand z)) n)

reads : (k : ℕ) (bytes : List ℕ) → length bytes % 3 ≡ 0 → Reads k bytes (steps_from k bytes)
reads k [] h = reads-steps [] tt refl refl
reads k (c ∷ []) h = never (omega arith)
reads k (c ∷ (x ∷ [])) h = never (omega arith)
reads k (c ∷ (x ∷ (y ∷ bs))) h = go (axis_of c) refl (reads (k + 1) bs (omega arith))
  where
    go : (v : Option Axis) → axis_of c ≡ v → Reads (k + 1) bs (steps_from (k + 1) bs) → Reads k (c ∷ (x ∷ (y ∷ bs))) (step_then k v x y (steps_from (k + 1) bs))
    go None e ih = let n : k ≡ k + zero = omega arith in reads_none zero (no_axis c e) (ap (λ z. Err (Own QueryCommand z)) n)
    go (Some a) e ih = reads_more k c x y bs a (axis_code c a e) (steps_from (k + 1) bs) ih

-- what is written is read
rereads : (k : ℕ) (ss : List Asked) (bytes : List ℕ) → Written ss bytes → (steps_from k bytes ≡ Ok ss) × (3 * length ss ≡ length bytes)
rereads k [] [] w = (refl, refl)
rereads k [] (b ∷ bs) w = absurd w
rereads k (s ∷ ss) [] w = absurd w
rereads k (s ∷ ss) (c ∷ []) w = absurd w
rereads k (s ∷ ss) (c ∷ (h ∷ [])) w = absurd w
rereads k (s ∷ ss) (c ∷ (h ∷ (l ∷ bs))) (p, q, w) =
    let i = rereads (k + 1) ss bs w in
    let a : axis_of c ≡ Some s.axis = ap axis_of p ∙ code_axis s.axis in
    let t : step_of s.axis h l ≡ s = λ j. record { axis = s.axis; tag = sym q j } in
    (ap (λ v. step_then k v h l (steps_from (k + 1) bs)) a ∙ ap (before (step_of s.axis h l ∷ [])) i.0 ∙ ap (λ z. Ok (z ∷ ss)) t, omega (arith, i.1))

in_steps_lem : (n : ℕ) → in_steps n ≡ true → WholeSteps n
in_steps_lem n h =
    let a = and_parts (leb 3 n) (leb n 24 && eqb (n % 3) 0) h in
    let b = and_parts (leb n 24) (eqb (n % 3) 0) a.1 in
    let x : 3 ≤ n = leb-true 3 n a.0 in
    let y : n ≤ 24 = leb-true n 24 b.0 in
    let z : n % 3 ≡ 0 = eqb-true (n % 3) 0 b.1 in
    (n / 3, omega arith, omega arith, omega arith)

steps_in_lem : (n j : ℕ) → 1 ≤ j → j ≤ 8 → n ≡ 3 * j → in_steps n ≡ true
steps_in_lem n j a b e = and_from _ _ (le-leb 3 n (omega arith)) (and_from _ _ (le-leb n 24 (omega arith)) (eq-eqb (n % 3) 0 (omega arith)))

no_steps : (n : ℕ) → in_steps n ≡ false → WholeSteps n → ⊥
no_steps n h (j, a, b, e) = let f : true ≡ false = sym (steps_in_lem n j a b e) ∙ h in never (cc)

axis_none : (c : ℕ) → ((a : Axis) → c ≡ code a → ⊥) → axis_of c ≡ None
axis_none c h = go (axis_of c) refl
  where
    go : (v : Option Axis) → axis_of c ≡ v → v ≡ None
    go None e = refl
    go (Some a) e = absurd (h a (axis_code c a e))

-- the first command that is none is met
rebad : (k i : ℕ) (bytes : List ℕ) → FirstBad i bytes → steps_from k bytes ≡ Err (Own QueryCommand (k + i))
rebad k i [] w = absurd w
rebad k i (c ∷ []) w = absurd w
rebad k i (c ∷ (h ∷ [])) w = absurd w
rebad k zero (c ∷ (h ∷ (l ∷ bs))) w = ap (λ v. step_then k v h l (steps_from (k + 1) bs)) (axis_none c w) ∙ ap (λ z. Err (Own QueryCommand z)) (omega arith)
rebad k (suc i) (c ∷ (h ∷ (l ∷ bs))) ((a, e), w) =
    let n : k + 1 + i ≡ k + suc i = omega arith in
    ap (λ v. step_then k v h l (steps_from (k + 1) bs)) (ap axis_of e ∙ code_axis a) ∙ ap (before (step_of a h l ∷ [])) (rebad (k + 1) i bs w) ∙ ap (λ z. Err (Own QueryCommand z)) n

not_in_steps : (n : ℕ) → (WholeSteps n → ⊥) → in_steps n ≡ false
not_in_steps n h = go (in_steps n) refl
  where
    go : (b : Bool) → in_steps n ≡ b → b ≡ false
    go true e = absurd (h (in_steps_lem n e))
    go false e = refl

module _ (w : Scope) (bytes : List ℕ) where
  -- what a path gives, by its length test and its reading
  by_length : (b : Bool) → in_steps (length bytes) ≡ b → path_means w bytes ≡ asked (cond b (steps_from 1 bytes) (Err (Own QueryLength 0))) (walk w)
  by_length b e = ap (λ x. asked (cond x (steps_from 1 bytes) (Err (Own QueryLength 0))) (walk w)) e

  by_reading : WholeSteps (length bytes) → (r : Result (List Asked) PathFault) → steps_from 1 bytes ≡ r → path_means w bytes ≡ asked r (walk w)
  by_reading n r e = by_length true (steps_in_lem (length bytes) n.0 n.1 n.2 n.3) ∙ ap (λ z. asked z (walk w)) e

  by_query : (ss : List Asked) → QueryOf ss bytes → path_means w bytes ≡ walk w ss
  by_query ss q =
      let r = rereads 1 ss bytes q.written in
      by_reading (length ss, q.some, q.few, sym r.1) (Ok ss) r.0

  none_law : (i : ℕ) → WholeSteps (length bytes) → FirstBad i bytes → path_means w bytes ≡ Err (Own QueryCommand (i + 1))
  none_law i n b = let e : 1 + i ≡ i + 1 = omega arith in by_reading n (Err (Own QueryCommand (1 + i))) (rebad 1 i bytes b) ∙ ap (λ z. Err (Own QueryCommand z)) e

  read_law : WholeSteps (length bytes) → Reads 1 bytes (steps_from 1 bytes) → PathLaw w bytes (path_means w bytes)
  read_law n (reads-steps ss u l e) =
      let q : QueryOf ss bytes = record { some = omega (arith, n.1, n.2, n.3, l); few = omega (arith, n.1, n.2, n.3, l); written = u } in
      subst (PathLaw w bytes) (sym (by_query ss q)) (steps_law w ss bytes q)
  read_law n (reads_none i b e) = no_command i n b (none_law i n b)

  pub path_law : PathLaw w bytes (path_means w bytes)
  path_law = go (in_steps (length bytes)) refl
    where
      go : (b : Bool) → in_steps (length bytes) ≡ b → PathLaw w bytes (path_means w bytes)
      go true e = let n = in_steps_lem (length bytes) e in let z : length bytes % 3 ≡ 0 = omega (arith, n.3) in read_law n (reads 1 bytes z)
      go false e = no_query (no_steps (length bytes) e) (by_length false e)

  -- whatever keeps the law is what the path gives
  only_answer : (m : Result (List Node) PathFault) → PathLaw w bytes m → m ≡ path_means w bytes
  only_answer m (no_query h e) = e ∙ sym (by_length false (not_in_steps (length bytes) h))
  only_answer m (no_command i n b e) = e ∙ sym (none_law i n b)
  only_answer m (too_many ss i q l x y e) = e ∙ sym (by_query ss q ∙ gives_full w ss i l x)
  only_answer m (stopped ss i f q l x e) = e ∙ sym (by_query ss q ∙ gives_stop w ss i f l x)
  only_answer m (answered ss ns q x y e) = e ∙ sym (by_query ss q ∙ gives_nodes w ss ns x)

pub one_answer : OneAnswer
one_answer w bytes entry exit exit' r r' (m, l, a) (m', l', a') =
    let e : m ≡ m' = only_answer w bytes m l ∙ sym (only_answer w bytes m' l') in
    let p : exit.answer ≡ exit'.answer = a.shows ∙ ap (λ z. shown z (length entry.answer)) e ∙ sym a'.shows in
    let q : exit.spare ≡ exit'.spare = a.blanks ∙ sym a'.blanks in
    (a.answers ∙ ap counted e ∙ sym a'.answers, λ i. record { answer = p i; spare = q i })
