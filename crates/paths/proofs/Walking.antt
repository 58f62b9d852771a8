-- The walk through the steps, its rows and its lists.
use Rattle.std.proofs.Common.{◌≡◌, ℕ, ◌+◌, ◌-◌, ◌<◌, ◌≤◌, true, false, cond, leb, List, [], ◌∷◌, ◌++◌, map, length, get_or, take, drop, replicate, Some, None, Ok, Err, Option, Result, sym, refl, ap, ◌∙◌, subst, arith}
use Rattle.std.proofs.lemmas.List.{length-map, drop_more, length-take-le, length-take, drop_all}
use Rattle.std.specs.Result.{result_unwrap_or}
use Rattle.std.proofs.lemmas.Bool.{leb-true}
use Rattle.nodes.specs.declared.row.Row.{Row}
use Rattle.nodes.specs.declared.node.Node.{Node}
use Rattle.nodes.specs.declared.refusal.Fault.{Fault}
use Rattle.nodes.specs.Node.{row_of}
use Rattle.nodes.proofs.Made.{node_of_row}
use Rattle.nodes.specs.Rows.{nodes_in, end_in, cons_ok, fault_or}
use Rattle.paths.specs.declared.fault.StepFault.{StepFault}
use Rattle.paths.specs.declared.fault.StepFault.TheVariants.{Full}
use Rattle.paths.specs.declared.fault.PathFault.{PathFault}
use Rattle.paths.specs.declared.query.Step.{Step}
use Rattle.paths.specs.Faults.{as_path_fault}
use Rattle.paths.specs.Path.{Scope, ended, taken, step_means, onward, walk_over, given, Laid, shown, blank_row, blank_from}

-- rows that are nodes, all of them
abbrev pub Clean : List Row → Type 0
Clean rows = map row_of (nodes_in rows) ≡ rows

pub nodes_back : (ns : List Node) → nodes_in (map row_of ns) ≡ ns
nodes_back [] = refl
nodes_back (n ∷ ns) = ap (λ z. cons_ok z (nodes_in (map row_of ns))) (node_of_row n) ∙ ap (λ z. n ∷ z) (nodes_back ns)

pub ends_back : (name at : ℕ) (ns : List Node) → end_in name at (map row_of ns) ≡ None
ends_back name at [] = refl
ends_back name at (n ∷ ns) = ap (λ z. fault_or z name at (end_in name (at + 1) (map row_of ns))) (node_of_row n) ∙ ends_back name (at + 1) ns

pub clean_ends : (name at : ℕ) (rows : List Row) → Clean rows → end_in name at rows ≡ None
clean_ends name at rows c = ap (end_in name at) (sym c) ∙ ends_back name at (nodes_in rows)

pub clean_length : (rows : List Row) → Clean rows → length (nodes_in rows) ≡ length rows
clean_length rows c = sym (length-map (nodes_in rows) row_of) ∙ ap length c

pub taken_room : (k room : ℕ) (ns : List Node) (e : Option Fault) → length (given (taken k room ns e)) ≤ room
taken_room k room ns e =
    elim (leb (length ns) room) as (λ b. leb (length ns) room ≡ b → length (given (cond b (ended k ns e) (Err (Full k)))) ≤ room)
    [ true ↦ (λ t. elim e as (λ z. length (given (ended k ns z)) ≤ room) [ None ↦ leb-true (length ns) room t | Some f ↦ omega arith ]) | false ↦ (λ _. omega arith) ] refl

pub record Went (more : List Node → Result (List Node) PathFault) (M : Result (List Node) StepFault) (new : List Row) (m : ℕ) : Type 0 where
  pub goes : more (nodes_in (take m new)) ≡ onward M more
  pub clean : Clean (take m new)
  pub counts : m ≡ length (given M)

on_ok : (more : List Node → Result (List Node) PathFault) (M : Result (List Node) StepFault) (r : Result ℕ StepFault) (new : List Row) (m : ℕ) → Laid M r new → r ≡ Ok m → Went more M new m
on_ok more (Ok ns) r new m a o =
    let e : m ≡ length ns = cc a.answers in
    let t : take m new ≡ map row_of ns = ap (λ j. take j new) e ∙ a.lays in
    let b : nodes_in (take m new) ≡ ns = ap nodes_in t ∙ nodes_back ns in
    record { goes = ap more b; clean = ap (map row_of) b ∙ sym t; counts = e }
on_ok more (Err f) r new m a o = let z : ◌≡◌ {A = ℕ} 0 1 = cc a.answers in absurd (omega arith)

on_err : (more : List Node → Result (List Node) PathFault) (M : Result (List Node) StepFault) (r : Result ℕ StepFault) (new : List Row) (f : StepFault) → Laid M r new → r ≡ Err f → onward M more ≡ Err (as_path_fault f)
on_err more (Ok ns) r new f a o = let z : ◌≡◌ {A = ℕ} 0 1 = cc a.answers in absurd (omega arith)
on_err more (Err g) r new f a o = let e : g ≡ f = cc a.answers in ap (λ z. Err (as_path_fault z)) e

module _ (w : Scope) where
  -- what is left of a walk before its step i + 1: it gives what the whole gives
  pub record On (ss : List Step) (i n : ℕ) (from : List Row) (m : Result (List Node) PathFault) : Type 0 where
    pub left : walk_over w (i + 1) (drop i ss) (nodes_in (take n from)) ≡ m
    pub clean : Clean (take n from)
    pub fits : n ≤ w.room

  module _ {ss : List Step} {i n : ℕ} {from : List Row} {m : Result (List Node) PathFault} (d : Step) (h : i < length ss) (o : On ss i n from m)
      {r : Result ℕ StepFault} {new : List Row} (a : Laid (step_means w (i + 1) (get_or ss i d) (nodes_in (take n from)) (end_in 0 0 (take n from))) r new) where
    whole : onward (step_means w (i + 1) (get_or ss i d) (nodes_in (take n from)) None) (λ ns. walk_over w (i + 1 + 1) (drop (i + 1) ss) ns) ≡ m
    whole = sym (ap (λ z. walk_over w (i + 1) z (nodes_in (take n from))) (drop_more ss i d h)) ∙ o.left

    mean : Laid (step_means w (i + 1) (get_or ss i d) (nodes_in (take n from)) None) r new
    mean = subst (λ z. Laid (step_means w (i + 1) (get_or ss i d) (nodes_in (take n from)) z) r new) (clean_ends 0 0 (take n from) o.clean) a

    pub walk_on : (n' : ℕ) → r ≡ Ok n' → On ss (i + 1) n' new m
    walk_on n' e =
        let x = on_ok (λ ns. walk_over w (i + 1 + 1) (drop (i + 1) ss) ns) (step_means w (i + 1) (get_or ss i d) (nodes_in (take n from)) None) r new n' mean e in
        record { left = x.goes ∙ whole; clean = x.clean; fits = subst (λ z. z ≤ w.room) (sym x.counts) (taken_room (i + 1) w.room _ _) }

    pub walk_off : (f : StepFault) → r ≡ Err f → m ≡ Err (as_path_fault f)
    walk_off f e = sym whole ∙ on_err (λ ns. walk_over w (i + 1 + 1) (drop (i + 1) ss) ns) (step_means w (i + 1) (get_or ss i d) (nodes_in (take n from)) None) r new f mean e

  pub moved : {ss : List Step} {i n n' : ℕ} {x x' : List Row} {m : Result (List Node) PathFault} → n' ≡ n → x' ≡ x → On ss i n x m → On ss i n' x' m
  moved {ss = ss} {i = i} {n' = n'} {x = x} {m = m} e f o = subst (λ z. On ss i n' z m) (sym f) (subst (λ z. On ss i z x m) (sym e) o)

  -- the walk's end: the nodes are those of the first n rows
  pub walk_end : (ss : List Step) (i n : ℕ) (from : List Row) (m : Result (List Node) PathFault) → length ss ≤ i → n ≤ length from → On ss i n from m → Laid m (Ok n) from
  walk_end ss i n from m l h o =
      let e : Ok (nodes_in (take n from)) ≡ m = ap (λ z. walk_over w (i + 1) z (nodes_in (take n from))) (sym (drop_all i ss l)) ∙ o.left in
      let c : length (nodes_in (take n from)) ≡ n = clean_length (take n from) o.clean ∙ length-take-le n from h in
      subst (λ z. Laid z (Ok n) from) e (record { answers = ap Ok (sym c); lays = ap (λ j. take j from) c ∙ sym o.clean })

pub failed : (M : Result (List Node) PathFault) (r : Result ℕ PathFault) (new : List Row) (f : PathFault) → M ≡ Err f → r ≡ Err f → Laid M r new
failed M r new f e o = subst (λ z. Laid z r new) (sym e) (record { answers = o; lays = refl })

-- the answer list, its first rows kept and the others made blank
pub shows : {F : Type 0} (M : Result (List Node) F) (r : Result ℕ F) (new : List Row) (size : ℕ) → length new ≡ size → Laid M r new → blank_from (result_unwrap_or r 0) new ≡ shown M size
shows (Ok ns) r new size l a =
    ap (λ z. blank_from (result_unwrap_or z 0) new) a.answers ∙ ap (λ z. z ++ replicate (length new - length ns) blank_row) a.lays ∙ ap (λ j. map row_of ns ++ replicate (j - length ns) blank_row) l
shows (Err f) r new size l a = ap (λ z. blank_from (result_unwrap_or z 0) new) a.answers ∙ ap (λ j. replicate (j - 0) blank_row) l

pub found_within : {F : Type 0} (M : Result (List Node) F) (r : Result ℕ F) (new : List Row) → Laid M r new → result_unwrap_or r 0 ≤ length new
found_within (Ok ns) r new a =
    let e : result_unwrap_or r 0 ≡ length ns = ap (λ z. result_unwrap_or z 0) a.answers in
    omega (arith, ap length a.lays, length-map ns row_of, length-take (length ns) new)
found_within (Err f) r new a = let e : result_unwrap_or r 0 ≡ 0 = ap (λ z. result_unwrap_or z 0) a.answers in omega arith
