-- What a run that comes to its end gives: the nodes of its list that fit, in tree order.
use Rattle.std.proofs.Common.{◌≡◌, Bool, true, false, cond, ◌⊎◌, List, [], ◌∷◌, ◌++◌, map, Some, None, filter, Option, sym, refl, ap, ◌∙◌, subst, inl, inr}
use Rattle.std.specs.List.{AllByRecursion as Every}
use Rattle.std.proofs.lemmas.Bool.{eq-eqb, eqb-true}
use Rattle.nodes.specs.declared.refusal.Fault.{Fault}
use Rattle.nodes.specs.declared.node.Node.{Node}
use Rattle.merge.specs.declared.pair.Axis.{Axis}
use Rattle.merge.specs.declared.pair.Axis.TheVariants.{Child, Descendant}
use Rattle.merge.specs.Axes.{fits, pair}
use Rattle.merge.specs.declared.turn.Turn.TheVariants.{Container, Contained}
use Rattle.merge.specs.declared.turn.Turn.{Turn}
use Rattle.merge.specs.Turns.{Opening, outers, inners, earlier, refusal, Course, halts, has, inners_alone, meet, course, course_of, sound, Stop, at_end, in_hand, at_node, fault_of, sound_turns, stop_of}
use Rattle.merge.proofs.Judging.{never}
use Rattle.merge.proofs.Rising.{turns_rise}
use Rattle.merge.proofs.Ending.{ends_soundly}
use Rattle.under.specs.Nodes.{some, is_paired, first_fits, paired_nodes, first_nodes, run_ending}
use Rattle.under.specs.Law.{Holds, InTreeOrder}
use Rattle.under.proofs.Held.{kept_holds, order_kept, inners_order}
use Rattle.paths.specs.Law.{FitsFirst}

-- a node stands in a pair where some container fits it
pub paired_holds : (axis : Axis) (cs : List Node) (n : Node) → is_paired axis cs n ≡ true → (m : Node) × Holds cs m × (fits axis m n ≡ true)
paired_holds axis [] n h = never (cc)
paired_holds axis (c ∷ cs) n h = go (fits axis c n) refl h (paired_holds axis cs n)
  where
    go : (b : Bool) → fits axis c n ≡ b → some (map (λ x. pair x n) (cond b (c ∷ filter (λ x. fits axis x n) cs) (filter (λ x. fits axis x n) cs))) ≡ true → (is_paired axis cs n ≡ true → (m : Node) × Holds cs m × (fits axis m n ≡ true)) → (m : Node) × ((m ≡ c) ⊎ Holds cs m) × (fits axis m n ≡ true)
    go true q e ih = (c, inl refl, q)
    go false q e ih = let r = ih e in (r.0, inr r.1, r.2)

pub holds_paired : (axis : Axis) (cs : List Node) (n m : Node) → Holds cs m → fits axis m n ≡ true → is_paired axis cs n ≡ true
holds_paired axis [] n m i e = absurd i
holds_paired axis (c ∷ cs) n m i e = go (fits axis c n) refl i (λ k. holds_paired axis cs n m k e)
  where
    go : (b : Bool) → fits axis c n ≡ b → (m ≡ c) ⊎ Holds cs m → (Holds cs m → is_paired axis cs n ≡ true) → some (map (λ x. pair x n) (cond (fits axis c n) (c ∷ filter (λ x. fits axis x n) cs) (filter (λ x. fits axis x n) cs))) ≡ true
    go true q k ih = rw q
    go false q (inl s) ih = never (let f : true ≡ false = sym e ∙ ap (λ x. fits axis x n) s ∙ q in cc)
    go false q (inr k) ih = rw q (ih k)

-- the first step's test
pub first_is : (axis : Axis) (n : Node) → first_fits axis n.level ≡ true → FitsFirst axis n
first_is Child n h = eqb-true n.level 1 h
first_is Descendant n h = tt

pub is_first : (axis : Axis) (n : Node) → FitsFirst axis n → first_fits axis n.level ≡ true
is_first Child n h = eq-eqb n.level 1 h
is_first Descendant n h = refl

-- the turns of a course are those of its two lists
abbrev TurnIs : (P Q : Node → Type 0) → Turn → Type 0
TurnIs P Q (Container c) = P c
TurnIs P Q (Contained d) = Q d

abbrev CourseIs : (P Q : Node → Type 0) → Course → Type 0
CourseIs P Q (halts e) = Unit {0}
CourseIs P Q (has t rest) = TurnIs P Q t × CourseIs P Q rest

module _ (P Q : Node → Type 0) where
  alone_is : (ds : List Node) (e : Option Fault) → Every Q ds → CourseIs P Q (inners_alone ds e)
  alone_is [] e b = tt
  alone_is (d ∷ ds) e b = (b.0, alone_is ds e b.1)

  meet_is : (c : Node) (next : List Node → Course) → P c → ((ds : List Node) → Every Q ds → CourseIs P Q (next ds)) → (e : Option Fault) (ds : List Node) → Every Q ds → CourseIs P Q (meet c next e ds)
  meet_is c next a k None [] b = (a, k [] b)
  meet_is c next a k (Some f) [] b = tt
  meet_is c next a k e (d ∷ ds) b =
      elim (earlier c d) as (λ x. CourseIs P Q (cond x (has (Container c) (next (d ∷ ds))) (has (Contained d) (meet c next e ds))))
      [ true ↦ (a, k (d ∷ ds) b) | false ↦ (b.0, meet_is c next a k e ds b.1) ]

  course_is : (cs : List Node) (ce : Option Fault) (ds : List Node) (de : Option Fault) → Every P cs → Every Q ds → CourseIs P Q (course cs ce ds de)
  course_is [] None ds de a b = alone_is ds de b
  course_is [] (Some f) ds de a b = tt
  course_is (c ∷ cs) ce ds de a b = meet_is c (λ rest. course cs ce rest de) a.0 (λ rest r. course_is cs ce rest de a.1 r) de ds b

  sound_is : (had : List Turn) (c : Course) → CourseIs P Q c → Every (TurnIs P Q) (sound had c)
  sound_is had (halts e) h = tt
  sound_is had (has t rest) h =
      elim (refusal had t) as (λ v. Every (TurnIs P Q) (elim v as (λ _. List Turn) [ None ↦ t ∷ sound (had ++ (t ∷ [])) rest | Some r ↦ [] ]))
      [ None ↦ (h.0, sound_is (had ++ (t ∷ [])) rest h.1) | Some r ↦ tt ]

  outers_are : (ts : List Turn) → Every (TurnIs P Q) ts → Every P (outers ts)
  outers_are [] h = tt
  outers_are (Container c ∷ ts) h = (h.0, outers_are ts h.1)
  outers_are (Contained d ∷ ts) h = outers_are ts h.1

  inners_are : (ts : List Turn) → Every (TurnIs P Q) ts → Every Q (inners ts)
  inners_are [] h = tt
  inners_are (Container c ∷ ts) h = inners_are ts h.1
  inners_are (Contained d ∷ ts) h = (h.0, inners_are ts h.1)

holds_more : (m : Node) (xs ys : List Node) → Every (Holds xs) ys → Every (Holds (m ∷ xs)) ys
holds_more m xs [] h = tt
holds_more m xs (y ∷ ys) h = (inr h.0, holds_more m xs ys h.1)

holds_all : (xs : List Node) → Every (Holds xs) xs
holds_all [] = tt
holds_all (x ∷ xs) = (inl refl, holds_more x xs xs (holds_all xs))

all_at : (P : Node → Type 0) (xs : List Node) (x : Node) → Every P xs → Holds xs x → P x
all_at P [] x a i = absurd i
all_at P (y ∷ ys) x a (inl e) = subst P (sym e) a.0
all_at P (y ∷ ys) x a (inr k) = all_at P ys x a.1 k

pub from_holds : (P : Node → Type 0) (xs : List Node) → ((x : Node) → Holds xs x → P x) → Every P xs
from_holds P [] f = tt
from_holds P (x ∷ xs) f = (f x (inl refl), from_holds P xs (λ y k. f y (inr k)))

-- what any run gives: nodes of its list that fit, in tree order
pub record Fitted (o : Opening) : Type 0 where
  pub pairs_fit : (n : Node) → Holds (paired_nodes o) n → Holds o.contained n × ((m : Node) × Holds o.containers m × (fits o.axis m n ≡ true))
  pub firsts_fit : (n : Node) → Holds (first_nodes o) n → Holds o.contained n × FitsFirst o.axis n
  pub pairs_order : InTreeOrder (paired_nodes o)
  pub firsts_order : InTreeOrder (first_nodes o)

pub fitted_run : (o : Opening) → Fitted o
unfolding paired_nodes first_nodes
fitted_run o =
    let t = sound_is (Holds o.containers) (Holds o.contained) [] (course_of o) (course_is (Holds o.containers) (Holds o.contained) o.containers o.containers_ending o.contained o.contained_ending (holds_all o.containers) (holds_all o.contained)) in
    let a = outers_are (Holds o.containers) (Holds o.contained) (sound_turns o) t in
    let b = inners_are (Holds o.containers) (Holds o.contained) (sound_turns o) t in
    let order = inners_order (sound_turns o) (turns_rise o) in
    record {
      pairs_fit = λ n i.
          let k = kept_holds (is_paired o.axis (outers (sound_turns o))) (inners (sound_turns o)) n i in
          let m = paired_holds o.axis (outers (sound_turns o)) n k.1 in
          (all_at (Holds o.contained) (inners (sound_turns o)) n b k.0, (m.0, all_at (Holds o.containers) (outers (sound_turns o)) m.0 a m.1, m.2));
      firsts_fit = λ n i.
          let k = kept_holds (λ d. first_fits o.axis d.level) (inners (sound_turns o)) n i in
          (all_at (Holds o.contained) (inners (sound_turns o)) n b k.0, first_is o.axis n k.1);
      pairs_order = order_kept (is_paired o.axis (outers (sound_turns o))) (inners (sound_turns o)) order;
      firsts_order = order_kept (λ d. first_fits o.axis d.level) (inners (sound_turns o)) order;
    }

stop_end : (s : Stop) → fault_of s ≡ None → s ≡ at_end
stop_end at_end h = refl
stop_end (in_hand f) h = never (cc)
stop_end (at_node f n) h = never (cc)

pub record Ended (o : Opening) : Type 0 where
  pub pairs : paired_nodes o ≡ filter (is_paired o.axis o.containers) o.contained
  pub firsts : first_nodes o ≡ filter (λ d. first_fits o.axis d.level) o.contained
  pub order : InTreeOrder o.contained

pub ended_run : (o : Opening) → run_ending o ≡ None → Ended o
unfolding paired_nodes first_nodes run_ending
ended_run o h =
    let r = (ends_soundly o).0 (stop_end (stop_of o) h) in
    record {
      pairs = rw (r.every_container, r.every_contained);
      firsts = rw r.every_contained;
      order = subst InTreeOrder r.every_contained (inners_order (sound_turns o) (turns_rise o));
    }
