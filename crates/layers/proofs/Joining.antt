use Rattle.std.proofs.Common.{◌≡◌, ℕ, ◌+◌, ◌<◌, ◌≤◌, true, false, cond, ltb, ◌⊎◌, List, [], ◌∷◌, length, Some, None, Ok, Option, sym, refl, ap, ◌∙◌, inl, inr, ⊎_elim, add-zero, zero-add, arith}
use mathlib.Core.List.Memᴰ
use Rattle.std.proofs.lemmas.Bool.{ltb-true, ltb-false, cond_both, true≢false}
use Rattle.std.proofs.lemmas.Bool.Decides.{nat_tests}
use Rattle.nodes.specs.Limits.{max_turns}
use Rattle.nodes.specs.declared.node.Node.{Node}
use Rattle.nodes.specs.declared.place.Place.{Place}
use Rattle.nodes.specs.declared.refusal.Fault.{Fault}
use Rattle.nodes.specs.declared.refusal.Refusal.TheVariants.{TurnLimit, HandsDiffer}
use Rattle.nodes.specs.Node.{place_of}
use Rattle.nodes.specs.Place.{before}
use Rattle.nodes.specs.Source.{answer}
use Rattle.nodes.specs.Turns.{turn_fault}
use Rattle.nodes.proofs.Made.{same_node_lem}
use Rattle.layers.specs.declared.turn.Turn.TheVariants.{First, Second, Both, Differ}
use Rattle.layers.specs.Turn.{next_turn, meeting, same_node}
use Rattle.layers.specs.Union.{Listing, stops, gives, had, onward, united, union_of}
use Rattle.layers.specs.Joined.{Holds, Either, Rising, Agree, Cause, of_first, of_second, used_up, differing, Joined}

-- places
before_trans : (p q r : Place) → before p q ≡ true → before q r ≡ true → before p r ≡ true
before_trans p q r h k = grind (arith, nat_tests)

before-not : (p : Place) → before p p ≡ true → ⊥
before-not p h = grind (arith, nat_tests)

same_place : (p q : Place) → before p q ≡ false → before q p ≡ false → p ≡ q
same_place p q h k = grind (arith, nat_tests)

same_all : (x y : Node) → same_node x y ≡ true → x ≡ y
same_all x y h = same_node_lem x y (grind (arith, nat_tests))

same_self : (x : Node) → same_node x x ≡ true
same_self x = grind (arith, nat_tests)

-- a node's place is before the first of a list, if there is one
abbrev Ahead : Node → List Node → Type 0
Ahead n [] = Unit {0}
Ahead n (m ∷ ms) = before (place_of n) (place_of m) ≡ true

-- a fact of every union is shown by its turns: a fault in hand, the end, a turn past the last, two hands that differ, a node of the first, of the second and of both
module _ (name : ℕ) (EX EY : Option Fault) (P : ℕ → List Node → List Node → Listing → Type 0)
    (faulty : (k : ℕ) (X Y : List Node) (f : Fault) → (EX ≡ Some f) ⊎ (EY ≡ Some f) → P k X Y (stops (Some f)))
    (ended : (k : ℕ) → EX ≡ None → EY ≡ None → P k [] [] (stops None))
    (limit : (k : ℕ) (X Y : List Node) (n : Node) → Either X Y n → max_turns ≤ k → P k X Y (stops (Some (turn_fault name k TurnLimit))))
    (differ : (k : ℕ) (x : Node) (xs : List Node) (y : Node) (ys : List Node) → place_of x ≡ place_of y → same_node x y ≡ false → P k (x ∷ xs) (y ∷ ys) (stops (Some (turn_fault name k HandsDiffer))))
    (first : (k : ℕ) (x : Node) (xs Y : List Node) (l : Listing) → Ahead x Y → k < max_turns → P (k + 1) xs Y l → P k (x ∷ xs) Y (gives x l))
    (second : (k : ℕ) (X : List Node) (y : Node) (ys : List Node) (l : Listing) → Ahead y X → k < max_turns → P (k + 1) X ys l → P k X (y ∷ ys) (gives y l))
    (both : (k : ℕ) (x : Node) (xs : List Node) (y : Node) (ys : List Node) (l : Listing) → x ≡ y → k < max_turns → P (k + 1) xs ys l → P k (x ∷ xs) (y ∷ ys) (gives x l)) where
  none : (ex ey : Option Fault) → EX ≡ ex → EY ≡ ey → (k : ℕ) → P k [] [] (onward name k (next_turn (answer [] ex) (answer [] ey)) (stops None) (stops None) (stops None))
  none None None a b k = ended k a b
  none None (Some g) a b k = faulty k [] [] g (inr b)
  none (Some f) ey a b k = faulty k [] [] f (inl a)

  only_first : (ey : Option Fault) → EY ≡ ey → (k : ℕ) (x : Node) (xs : List Node) (l : Listing) → P (k + 1) xs [] l →
      P k (x ∷ xs) [] (onward name k (next_turn (Ok (Some x)) (answer [] ey)) l (stops None) (stops None))
  only_first None b k x xs l p =
      cond_both (ltb k max_turns) (gives x l) (stops (Some (turn_fault name k TurnLimit))) (P k (x ∷ xs) [])
      (λ t. first k x xs [] l tt (ltb-true k max_turns t) p) (λ t. limit k (x ∷ xs) [] x (inl (Memᴰ.head refl)) (ltb-false k max_turns t))
  only_first (Some g) b k x xs l p = faulty k (x ∷ xs) [] g (inr b)

  only_second : (ex : Option Fault) → EX ≡ ex → (k : ℕ) (y : Node) (ys : List Node) (l : Listing) → P (k + 1) [] ys l →
      P k [] (y ∷ ys) (onward name k (next_turn (answer [] ex) (Ok (Some y))) (stops None) l (stops None))
  only_second None a k y ys l p =
      cond_both (ltb k max_turns) (gives y l) (stops (Some (turn_fault name k TurnLimit))) (P k [] (y ∷ ys))
      (λ t. second k [] y ys l tt (ltb-true k max_turns t) p) (λ t. limit k [] (y ∷ ys) y (inr (Memᴰ.head refl)) (ltb-false k max_turns t))
  only_second (Some f) a k y ys l p = faulty k [] (y ∷ ys) f (inl a)

  meets : (k : ℕ) (x : Node) (xs : List Node) (y : Node) (ys : List Node) (a b c : Listing) → P (k + 1) xs (y ∷ ys) a → P (k + 1) (x ∷ xs) ys b → P (k + 1) xs ys c →
      P k (x ∷ xs) (y ∷ ys) (onward name k (next_turn (Ok (Some x)) (Ok (Some y))) a b c)
  meets k x xs y ys a b c p q r =
      cond_both (ltb k max_turns) (had name k (meeting x y) a b c) (stops (Some (turn_fault name k TurnLimit))) (P k (x ∷ xs) (y ∷ ys))
      (λ t. cond_both (before (place_of x) (place_of y)) (First x) (cond (before (place_of y) (place_of x)) (Second y) (cond (same_node x y) (Both x) Differ)) (λ w. P k (x ∷ xs) (y ∷ ys) (had name k w a b c))
      (λ h. first k x xs (y ∷ ys) a h (ltb-true k max_turns t) p)
      (λ h. cond_both (before (place_of y) (place_of x)) (Second y) (cond (same_node x y) (Both x) Differ) (λ w. P k (x ∷ xs) (y ∷ ys) (had name k w a b c))
      (λ i. second k (x ∷ xs) y ys b i (ltb-true k max_turns t) q)
      (λ i. cond_both (same_node x y) (Both x) Differ (λ w. P k (x ∷ xs) (y ∷ ys) (had name k w a b c))
      (λ j. both k x xs y ys c (same_all x y j) (ltb-true k max_turns t) r)
      (λ j. differ k x xs y ys (same_place (place_of x) (place_of y) h i) j))))
      (λ t. limit k (x ∷ xs) (y ∷ ys) x (inl (Memᴰ.head refl)) (ltb-false k max_turns t))

  by_turns : (k : ℕ) (X Y : List Node) → P k X Y (united name k X EX Y EY)
  unfolding united
  by_turns k [] [] = none EX EY refl refl k
  by_turns k [] (y ∷ ys) = only_second EX refl k y ys _ (by_turns (k + 1) [] ys)
  by_turns k (x ∷ xs) [] = only_first EY refl k x xs _ (by_turns (k + 1) xs [])
  by_turns k (x ∷ xs) (y ∷ ys) = meets k x xs y ys _ _ _ (by_turns (k + 1) xs (y ∷ ys)) (by_turns (k + 1) (x ∷ xs) ys) (by_turns (k + 1) xs ys)

-- lists of nodes
nothing : {A : Type 0} (n : Node) → Holds [] n → A
nothing n h = absurd (Memᴰ.not-nil h)

more-first : (x : Node) (xs ys : List Node) (n : Node) → Either xs ys n → Either (x ∷ xs) ys n
more-first x xs ys n h = ⊎_elim (λ i. inl (Memᴰ.tail i)) (λ i. inr i) h

more_second : (xs : List Node) (y : Node) (ys : List Node) (n : Node) → Either xs ys n → Either xs (y ∷ ys) n
more_second xs y ys n h = ⊎_elim (λ i. inl i) (λ i. inr (Memᴰ.tail i)) h

ahead_all : (x : Node) (Y : List Node) → Ahead x Y → Rising Y → (m : Node) → Holds Y m → before (place_of x) (place_of m) ≡ true
ahead_all x [] a r m h = nothing m h
ahead_all x (y ∷ ys) a r m h = ⊎_elim (λ e. ap (λ z. before (place_of x) (place_of z)) e ∙ a) (λ i. before_trans (place_of x) (place_of y) (place_of m) a (r.0 m i)) (Memᴰ.cases_cons h)

apart : (x n : Node) → before (place_of x) (place_of n) ≡ true → n ≡ x → ⊥
apart x n b e = before-not (place_of x) (ap (λ z. before (place_of x) (place_of z)) (sym e) ∙ b)

-- the list without a node that it holds
abbrev Without : List Node → Node → Type 0
Without ns n = (r : List Node) × (length ns ≡ length r + 1) × ((m : Node) → Holds ns m → (m ≡ n → ⊥) → Holds r m)

without : (ns : List Node) (n : Node) → Holds ns n → Without ns n
without [] n h = nothing n h
without (x ∷ xs) n h =
    ⊎_elim
    (λ e. (xs, omega arith, λ m i ne. ⊎_elim (λ q. absurd (ne (q ∙ sym e))) (λ j. j) (Memᴰ.cases_cons i)))
    (λ j. let w = without xs n j in (x ∷ w.0, omega arith, λ m i ne. ⊎_elim (λ q. Memᴰ.head q) (λ t. Memᴰ.tail (w.2 m t ne)) (Memᴰ.cases_cons i)))
    (Memᴰ.cases_cons h)

-- only nodes of either come, and they rise where both lists do
abbrev Sound : ℕ → List Node → List Node → Listing → Type 0
Sound k X Y l = ((n : Node) → Holds l.nodes n → Either X Y n) × (Rising X → Rising Y → Rising l.nodes)

sound : (name : ℕ) (EX EY : Option Fault) (k : ℕ) (X Y : List Node) → Sound k X Y (united name k X EX Y EY)
sound name EX EY =
    by_turns name EX EY Sound
    (λ k X Y f h. (λ n i. nothing n i, λ _ _. tt))
    (λ k a b. (λ n i. nothing n i, λ _ _. tt))
    (λ k X Y n i l. (λ n i. nothing n i, λ _ _. tt))
    (λ k x xs y ys h i. (λ n i. nothing n i, λ _ _. tt))
    (λ k x xs Y l a t p. (
      λ n h. ⊎_elim (λ e. inl (Memᴰ.head e)) (λ i. more-first x xs Y n (p.0 n i)) (Memᴰ.cases_cons h),
      λ rx ry. (λ m h. ⊎_elim (rx.0 m) (ahead_all x Y a ry m) (p.0 m h), p.1 rx.1 ry),
    ))
    (λ k X y ys l a t p. (
      λ n h. ⊎_elim (λ e. inr (Memᴰ.head e)) (λ i. more_second X y ys n (p.0 n i)) (Memᴰ.cases_cons h),
      λ rx ry. (λ m h. ⊎_elim (ahead_all y X a rx m) (ry.0 m) (p.0 m h), p.1 rx ry.1),
    ))
    (λ k x xs y ys l e t p. (
      λ n h. ⊎_elim (λ e. inl (Memᴰ.head e)) (λ i. more-first x xs (y ∷ ys) n (more_second xs y ys n (p.0 n i))) (Memᴰ.cases_cons h),
      λ rx ry. (λ m h. ⊎_elim (rx.0 m) (λ i. ap (λ z. before (place_of z) (place_of m)) e ∙ ry.0 m i) (p.0 m h), p.1 rx.1 ry.1),
    ))

-- where a union comes to the end, all nodes of either have come, and both lists came to their end
module _ (EX EY : Option Fault) where
  abbrev Whole : ℕ → List Node → List Node → Listing → Type 0
  Whole k X Y l = l.ending ≡ None → ((n : Node) → Either X Y n → Holds l.nodes n) × (EX ≡ None) × (EY ≡ None)

  whole : (name k : ℕ) (X Y : List Node) → Whole k X Y (united name k X EX Y EY)
  whole name =
      by_turns name EX EY Whole
      (λ k X Y f h e. grind arith)
      (λ k a b e. (λ n h. ⊎_elim (nothing n) (nothing n) h, a, b))
      (λ k X Y n i l e. grind arith)
      (λ k x xs y ys h i e. grind arith)
      (λ k x xs Y l a t p e. (
        λ n h. ⊎_elim (λ i. ⊎_elim (λ q. Memᴰ.head q) (λ j. Memᴰ.tail ((p e).0 n (inl j))) (Memᴰ.cases_cons i)) (λ j. Memᴰ.tail ((p e).0 n (inr j))) h,
        (p e).1,
        (p e).2,
      ))
      (λ k X y ys l a t p e. (
        λ n h. ⊎_elim (λ j. Memᴰ.tail ((p e).0 n (inl j))) (λ i. ⊎_elim (λ q. Memᴰ.head q) (λ j. Memᴰ.tail ((p e).0 n (inr j))) (Memᴰ.cases_cons i)) h,
        (p e).1,
        (p e).2,
      ))
      (λ k x xs y ys l s t p e. (
        λ n h. ⊎_elim
            (λ i. ⊎_elim (λ q. Memᴰ.head q) (λ j. Memᴰ.tail ((p e).0 n (inl j))) (Memᴰ.cases_cons i))
            (λ i. ⊎_elim (λ q. Memᴰ.head (q ∙ sym s)) (λ j. Memᴰ.tail ((p e).0 n (inr j))) (Memᴰ.cases_cons i)) h,
        (p e).1,
        (p e).2,
      ))

-- where both lists rise to their end and agree, and no more different nodes stand in them than turns are left, a union comes to the end
module _ (EX EY : Option Fault) where
  abbrev Ending : ℕ → List Node → List Node → Listing → Type 0
  Ending k X Y l =
      EX ≡ None → EY ≡ None → Rising X → Rising Y → Agree X Y → (ns : List Node) → k + length ns ≤ max_turns → ((n : Node) → Either X Y n → Holds ns n) → l.ending ≡ None

  ending : (name k : ℕ) (X Y : List Node) → Ending k X Y (united name k X EX Y EY)
  ending name =
      by_turns name EX EY Ending
      (λ k X Y f h a b rx ry g ns m c. ⊎_elim (λ e. grind arith) (λ e. grind arith) h)
      (λ k a b _ _ _ _ _ _ _ _. refl)
      (λ k X Y n i l a b rx ry g ns m c. let w = without ns n (c n i) in let q = w.1 in absurd (omega arith))
      (λ k x xs y ys h i a b rx ry g ns m c.
      let e = g x y (Memᴰ.head refl) (Memᴰ.head refl) h in
      absurd (true≢false (sym (same_self x) ∙ ap (same_node x) e ∙ i)))
      (λ k x xs Y l a t p ex ey rx ry g ns m c.
      let w = without ns x (c x (inl (Memᴰ.head refl))) in
      let q = w.1 in
      p ex ey rx.1 ry (λ u v i j. g u v (Memᴰ.tail i) j) w.0 (omega arith)
      (λ n h. w.2 n (c n (more-first x xs Y n h)) (apart x n (⊎_elim (rx.0 n) (ahead_all x Y a ry n) h))))
      (λ k X y ys l a t p ex ey rx ry g ns m c.
      let w = without ns y (c y (inr (Memᴰ.head refl))) in
      let q = w.1 in
      p ex ey rx ry.1 (λ u v i j. g u v i (Memᴰ.tail j)) w.0 (omega arith)
      (λ n h. w.2 n (c n (more_second X y ys n h)) (apart y n (⊎_elim (ahead_all y X a rx n) (ry.0 n) h))))
      (λ k x xs y ys l e t p ex ey rx ry g ns m c.
      let w = without ns x (c x (inl (Memᴰ.head refl))) in
      let q = w.1 in
      p ex ey rx.1 ry.1 (λ u v i j. g u v (Memᴰ.tail i) (Memᴰ.tail j)) w.0 (omega arith)
      (λ n h. w.2 n (c n (more-first x xs (y ∷ ys) n (more_second xs y ys n h))) (apart x n (⊎_elim (rx.0 n) (λ j. ap (λ z. before (place_of z) (place_of n)) e ∙ ry.0 n j) h))))

-- a union's fault has a cause, and longer lists have it, too
abbrev to : List Node → Option Fault → Listing
to ns e = record { nodes = ns; ending = e }

wider : (name h k : ℕ) (X X' : List Node) (EX : Option Fault) (Y Y' : List Node) (EY : Option Fault) (f : Fault) → h ≡ k → ((n : Node) → Holds X n → Holds X' n) → ((n : Node) → Holds Y n → Holds Y' n) →
    Cause name h (to X EX) (to Y EY) f → Cause name k (to X' EX) (to Y' EY) f
wider name h k X X' EX Y Y' EY f e p q (of_first c) = of_first c
wider name h k X X' EX Y Y' EY f e p q (of_second c) = of_second c
wider name h k X X' EX Y Y' EY f e p q (used_up c m) = used_up (c ∙ ap (λ h. turn_fault name h TurnLimit) e) (sym e ∙ m)
wider name h k X X' EX Y Y' EY f e p q (differing c x y i j w ne) = differing (c ∙ ap (λ h. turn_fault name h HandsDiffer) e) x y (p x i) (q y j) w ne

module _ (name : ℕ) (EX EY : Option Fault) where
  abbrev Caused : ℕ → List Node → List Node → Listing → Type 0
  Caused k X Y l = k ≤ max_turns → (f : Fault) → l.ending ≡ Some f → Cause name (k + length l.nodes) (to X EX) (to Y EY) f

  caused : (k : ℕ) (X Y : List Node) → Caused k X Y (united name k X EX Y EY)
  caused =
      by_turns name EX EY Caused
      (λ k X Y g h m f e. ⊎_elim (λ a. of_first (a ∙ e)) (λ b. of_second (b ∙ e)) h)
      (λ k a b m f e. grind arith)
      (λ k X Y n i l m f e. let z : f ≡ turn_fault name k TurnLimit = cc in let q : k ≡ max_turns = omega arith in rw add-zero (used_up z q))
      (λ k x xs y ys h i m f e.
      let z : f ≡ turn_fault name k HandsDiffer = cc in
      rw add-zero (differing z x y (Memᴰ.head refl) (Memᴰ.head refl) h (λ s. true≢false (sym (same_self x) ∙ ap (same_node x) s ∙ i))))
      (λ k x xs Y l a t p m f e.
      let q : k + 1 + length l.nodes ≡ k + length (x ∷ l.nodes) = omega arith in
      wider name _ _ xs (x ∷ xs) EX Y Y EY f q (λ n i. Memᴰ.tail i) (λ n i. i) (p (omega arith) f e))
      (λ k X y ys l a t p m f e.
      let q : k + 1 + length l.nodes ≡ k + length (y ∷ l.nodes) = omega arith in
      wider name _ _ X X EX ys (y ∷ ys) EY f q (λ n i. i) (λ n i. Memᴰ.tail i) (p (omega arith) f e))
      (λ k x xs y ys l s t p m f e.
      let q : k + 1 + length l.nodes ≡ k + length (x ∷ l.nodes) = omega arith in
      wider name _ _ xs (x ∷ xs) EX ys (y ∷ ys) EY f q (λ n i. Memᴰ.tail i) (λ n i. Memᴰ.tail i) (p (omega arith) f e))

-- the law of a union
pub joined : (name : ℕ) (a b : Listing) → Joined name a b (union_of name a b)
joined name a b =
    let s = sound name a.ending b.ending 0 a.nodes b.nodes in
    let w = whole a.ending b.ending name 0 a.nodes b.nodes in
    record {
      rises = s.1;
      only = s.0;
      all = λ e. (w e).0;
      ended = λ e. ((w e).1, (w e).2);
      ends = λ ea eb ra rb g m. let q = m.1 in ending a.ending b.ending name 0 a.nodes b.nodes ea eb ra rb g m.0 (omega arith) m.2;
      caused = λ f e.
          wider name _ _ a.nodes a.nodes a.ending b.nodes b.nodes b.ending f (zero-add _) (λ n i. i) (λ n i. i)
          (caused name a.ending b.ending 0 a.nodes b.nodes (omega arith) f e);
    }
