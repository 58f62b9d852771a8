-- The steps of a query, read one after another.
use Rattle.std.proofs.Common.{◌≡◌, ℕ, ◌+◌, ◌-◌, ◌*◌, ◌%◌, ◌<◌, ◌≤◌, true, ◌&&◌, eqb, leb, List, [], ◌∷◌, ◌++◌, length, get_or, take, drop, set, Some, Ok, Err, Result, refl, ap, arith}
use Rattle.std.proofs.lemmas.Bool.{leb-true, and_parts}
use Rattle.std.proofs.lemmas.List.{append_assoc, take_more_set}
use Rattle.std.proofs.lemmas.Slice.{between_to_end}
use Rattle.merge.specs.declared.pair.Axis.{Axis}
use Rattle.paths.specs.declared.fault.PathFault.{PathFault}
use Rattle.paths.specs.declared.query.Step.{Step}
use Rattle.paths.specs.Query.{axis_of, step_then, steps_from, before, in_steps}

pub step_on : (k : ℕ) (bytes : List ℕ) → 3 ≤ length bytes → steps_from k bytes ≡ step_then k (axis_of (get_or bytes 0 0)) (get_or bytes 1 0) (get_or bytes 2 0) (steps_from (k + 1) (drop 3 bytes))
step_on k [] h = absurd (omega arith)
step_on k (c ∷ []) h = absurd (omega arith)
step_on k (c ∷ (a ∷ [])) h = absurd (omega arith)
step_on k (c ∷ (a ∷ (b ∷ bytes))) h = refl

before_more : (ss ts : List Step) (r : Result (List Step) PathFault) → before (ss ++ ts) r ≡ before ss (before ts r)
before_more ss ts (Ok us) = ap Ok (append_assoc ss ts us)
before_more ss ts (Err f) = refl

pub read_on : (steps : List Step) (count n : ℕ) (bytes : List ℕ) (axis : Axis) (tag : ℕ) → count < length steps → 3 ≤ length bytes → length bytes ≤ n
    → Some axis ≡ axis_of (get_or bytes 0 0) → tag ≡ get_or bytes 1 0 * 256 + get_or bytes 2 0
    → before (take (count + 1) (set steps count (record { axis = axis; tag = tag }))) (steps_from (count + 1 + 1) (take (n - 3) (drop 3 bytes))) ≡ before (take count steps) (steps_from (count + 1) bytes)
read_on steps count n bytes axis tag h l m a t =
    let s : Step = record { axis = axis; tag = tag } in
    let p = take_more_set steps count s h in
    let q = between_to_end bytes 3 n m in
    let o = step_on (count + 1) bytes l in
    let b = before_more (take count steps) (s ∷ []) (steps_from (count + 1 + 1) (drop 3 bytes)) in
    rw (p, q, o, ← a, ← t, b)

pub steps_few : (n : ℕ) → in_steps n ≡ true → n ≤ 24
steps_few n h = leb-true n 24 (and_parts (leb n 24) (eqb (n % 3) 0) (and_parts (leb 3 n) (leb n 24 && eqb (n % 3) 0) h).1).0
