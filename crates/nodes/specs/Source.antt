use Rattle.std.specs.Prelude.{◌≡◌, List, [], ◌∷◌, Some, None, Ok, Err, Option, Result}

-- what take answers: the first node to come, or the ending where none is to come
abbrev pub answer : {N F : Type 0} → List N → Option F → Result (Option N) F
answer (n ∷ ns) e = Ok (Some n)
answer [] None = Ok None
answer [] (Some f) = Err f

-- a list without its first
abbrev pub rest : {N : Type 0} → List N → List N
rest [] = []
rest (n ∷ ns) = ns

-- take, where the list ns was to come and then the ending e; r is answered, and then ns' is to come and the ending is e'
pub record Taken {N F : Type 0} (ns : List N) (e : Option F) (r : Result (Option N) F) (ns' : List N) (e' : Option F) : Type 0 where
  pub answers : r ≡ answer ns e
  pub leaves : ns' ≡ rest ns
  pub keeps : e' ≡ e
