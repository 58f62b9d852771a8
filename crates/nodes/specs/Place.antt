use Rattle.std.specs.Prelude.{Bool, ◌&&◌, ◌||◌, ◌==◌, nat_lt}
use Rattle.nodes.specs.declared.place.Place.{Place}

-- one place comes before another: by document, and then by start
abbrev pub before : Place → Place → Bool
before p q = nat_lt p.document q.document || (p.document == q.document && nat_lt p.start q.start)
