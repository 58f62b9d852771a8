use Rattle.std.specs.Prelude.{ℕ}

-- the deepest level; levels count from 1
abbrev pub max_level : ℕ
max_level = 64

-- the greatest number of a document
abbrev pub max_document : ℕ
max_document = 2147483647

-- the most bytes of a tape or a posting list
abbrev pub max_bytes : ℕ
max_bytes = 16777216

-- the most turns of a run or a union
abbrev pub max_turns : ℕ
max_turns = 16777216

-- the greatest place that a fault can name
abbrev pub max_place : ℕ
max_place = 4294967295
