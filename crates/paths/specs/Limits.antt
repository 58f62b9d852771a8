use Rattle.std.specs.Prelude.{ℕ, ◌+◌}

-- the most steps of a query
abbrev pub max_steps : ℕ
max_steps = 8

-- the bytes of a step: a command, and a tag of two bytes
abbrev pub step_bytes : ℕ
step_bytes = 3

-- the name of the run of a step
abbrev pub step_name : ℕ → ℕ
step_name k = 100 + k
