use Rattle.std.specs.Prelude.{ℕ, ◌+◌, ◌*◌, ◌/◌, ◌%◌, List, ◌∷◌, slice_index}

-- the number of two bytes, and of four, from a place on: the most significant byte first
abbrev pub two_at : List ℕ → ℕ → ℕ
two_at bs i = slice_index bs i * 256 + slice_index bs (i + 1)

abbrev pub four_at : List ℕ → ℕ → ℕ
four_at bs i = slice_index bs i * 16777216 + slice_index bs (i + 1) * 65536 + slice_index bs (i + 2) * 256 + slice_index bs (i + 3)

-- the two bytes of a number, and the four, in front of others
abbrev pub two : ℕ → List ℕ → List ℕ
two n more = (n / 256 % 256) ∷ (n % 256) ∷ more

abbrev pub four : ℕ → List ℕ → List ℕ
four n more = (n / 16777216 % 256) ∷ (n / 65536 % 256) ∷ (n / 256 % 256) ∷ (n % 256) ∷ more
