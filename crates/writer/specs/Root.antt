use Rattle.std.specs.Prelude.{ℕ, ◌+◌, Bool, true, false}
use Rattle.writer.specs.declared.root.Root.{Root}
use Rattle.writer.specs.declared.root.Root.TheVariants.{ToCome, Open, Closed}

-- what an open root's last operand holds: no offset of an OPEN around it
abbrev pub no_open : ℕ
no_open = 4294967295

-- a root in numbers: whether it was opened, how many elements are open, and the offset of the innermost OPEN, which none
-- is before the root opens and after it closes
abbrev pub is_rooted : Root → Bool
is_rooted ToCome = false
is_rooted (Open d i) = true
is_rooted Closed = true

abbrev pub depth_of : Root → ℕ
depth_of ToCome = 0
depth_of (Open d i) = d
depth_of Closed = 0

abbrev pub innermost_of : Root → ℕ
innermost_of ToCome = 0
innermost_of (Open d i) = i
innermost_of Closed = no_open

-- an open element is one of those that are open, and its OPEN has an end
abbrev pub least_depth : Root → ℕ
least_depth ToCome = 0
least_depth (Open d i) = 1
least_depth Closed = 0

abbrev pub end_of_open : Root → ℕ
end_of_open ToCome = 0
end_of_open (Open d i) = i + 7
end_of_open Closed = 0
