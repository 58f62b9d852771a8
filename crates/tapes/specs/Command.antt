use Rattle.std.specs.Prelude.{◌≡◌, ℕ, cond, List, [], ◌∷◌, length, drop, Ok, Err, Result, ◌==◌, nat_le, slice_index}
use Rattle.nodes.specs.declared.refusal.Refusal.{Refusal}
use Rattle.nodes.specs.declared.refusal.Refusal.TheVariants.{UnknownCommand, ShortCommand}
use Rattle.nodes.specs.Bytes.{two, four, two_at, four_at}
use Rattle.tapes.specs.declared.command.Command.{Command}
use Rattle.tapes.specs.declared.command.Command.TheVariants.{Begin, Open, Close, Value, End}
use Rattle.tapes.specs.declared.command.Cut.{Cut}

-- how many bytes a command takes
abbrev pub width : Command → ℕ
width (Begin d) = 5
width (Open t c) = 7
width Close = 1
width (Value t n) = 7
width End = 1

-- the bytes of a command
abbrev pub bytes_of : Command → List ℕ
bytes_of (Begin d) = 1 ∷ four d []
bytes_of (Open t c) = 2 ∷ two t (four c [])
bytes_of Close = 3 ∷ []
bytes_of (Value t n) = 4 ∷ two t (four n [])
bytes_of End = 5 ∷ []

-- a command whose bytes are all there
abbrev pub whole : List ℕ → Command → Result Command Refusal
whole bs k = cond (nat_le (width k) (length bs)) (Ok k) (Err ShortCommand)

-- the command that begins by a byte: none but the five, and then its operands must be there
abbrev pub by_byte : ℕ → List ℕ → Result Command Refusal
by_byte b bs =
    cond (b == 1) (whole bs (Begin (four_at bs 1)))
    (cond (b == 2) (whole bs (Open (two_at bs 1) (four_at bs 3)))
    (cond (b == 3) (whole bs Close)
    (cond (b == 4) (whole bs (Value (two_at bs 1) (four_at bs 3)))
    (cond (b == 5) (whole bs End)
    (Err UnknownCommand)))))

-- the command at the front of some bytes, or what is wrong with it
abbrev pub command_in : List ℕ → Result Command Refusal
command_in bs = cond (length bs == 0) (Err ShortCommand) (by_byte (slice_index bs 0) bs)

-- what a cut answers: the command at the front and the bytes after it, or what is wrong
abbrev pub Cuts : List ℕ → Result Cut Refusal → Type 0
Cuts bs (Ok k) = (command_in bs ≡ Ok k.command) × (k.rest.now ≡ drop (width k.command) bs)
Cuts bs (Err f) = command_in bs ≡ Err f
