use Rattle.std.specs.Prelude.{ℕ}
use Rattle.nodes.specs.declared.refusal.Refusal.{Refusal}
use Rattle.nodes.specs.declared.refusal.Fault.{Fault}
use Rattle.nodes.specs.declared.refusal.Refusal.TheVariants.{TooLong, UnknownCommand, ShortCommand, Misplaced, DocumentOrder, TooDeep, OutsideElement, CloseElsewhere, ShortRecord, OutOfRange, StartPassesEnd, TurnLimit, HandsDiffer, NotRising, Overlap, LevelNotDeeper, QueryLength, QueryCommand, ListFull, NoRoom, BrokenOpen}

-- the number of each refusal
abbrev pub number : Refusal → ℕ
number TooLong = 1
number UnknownCommand = 2
number ShortCommand = 3
number Misplaced = 4
number DocumentOrder = 5
number TooDeep = 6
number OutsideElement = 7
number CloseElsewhere = 8
number ShortRecord = 9
number OutOfRange = 10
number StartPassesEnd = 11
number TurnLimit = 12
number HandsDiffer = 13
number NotRising = 14
number Overlap = 15
number LevelNotDeeper = 16
number QueryLength = 17
number QueryCommand = 18
number ListFull = 19
number NoRoom = 20
number BrokenOpen = 21

-- the fault of a refusal, told under a name
abbrev pub fault_by : Refusal → (name place : ℕ) → Fault
fault_by f name at = record { refusal = f; name = name; place = at }
