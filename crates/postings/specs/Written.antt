use Rattle.std.specs.Prelude.{◌≡◌, ℕ, ◌*◌, ◌/◌, ◌%◌, ◌<◌, ◌≤◌, List, [], ◌∷◌, length, Some, None, Err}
use Rattle.nodes.specs.Limits.{max_bytes}
use Rattle.nodes.specs.declared.refusal.Refusal.{Refusal}
use Rattle.nodes.specs.declared.refusal.Refusal.TheVariants.{TooLong}
use Rattle.postings.specs.Records.{record_bytes, Posting, posting_in}
use Rattle.postings.specs.Reading.{Reading}

-- a number in two bytes, and in four, the most significant byte first, in front of other bytes
abbrev pub in_two : ℕ → List ℕ → List ℕ
in_two n bs = n / 256 ∷ n % 256 ∷ bs

abbrev pub in_four : ℕ → List ℕ → List ℕ
in_four n bs = n / 16777216 ∷ n / 65536 % 256 ∷ n / 256 % 256 ∷ n % 256 ∷ bs

-- the record of a posting in front of other bytes
abbrev pub written : Posting → List ℕ → List ℕ
written p bs = in_two p.tag (in_four p.node.document (in_four p.node.start (in_four p.node.end (p.node.level ∷ bs))))

-- the records of some postings in front of other bytes
abbrev pub all_written : List Posting → List ℕ → List ℕ
all_written [] bs = bs
all_written (p ∷ ps) bs = written p (all_written ps bs)

-- how a list is told: nothing of one that is too long; of any other all the postings whose records it begins with, and then the end,
-- or, where damage is behind them, the refusal of the wrong record at its offset
pub record Told (bs : List ℕ) (r : Reading) : Type 0 where
  pub overlong : max_bytes < length bs → r ≡ record { postings = []; stop = Some (record { refusal = TooLong; place = 0 }) }
  pub whole : (ps : List Posting) → length bs ≤ max_bytes → bs ≡ all_written ps [] → r ≡ record { postings = ps; stop = None }
  pub damaged : (ps : List Posting) (behind : List ℕ) (f : Refusal) → length bs ≤ max_bytes → bs ≡ all_written ps behind → 0 < length behind → posting_in behind ≡ Err f →
      r ≡ record { postings = ps; stop = Some (record { refusal = f; place = record_bytes * length ps }) }
