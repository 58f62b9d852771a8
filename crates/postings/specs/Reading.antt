use Rattle.std.specs.Prelude.{ℕ, zero, suc, ◌+◌, ◌-◌, cond, List, [], ◌∷◌, map, length, Some, None, Ok, Err, filter, Option, Result, nat_eq, nat_lt}
use Rattle.nodes.specs.Limits.{max_bytes}
use Rattle.nodes.specs.declared.node.Node.{Node}
use Rattle.nodes.specs.declared.refusal.Refusal.{Refusal}
use Rattle.nodes.specs.declared.refusal.Refusal.TheVariants.{TooLong}
use Rattle.nodes.specs.declared.refusal.Fault.{Fault}
use Rattle.nodes.specs.Whole.{Stop, named}
use Rattle.postings.specs.Records.{record_bytes, Posting, posting_in}

-- the postings of all tags in their order, and where the reading stopped, if not at the end
pub record Reading : Type 0 where
  pub postings : List Posting
  pub stop : Option Stop

abbrev pub stopped : Option Stop → Reading
stopped s = record { postings = []; stop = s }

-- a posting in front of what follows it; a wrong record stops the reading at its place
abbrev pub read_one : (place : ℕ) → Result Posting Refusal → Reading → Reading
read_one place (Ok p) r = record { postings = p ∷ r.postings; stop = r.stop }
read_one place (Err f) r = stopped (Some (record { refusal = f; place = place }))

-- what is read of bytes that begin at a place, after some of them are passed over: a record begins where none are left to pass
abbrev pub read_from : (pass place : ℕ) → List ℕ → Reading
read_from pass place [] = stopped None
read_from zero place (b ∷ bs) = read_one place (posting_in (b ∷ bs)) (read_from (record_bytes - 1) (place + 1) bs)
read_from (suc n) place (b ∷ bs) = read_from n (place + 1) bs

-- what is left to be read of a posting list, of which the bytes from a place on are left; a list that is too long gives nothing
abbrev pub read_rest : (place : ℕ) → List ℕ → Reading
read_rest place bs = cond (nat_lt max_bytes (place + length bs)) (stopped (Some (record { refusal = TooLong; place = 0 }))) (read_from 0 place bs)

-- what a posting list reads as
abbrev pub reading : List ℕ → Reading
reading bs = read_rest 0 bs

-- the nodes of one tag
abbrev pub nodes_of : (wanted : ℕ) → Reading → List Node
nodes_of wanted r = map (λ (p : Posting). p.node) (filter (λ (p : Posting). nat_eq p.tag wanted) r.postings)

-- the ending under a name
abbrev pub ending_of : (name : ℕ) → Reading → Option Fault
ending_of name r = named name r.stop
