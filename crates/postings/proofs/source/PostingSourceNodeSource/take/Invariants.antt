use Rattle.std.proofs.Common.{◌≡◌, ◌+◌, ◌≤◌, length}
use Rattle.nodes.specs.Limits.{max_bytes}
use Rattle.postings.specs.Source.{posting_nodes, posting_ending}
use Rattle.postings.proofs.source.PostingSourceNodeSource.take.Given as goal

abbrev pub invariant-loop-item : goal.invariant-loop-item
invariant-loop-item l =
    (posting_nodes l.self ≡ posting_nodes l.initial.self) × (posting_ending l.self ≡ posting_ending l.initial.self) × (l.self.place + length l.self.bytes.now ≤ max_bytes)

abbrev pub decreases-loop-item : goal.decreases-loop-item
decreases-loop-item l = length l.self.bytes.now
