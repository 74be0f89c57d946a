use Rattle.gear.specs.BurstLength.{next_entry}
use Rattle.laws.specs.Span.{upto, fold}
use Rattle.config.specs.Entries.{entry_at}
use Rattle.float.specs.Pick.{min_f}
use Rattle.std.proofs.Common.{◌≡◌, ◌+◌, ◌-◌}
use Rattle.gear.proofs.burst_length.next_entry.Given as goal

abbrev pub invariant-loop-k : goal.invariant-loop-k
invariant-loop-k l =
    (next_entry l.marks l.at l.top ≡ fold (λ x j. min_f x (entry_at l.marks j)) l.least (upto l.k (l.top + 1))) × (l.k-end ≡ l.top + 1)

abbrev pub decreases-loop-k : goal.decreases-loop-k
decreases-loop-k l =
    l.top + 1 - l.k
