use Rattle.laws.specs.Span.{upto, fold}
use Rattle.std.proofs.Common.{◌≡◌, ◌-◌, ◌≤◌}
use Rattle.levels.specs.Memory.{channel_failed, marked}
use Rattle.levels.proofs.memory.Tries.channel_failed.Given as goal

abbrev pub invariant-loop-k : goal.invariant-loop-k
invariant-loop-k l =
    (channel_failed l.initial.t l.at l.now ≡ fold (marked l.at l.now) l.t (upto l.k 17)) × (l.k ≤ 17)

abbrev pub decreases-loop-k : goal.decreases-loop-k
decreases-loop-k l =
    17 - l.k
