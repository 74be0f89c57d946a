use Rattle.levels.specs.Usable.{climbs, climb_above}
use Rattle.laws.specs.Span.{upto, last_of}
use Rattle.std.proofs.Common.{◌≡◌}
use Rattle.levels.proofs.usable.Holds.climb_above.Given as goal

abbrev pub invariant-loop-k : goal.invariant-loop-k
invariant-loop-k l =
    climb_above l.self l.class l.skip l.at l.n l.now ≡ last_of (climbs l.self l.class l.skip l.now) l.left l.to (upto l.k 17)
