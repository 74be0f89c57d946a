use lib.ListN.{drop}
use Rattle.harq.specs.Held.{increment_of}
use Rattle.harq.proofs.Search.{ahead}
use Prim.Native.Nat.{◌<◌}
use mathlib.Core.Path.{◌≡◌}
use Rattle.harq.proofs.Harq.increment.Given as goal

abbrev pub invariant-loop-e : goal.invariant-loop-e
invariant-loop-e l =
    (0 < l.best → l.h < l.best) × (increment_of l.fn.self l.h l.slot ≡ ahead l.best l.h l.slot (drop l.e-index l.fn.self.ends))
