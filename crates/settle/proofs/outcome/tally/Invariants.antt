use mathlib.Core.Path.{◌≡◌}
use Prim.Native.Nat.{◌≤◌}
use lib.ListN.{drop}
use Rattle.settle.specs.OutcomesCode.{tallied_from, tallied}
use Rattle.settle.proofs.outcome.tally.Given as goal

abbrev pub invariant-loop-i : goal.invariant-loop-i
invariant-loop-i l =
    (l.t.fresh ≤ l.i) × (l.t.fresh_got ≤ l.i) × (l.t.got ≤ l.i) × (tallied l.bitmap l.bits l.held ≡ tallied_from l.t l.b (drop l.i l.bits) (drop l.i l.held))
