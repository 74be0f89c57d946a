use Prim.Native.Nat.{◌-◌, ◌≤◌}
use Rattle.area_check.proofs.flying.Laws.{many}
use mathlib.Core.Path.{◌≡◌}
use Rattle.area_check.proofs.flying.is_flying.Given as goal

abbrev pub invariant-loop-low : goal.invariant-loop-low
invariant-loop-low l =
    (l.low ≤ l.high) × (l.high ≤ l.n) × (many l.a l.n l.off 0 l.low ≡ 0) × (many l.a l.n l.off l.high (l.n - l.high) ≡ 0)

abbrev pub decreases-loop-low : goal.decreases-loop-low
decreases-loop-low l =
    l.high - l.low
