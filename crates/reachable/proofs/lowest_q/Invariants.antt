use Prim.Native.Nat.{◌+◌, ◌≤◌}
use mathlib.Core.Path.{◌≡◌}
use Rattle.reachable.specs.Reachable.{chosen_by}
use Rattle.reachable.proofs.Steps.{lowest_from}
use Rattle.reachable.proofs.lowest_q.Given as goal

abbrev pub invariant-loop-q : goal.invariant-loop-q
invariant-loop-q l =
    (l.low ≤ l.q) × (l.q ≤ l.high + 1) × (l.lowest ≡ lowest_from (chosen_by l.marks l.power l.class l.top) l.q (l.high + 1))
