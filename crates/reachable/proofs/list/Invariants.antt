use Prim.Native.Nat.{◌≤◌}
use lib.ListN.{get_or}
use Rattle.reachable.proofs.Steps.{Filled}
use Rattle.reachable.proofs.list.Given as goal

abbrev pub invariant-loop-l : goal.invariant-loop-l
invariant-loop-l l =
    (l.n ≤ l.l) × Filled (λ k. get_or l.lowest k 0) l.level l.q l.n l.l
