use Prim.Native.Nat.{ℕ}
use mathlib.Core.Path.{ap}
use mathlib.Core.List.{[]}
use Rattle.reachable.specs.Reachable.{listing}
use Rattle.reachable.proofs.refused.Goals as goal

pub returns : goal.returns
unfolding listing
returns c = ap (λ (n : ℕ). listing n []) c.number.ensures
