use Rattle.plan.specs.declared.Choice.{Choice}
use Prim.Native.Nat.{◌+◌, ◌*◌, ◌≤◌}
use mathlib.Core.Path.{◌≡◌}
use lib.ListN.{drop}
use Rattle.limits.specs.Limits.{max_bits}
use Rattle.plan.specs.PlanningCode.{parity_bits_of}
use Rattle.plan.proofs.parity_bits.Given as goal

abbrev pub invariant-loop-held : goal.invariant-loop-held
invariant-loop-held l =
    (l.sum ≤ max_bits * l.held-index) × ((c : Choice) → c.slot ≡ l.slot → parity_bits_of l.q c l.bits ≡ l.sum + parity_bits_of l.q c (drop l.held-index l.bits))
