use lib.ListN.{length, take}
use mathlib.Core.Path.{◌≡◌}
use Rattle.plan.specs.PlanningCode.{parity_bits_of, popped_from}
use Rattle.plan.proofs.pop.Given as goal

abbrev pub invariant-loop-n : goal.invariant-loop-n
invariant-loop-n l =
    (l.sum ≡ parity_bits_of l.q l.c (take l.n l.bits)) × (popped_from l.q l.c l.bits (length l.bits) ≡ popped_from l.q l.c l.bits l.n)
