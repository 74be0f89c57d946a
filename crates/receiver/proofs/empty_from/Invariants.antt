use Rattle.receiver.specs.Receiving.{empty_from}
use mathlib.Core.Path.{◌≡◌}
use Rattle.receiver.proofs.empty_from.Given as goal

abbrev pub invariant-loop-i : goal.invariant-loop-i
invariant-loop-i l =
    empty_from l.w l.i ≡ empty_from l.w l.from
