use Prim.Native.Nat.{◌+◌, ◌-◌}
use mathlib.Core.Path.{◌≡◌}
use Rattle.adif.specs.Adif.{digit_count}
use Rattle.adif.proofs.count_digits.Given as goal

abbrev pub invariant-loop-k : goal.invariant-loop-k
invariant-loop-k l =
    digit_count 9 l.n ≡ (l.k - 1) + digit_count (10 - l.k) l.rest
