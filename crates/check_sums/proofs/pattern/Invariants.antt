-- 254 bytes.
use Rattle.std.proofs.Common.{◌≡◌, length}
use Rattle.check_sums.proofs.pattern.Given as goal

abbrev pub invariant-loop-i : goal.invariant-loop-i
invariant-loop-i l = 254 ≡ length l.p
