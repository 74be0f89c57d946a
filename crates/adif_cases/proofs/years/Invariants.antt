-- A year has at most 366 days.
use Rattle.std.proofs.Common.{◌-◌, ◌*◌, ◌≤◌}
use Rattle.adif_cases.proofs.years.Given as goal

abbrev pub invariant-loop-y : goal.invariant-loop-y
invariant-loop-y g l = l.s ≤ 31622400 * (l.y - 1970)
