use Prim.Native.Nat.{◌-◌, ◌/◌, ◌≤◌}
use mathlib.Core.Path.{◌≡◌}
use Rattle.calendar.specs.Calendar.{year_of, date_of}
use Rattle.calendar.proofs.date_of.Given as goal

abbrev pub invariant-loop-y : goal.invariant-loop-y
invariant-loop-y l =
    (l.d ≤ l.t / 86400) × (date_of l.t ≡ year_of (2099 - l.y) l.y l.d)
