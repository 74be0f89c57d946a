use Prim.Native.Nat.{◌-◌, ◌≤◌}
use mathlib.Core.Path.{◌≡◌}
use Rattle.calendar.specs.Calendar.{month_of}
use Rattle.calendar.proofs.date_in.Given as goal

abbrev pub invariant-loop-month : goal.invariant-loop-month
invariant-loop-month l =
    (l.left ≤ l.d) × (month_of 11 l.year 1 l.d ≡ month_of (12 - l.month) l.year l.month l.left)
