-- A year has 365 or 366 days.
use Rattle.std.proofs.Common.{ℕ, ◌≤◌, arith}
use Rattle.laws.proofs.Picks.{either}
use Rattle.calendar.specs.Calendar.{leap_year, year_days}
use Rattle.adif_cases.proofs.years.Goals as goal

least : (y : ℕ) → 365 ≤ year_days y
unfolding year_days
least y = either (λ (x : ℕ). 365 ≤ x) (leap_year y) 366 365 (omega arith) (omega arith)

most : (y : ℕ) → year_days y ≤ 366
unfolding year_days
most y = either (λ (x : ℕ). x ≤ 366) (leap_year y) 366 365 (omega arith) (omega arith)

pub overflow_mul-s : goal.overflow_mul-s
overflow_mul-s g c = omega (arith, c.year_days-n.ensures, most c.loop-y.y)

pub overflow_add-s-in-loop-y-4 : goal.overflow_add-s-in-loop-y-4
overflow_add-s-in-loop-y-4 g c = omega (arith, c.year_days-n.ensures, most c.loop-y.y)

pub overflow_sub-s : goal.overflow_sub-s
overflow_sub-s g c = omega (arith, c.year_days-n.ensures, least c.loop-y.y)

pub loop-y-preserved : goal.loop-y-preserved
loop-y-preserved g c = omega (arith, c.year_days-n.ensures, most c.loop-y.y)
