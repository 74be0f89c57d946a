-- Dates "worked out by the Gregorian calendar from whole seconds since 1970 in UTC, up to the end of 2099" (document 02, Change 13),
-- and the time of day. Definitions only.
use Rattle.std.specs.Prelude.{ℕ, zero, suc, ◌+◌, ◌-◌, ◌/◌, ◌%◌, Bool, cond, not, ◌&&◌, ◌||◌, ltb, eqb}
use Rattle.calendar.specs.declared.Date.{Date}
use Rattle.calendar.specs.declared.Time.{Time}

-- "the end of 2099"
abbrev pub last_second : ℕ
last_second = 4102444799

-- every fourth year, but of the years that end a century only every fourth
abbrev pub leap_year : ℕ → Bool
leap_year y = eqb (y % 4) 0 && (not (eqb (y % 100) 0) || eqb (y % 400) 0)

unfoldable pub year_days : ℕ → ℕ
year_days y = cond (leap_year y) 366 365

-- month 1 is January: 28 or 29 days in February, 30 in April, June, September and November, 31 in the others
unfoldable pub month_days : ℕ → ℕ → ℕ
month_days y m = cond (eqb m 2) (cond (leap_year y) 29 28) (cond (eqb m 4 || eqb m 6 || eqb m 9 || eqb m 11) 30 31)

-- ---- the date of a day: year by year, then month by month

-- day d of the year y, counted from the first of the month m on, which has k months behind it
unfoldable pub month_of : ℕ → ℕ → ℕ → ℕ → Date
month_of zero y m d = record { year = y; month = m; day = d + 1 }
month_of (suc k) y m d =
    cond (ltb d (month_days y m)) (record { year = y; month = m; day = d + 1 }) (month_of k y (m + 1) (d - month_days y m))

-- day d from the first of the year y on, with k years behind it
unfoldable pub year_of : ℕ → ℕ → ℕ → Date
year_of zero y d = month_of 11 y 1 d
year_of (suc k) y d = cond (ltb d (year_days y)) (month_of 11 y 1 d) (year_of k (y + 1) (d - year_days y))

abbrev pub date_of : ℕ → Date
date_of t = year_of 129 1970 (t / 86400)

abbrev pub time_of : ℕ → Time
time_of t = record { hour = t % 86400 / 3600; minute = t % 3600 / 60; second = t % 60 }
