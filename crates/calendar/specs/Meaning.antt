-- What dates and times mean, apart from how they are found. Definitions only.
use Rattle.std.specs.Prelude.{ℕ, zero, suc, ◌+◌, ◌-◌, ◌*◌, ◌/◌, ◌≤◌, ◌≡◌}
use Rattle.calendar.specs.declared.Date.{Date}
use Rattle.calendar.specs.declared.Time.{Time}
use Rattle.calendar.specs.Calendar.{last_second, year_days, month_days, date_of, time_of}

-- f a + f (a + 1) + .., n of them
unfoldable pub sum_from : (ℕ → ℕ) → ℕ → ℕ → ℕ
sum_from f a zero = 0
sum_from f a (suc n) = f a + sum_from f (a + 1) n

-- a day's number, 0 for 1 January 1970: the days of the years before, of the months before, and of the month
abbrev pub day_number : Date → ℕ
day_number d = sum_from year_days 1970 (d.year - 1970) + (sum_from (month_days d.year) 1 (d.month - 1) + (d.day - 1))

-- a date that the calendar has
pub record Valid (d : Date) : Type 0 where
  pub january : 1 ≤ d.month
  pub december : d.month ≤ 12
  pub first : 1 ≤ d.day
  pub last : d.day ≤ month_days d.year d.month

-- the second that a date and a time mean
abbrev pub second_of : Date → Time → ℕ
second_of d t = 86400 * day_number d + (3600 * t.hour + (60 * t.minute + t.second))

-- a date of the calendar, 1970 to 2099, with day number n
pub record Dated (n : ℕ) (d : Date) : Type 0 where
  pub back : day_number d ≡ n
  pub valid : Valid d
  pub from : 1970 ≤ d.year
  pub to : d.year ≤ 2099

-- ---- the claims, proved in proofs/Laws.antt

abbrev pub DateBack : Type 0
DateBack = (t : ℕ) → t ≤ last_second → Dated (t / 86400) (date_of t)

abbrev pub SecondBack : Type 0
SecondBack = (t : ℕ) → t ≤ last_second → second_of (date_of t) (time_of t) ≡ t
