-- The date of a second up to the end of 2099 is one that the calendar has, and means the second's day; with the time of day it means the
-- second. Month by month from a month on, then year by year from a year on, with the days before as a sum.
-- Assumes nothing.
use Prim.Native.Nat.{ℕ, zero, suc, ◌+◌, ◌-◌, ◌/◌, ◌≤◌, ◌<◌}
use mathlib.Core.Path.{◌≡◌, refl, ap}
use native.Mathlib.Omega.{arith}
use borrow.Author.Tests.{ltb-true, ltb-false}
use lib.Dec.{ltb}
use Rattle.laws.proofs.Picks.{by, test}
use Rattle.calendar.specs.Calendar.{leap_year, year_days, month_days, month_of, year_of}
use Rattle.calendar.specs.Meaning.{sum_from, day_number, Valid, Dated, DateBack, SecondBack}
use Rattle.calendar.specs.declared.Date.{Date}

-- ---- sums

total-none : (f : ℕ → ℕ) (a : ℕ) → sum_from f a 0 ≡ 0
unfolding sum_from
total-none f a = refl

-- one more at the end
total-more : (f : ℕ → ℕ) (a n : ℕ) → sum_from f a (suc n) ≡ sum_from f a n + f (a + n)
unfolding sum_from
total-more f a zero =
    let e : f (a + 0) ≡ f a = ap f (omega arith) in
    omega arith
total-more f a (suc n) =
    let ih = total-more f (a + 1) n in
    let e : f (a + 1 + n) ≡ f (a + suc n) = ap f (omega arith) in
    omega arith

-- the months make the year
year-months : (y : ℕ) → sum_from (month_days y) 1 12 ≡ year_days y
unfolding sum_from month_days year_days
year-months y = test (leap_year y) (λ e. rw e) (λ e. rw e)

-- ---- in a year

-- a date of the year y, n days after its first
record InYear (y n : ℕ) (r : Date) : Type 0 where
  pub year : r.year ≡ y
  pub back : sum_from (month_days y) 1 (r.month - 1) + (r.day - 1) ≡ n
  pub valid : Valid r

here : (y m d : ℕ) → 1 ≤ m → m ≤ 12 → d < month_days y m
    → InYear y (sum_from (month_days y) 1 (m - 1) + d) (record { year = y; month = m; day = d + 1 })
here y m d h k l =
    record { year = refl; back = omega arith; valid = record { january = h; december = k; first = omega arith; last = omega arith } }

in-year : (k y m d : ℕ) → 1 ≤ m → m + k ≡ 12 → d < sum_from (month_days y) m (suc k)
    → InYear y (sum_from (month_days y) 1 (m - 1) + d) (month_of k y m d)
unfolding month_of sum_from
in-year zero y m d h e l = here y m d h (omega arith) (omega arith)
in-year (suc k) y m d h e l =
    by (InYear y (sum_from (month_days y) 1 (m - 1) + d)) (ltb d (month_days y m))
    (λ t. here y m d h (omega arith) (ltb-true _ _ t))
    (λ t.
    let g : month_days y m ≤ d = ltb-false _ _ t in
    let i : m + 1 - 1 ≡ suc (m - 1) = omega arith in
    let j : sum_from (month_days y) 1 (m + 1 - 1) ≡ sum_from (month_days y) 1 (suc (m - 1)) = ap (sum_from (month_days y) 1) i in
    let f : month_days y (1 + (m - 1)) ≡ month_days y m = ap (month_days y) (omega arith) in
    let s = total-more (month_days y) 1 (m - 1) in
    let q : sum_from (month_days y) 1 (m + 1 - 1) + (d - month_days y m) ≡ sum_from (month_days y) 1 (m - 1) + d = omega arith in
    rw q at (in-year k y (m + 1) (d - month_days y m) (omega arith) (omega arith) (omega arith)))

-- ---- over the years

year-day : (y d : ℕ) → 1970 ≤ y → y ≤ 2099 → d < year_days y → Dated (sum_from year_days 1970 (y - 1970) + d) (month_of 11 y 1 d)
year-day y d h k l =
    let l' : d < sum_from (month_days y) 1 12 = rw (year-months y) l in
    let r = in-year 11 y 1 d (omega arith) (omega arith) l' in
    let b : day_number (month_of 11 y 1 d) ≡ sum_from year_days 1970 (y - 1970) + d =
    rw r.year (omega (arith, r.back, total-none (month_days y) 1)) in
    record { back = b; valid = r.valid; from = omega arith; to = omega arith }

dated : (k y d : ℕ) → 1970 ≤ y → y + k ≤ 2099 → d < sum_from year_days y (suc k) → Dated (sum_from year_days 1970 (y - 1970) + d) (year_of k y d)
unfolding year_of sum_from
dated zero y d h e l = year-day y d h (omega arith) (omega arith)
dated (suc k) y d h e l =
    by (Dated (sum_from year_days 1970 (y - 1970) + d)) (ltb d (year_days y))
    (λ t. year-day y d h (omega arith) (ltb-true _ _ t))
    (λ t.
    let g : year_days y ≤ d = ltb-false _ _ t in
    let i : y + 1 - 1970 ≡ suc (y - 1970) = omega arith in
    let j : sum_from year_days 1970 (y + 1 - 1970) ≡ sum_from year_days 1970 (suc (y - 1970)) = ap (sum_from year_days 1970) i in
    let v : 1970 + (y - 1970) ≡ y = omega arith in
    let f : year_days (1970 + (y - 1970)) ≡ year_days y = ap year_days v in
    let s = total-more year_days 1970 (y - 1970) in
    let q : sum_from year_days 1970 (y + 1 - 1970) + (d - year_days y) ≡ sum_from year_days 1970 (y - 1970) + d = omega arith in
    rw q at (dated k (y + 1) (d - year_days y) (omega arith) (omega arith) (omega arith)))

all-years : sum_from year_days 1970 130 ≡ 47482
unfolding sum_from year_days
all-years = refl

pub date-back : DateBack
date-back t h =
    let z : sum_from year_days 1970 (1970 - 1970) + t / 86400 ≡ t / 86400 = omega (arith, total-none year_days 1970) in
    rw z at (dated 129 1970 (t / 86400) (omega arith) (omega arith) (omega (arith, all-years)))

pub second_back : SecondBack
second_back t h =
    let e = (date-back t h).back in
    omega arith
