-- "Reading the fields gives the numbers back": of every accepted call the output, read by ADIF's syntax, gives the fields, and these the
-- call sign, both seconds and the count. First each kind of value by itself, then the output as record and rest, then the claim.
-- Assumes nothing.
use Prim.Native.Nat.{ℕ, suc, ◌+◌, ◌-◌, ◌/◌, ◌%◌, ◌≤◌, ◌<◌}
use mathlib.Core.Path.{◌≡◌, refl, sym, ap, ap₂, ◌∙◌}
use mathlib.Core.Bool.{◌||◌}
use mathlib.Core.List.{List, ◌++◌}
use native.Mathlib.Omega.{arith}
use native.Mathlib.Nat.{zero-add}
use borrow.Author.Tests.{eq-eqb}
use lib.Dec.{eqb}
use lib.ListN.{length, take, drop}
use lib.Seq.{take_at, drop_at, take_all, drop-drop}
use Rattle.laws.specs.Bytes.{overwrite}
use Rattle.laws.proofs.Bytes.{over-eq, length_over}
use Rattle.laws.proofs.Picks.{either}
use Rattle.calendar.specs.declared.Date.{Date}
use Rattle.calendar.specs.declared.Time.{Time}
use Rattle.calendar.specs.Calendar.{last_second, leap_year, month_days, date_of, time_of}
use Rattle.calendar.specs.Meaning.{second_of}
use Rattle.calendar.proofs.Laws.{date-back, second_back}
use Rattle.adif.specs.declared.Logged.{Logged}
use Rattle.adif.specs.Adif.{last_digits, numeral, date_text, time_text, fields_of, written_all, record_of, refusal_of, log_of}
use Rattle.adif.specs.Adif.{«CALL», QSO_DATE, TIME_ON, QSO_DATE_OFF, TIME_OFF, APP_STATION_ACKED}
use Rattle.adif.specs.Reading.{number_in, alike, read_fields, read_record, value_of, date_in, time_in}
use Rattle.adif.specs.Claim.{LogHolds, ReadBack}
use Rattle.adif.proofs.Steps.{length_digits, length-date, length-time, decimal-most, record-most}
use Rattle.adif.proofs.Refusals.{accepted}
use Rattle.adif.proofs.Numbers.{tens, digits-back, decimal-back, no_zero}
use Rattle.adif.proofs.Reading.{AllPlain, plain-field, fields_back}

-- ---- dates and times

module _ (i j k a b c : ℕ) where
  read-1 : a < tens i → number_in 0 (take i (last_digits i a ++ (last_digits j b ++ last_digits k c))) ≡ a
  read-1 h = ap (number_in 0) (take_at (last_digits i a) _ i (length_digits i a)) ∙ digits-back i a h

  read-2 : b < tens j → number_in 0 (take j (drop i (last_digits i a ++ (last_digits j b ++ last_digits k c)))) ≡ b
  read-2 h =
      ap (λ (l : List ℕ). number_in 0 (take j l)) (drop_at (last_digits i a) _ i (length_digits i a))
      ∙ ap (number_in 0) (take_at (last_digits j b) _ j (length_digits j b))
      ∙ digits-back j b h

  read-3 : c < tens k → number_in 0 (take k (drop (i + j) (last_digits i a ++ (last_digits j b ++ last_digits k c)))) ≡ c
  read-3 h =
      let e : length (last_digits k c) ≤ k = omega (arith, length_digits k c) in
      let f : drop (i + j) (last_digits i a ++ (last_digits j b ++ last_digits k c)) ≡ last_digits k c =
      sym (drop-drop j i _) ∙ ap (drop j) (drop_at (last_digits i a) _ i (length_digits i a)) ∙ drop_at (last_digits j b) _ j (length_digits j b) in
      ap (λ (l : List ℕ). number_in 0 (take k l)) f
      ∙ ap (number_in 0) (take_all k (last_digits k c) e)
      ∙ digits-back k c h

date-eq : (d : Date) (a b c : ℕ) → a ≡ d.year → b ≡ d.month → c ≡ d.day → record { year = a; month = b; day = c } ≡ d
date-eq d a b c p q r = rw (p, q, r)

date-in-back : (d : Date) → d.year < 10000 → d.month < 100 → d.day < 100
    → date_in (last_digits 4 d.year ++ (last_digits 2 d.month ++ last_digits 2 d.day)) ≡ d
date-in-back d h g f =
    let y = d.year in
    let m = d.month in
    let n = d.day in
    date-eq d _ _ _ (read-1 4 2 2 y m n h) (read-2 4 2 2 y m n g) (read-3 4 2 2 y m n f)

month-most : (y m : ℕ) → month_days y m ≤ 31
unfolding month_days
month-most y m =
    either (λ (x : ℕ). x ≤ 31) (eqb m 2) _ _ (either (λ (x : ℕ). x ≤ 31) (leap_year y) 29 28 (omega arith) (omega arith))
    (either (λ (x : ℕ). x ≤ 31) (eqb m 4 || eqb m 6 || eqb m 9 || eqb m 11) 30 31 (omega arith) (omega arith))

pub date-text-back : (t : ℕ) → t ≤ last_second → date_in (date_text t) ≡ date_of t
unfolding date_text
date-text-back t h =
    let r = date-back t h in
    let v = r.valid in
    let m = month-most (date_of t).year (date_of t).month in
    date-in-back (date_of t) (omega (arith, r.to)) (omega (arith, v.december)) (omega (arith, v.last))

time-eq : (d : Time) (a b c : ℕ) → a ≡ d.hour → b ≡ d.minute → c ≡ d.second → record { hour = a; minute = b; second = c } ≡ d
time-eq d a b c p q r = rw (p, q, r)

pub time-text-back : (t : ℕ) → time_in (time_text t) ≡ time_of t
unfolding time_text
time-text-back t =
    let x = t % 86400 / 3600 in
    let y = t % 3600 / 60 in
    let z = t % 60 in
    time-eq (time_of t) _ _ _ (read-1 2 2 2 x y z (omega arith)) (read-2 2 2 2 x y z (omega arith)) (read-3 2 2 2 x y z (omega arith))

-- ---- the output

module _ (call : List ℕ) (on off acked : ℕ) (out : List ℕ) where
  plain : length call ≤ 12 → AllPlain (fields_of call on off acked)
  plain h = (
    plain-field «CALL» call refl refl (omega arith),
    (
      plain-field QSO_DATE (date_text on) refl refl (omega (arith, length-date on)),
      (
        plain-field TIME_ON (time_text on) refl refl (omega (arith, length-time on)),
        (
          plain-field QSO_DATE_OFF (date_text off) refl refl (omega (arith, length-date off)),
          (
            plain-field TIME_OFF (time_text off) refl refl (omega (arith, length-time off)),
            (plain-field APP_STATION_ACKED (numeral acked) refl refl (omega (arith, decimal-most acked)), tt),
          ),
        ),
      ),
    ),
  )

  record_is : record_of call on off acked ≡ written_all (fields_of call on off acked)
  unfolding record_of
  record_is = refl

  log-yes : refusal_of call on off (length out) ≡ 0
      → let r = record_of call on off acked in log_of call on off acked out ≡ (record { refusal = 0; len = length r }, overwrite out 0 r)
  unfolding log_of
  log-yes z = rw (eq-eqb (refusal_of call on off (length out)) 0 z)

  record-back : length call ≤ 12 → 256 ≤ length out
      → let r = record_of call on off acked in read_record (overwrite out 0 r) ≡ (fields_of call on off acked, drop (length r) out)
  record-back h g =
      let r = record_of call on off acked in
      let m = record-most call on off acked h in
      let n : length (overwrite out 0 r) ≡ suc (length out - 1) = omega (arith, length_over out 0 r) in
      let e : overwrite out 0 r ≡ r ++ drop (length r) out =
      over-eq out 0 r (omega arith) ∙ ap (λ (k : ℕ). r ++ drop k out) (zero-add (length r)) in
      ap (λ (k : ℕ). read_fields k (overwrite out 0 r)) n
      ∙ ap (read_fields (suc (length out - 1))) (e ∙ ap (λ (x : List ℕ). x ++ drop (length r) out) record_is)
      ∙ fields_back (fields_of call on off acked) (drop (length r) out) (length out - 1) (plain h) (omega arith)

second-text : (t : ℕ) → t ≤ last_second → second_of (date_in (date_text t)) (time_in (time_text t)) ≡ t
second-text t h = ap₂ second_of (date-text-back t h) (time-text-back t) ∙ second_back t h

module _ (call : List ℕ) (on off acked : ℕ) (out : List ℕ) (ok : refusal_of call on off (length out) ≡ 0) (width : acked < 4294967296) where
  holds : LogHolds call on off acked out (fields_of call on off acked) (drop (length (record_of call on off acked)) out)
  unfolding value_of alike
  holds =
      let a = accepted call on off (length out) ok in
      record {
        fields = refl;
        kept = ap (λ (x : Logged × List ℕ). drop x.0.len out) (sym (log-yes call on off acked out ok));
        sign = refl;
        start = second-text on a.start;
        end = second-text off a.end;
        dates = (length-date on, length-date off);
        times = (length-time on, length-time off);
        count = decimal-back acked (omega arith);
        leading = λ l. no_zero acked l (omega arith);
      }

pub read_back : ReadBack
read_back call on off acked out ok width =
    let a = accepted call on off (length out) ok in
    let r = record_of call on off acked in
    let e : (log_of call on off acked out).1 ≡ overwrite out 0 r = ap (λ (x : Logged × List ℕ). x.1) (log-yes call on off acked out ok) in
    let f : read_record (log_of call on off acked out).1 ≡ (fields_of call on off acked, drop (length r) out) =
    ap read_record e ∙ record-back call on off acked out a.short a.fits in
    rw f (holds call on off acked out ok width)
