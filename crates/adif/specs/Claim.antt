-- "The count in a field always equals the characters that follow, and reading the fields gives the numbers back" (document 02, Change 13).
-- Definitions only.
use Rattle.std.specs.Prelude.{ℕ, ◌≤◌, ◌<◌, ◌≡◌, List, length, drop, get_or}
use Rattle.calendar.specs.Meaning.{second_of}
use Rattle.adif.specs.Adif.{Field, fields_of, refusal_of, log_of, «CALL», QSO_DATE, TIME_ON, QSO_DATE_OFF, TIME_OFF}
use Rattle.adif.specs.Adif.{APP_STATION_ACKED}
use Rattle.adif.specs.Reading.{number_in, read_record, value_of, date_in, time_in}

-- what is read of an output: the fields fs up to `<EOR>`, then rest, which is the output's as it was
pub record LogHolds (call : List ℕ) (on off acked : ℕ) (out : List ℕ) (fs : List Field) (rest : List ℕ) : Type 0 where
  pub fields : fs ≡ fields_of call on off acked
  pub kept : rest ≡ drop (log_of call on off acked out).0.len out
  pub sign : value_of «CALL» fs ≡ call
  pub start : second_of (date_in (value_of QSO_DATE fs)) (time_in (value_of TIME_ON fs)) ≡ on
  pub end : second_of (date_in (value_of QSO_DATE_OFF fs)) (time_in (value_of TIME_OFF fs)) ≡ off
  pub dates : (length (value_of QSO_DATE fs) ≡ 8) × (length (value_of QSO_DATE_OFF fs) ≡ 8)
  pub times : (length (value_of TIME_ON fs) ≡ 6) × (length (value_of TIME_OFF fs) ≡ 6)
  pub count : number_in 0 (value_of APP_STATION_ACKED fs) ≡ acked
  -- "with no leading zero"
  pub leading : 1 ≤ acked → 49 ≤ get_or (value_of APP_STATION_ACKED fs) 0 0

-- of every accepted call; proved in proofs/Laws.antt
abbrev pub ReadBack : Type 0
ReadBack = (call : List ℕ) (on off acked : ℕ) (out : List ℕ) → refusal_of call on off (length out) ≡ 0 → acked < 4294967296
    → let r = read_record (log_of call on off acked out).1 in LogHolds call on off acked out r.0 r.1
