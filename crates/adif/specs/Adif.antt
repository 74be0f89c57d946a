-- A finished link as one ADIF 3 record (document 02, Change 13). Definitions only.
use Rattle.std.specs.Prelude.{ℕ, zero, suc, ◌+◌, ◌/◌, ◌%◌, Bool, cond, ◌&&◌, ◌||◌, List, [], ◌∷◌, ◌++◌, leb, ltb, eqb, length, get_or}
use Rattle.laws.specs.Span.{every, upto}
use Rattle.laws.specs.Bytes.{overwrite}
use Rattle.calendar.specs.Calendar.{date_of, time_of, last_second}
use Rattle.adif.specs.declared.Logged.{Logged}
use Rattle.adif.specs.declared.Refusal.{Refusal}
use Rattle.adif.specs.declared.Refusal.TheVariants.{CallSign, Times, ShortOutput}

-- ---- numbers as characters

-- the last k digits of n, zeros in front
unfoldable pub last_digits : ℕ → ℕ → List ℕ
last_digits zero n = []
last_digits (suc k) n = last_digits k (n / 10) ++ ((48 + n % 10) ∷ [])

-- how many digits n has, of at most k + 1
unfoldable pub digit_count : ℕ → ℕ → ℕ
digit_count zero n = 1
digit_count (suc k) n = cond (ltb n 10) 1 (suc (digit_count k (n / 10)))

-- "in decimal with no leading zero", of a number below 10^10
unfoldable pub numeral : ℕ → List ℕ
numeral n = last_digits (digit_count 9 n) n

-- "Dates are eight digits", year, month, day
unfoldable pub date_text : ℕ → List ℕ
date_text t = last_digits 4 (date_of t).year ++ (last_digits 2 (date_of t).month ++ last_digits 2 (date_of t).day)

-- "and times six": hour, minute, second
unfoldable pub time_text : ℕ → List ℕ
time_text t = last_digits 2 (time_of t).hour ++ (last_digits 2 (time_of t).minute ++ last_digits 2 (time_of t).second)

-- ---- the record

-- "Each field is `<NAME:count>` and its characters, with no spaces between"
unfoldable pub written : List ℕ → List ℕ → List ℕ
written name value = (60 ∷ []) ++ (name ++ ((58 ∷ []) ++ (numeral (length value) ++ ((62 ∷ []) ++ value))))

pub record Field : Type 0 where
  pub name : List ℕ
  pub value : List ℕ

-- the fields, "then `<EOR>`"
abbrev pub written_all : List Field → List ℕ
written_all [] = 60 ∷ 69 ∷ 79 ∷ 82 ∷ 62 ∷ []
written_all (f ∷ fs) = written f.name f.value ++ written_all fs

abbrev pub «CALL» : List ℕ
«CALL» = 67 ∷ 65 ∷ 76 ∷ 76 ∷ []

abbrev pub QSO_DATE : List ℕ
QSO_DATE = 81 ∷ 83 ∷ 79 ∷ 95 ∷ 68 ∷ 65 ∷ 84 ∷ 69 ∷ []

abbrev pub TIME_ON : List ℕ
TIME_ON = 84 ∷ 73 ∷ 77 ∷ 69 ∷ 95 ∷ 79 ∷ 78 ∷ []

abbrev pub QSO_DATE_OFF : List ℕ
QSO_DATE_OFF = 81 ∷ 83 ∷ 79 ∷ 95 ∷ 68 ∷ 65 ∷ 84 ∷ 69 ∷ 95 ∷ 79 ∷ 70 ∷ 70 ∷ []

abbrev pub TIME_OFF : List ℕ
TIME_OFF = 84 ∷ 73 ∷ 77 ∷ 69 ∷ 95 ∷ 79 ∷ 70 ∷ 70 ∷ []

abbrev pub APP_STATION_ACKED : List ℕ
APP_STATION_ACKED = 65 ∷ 80 ∷ 80 ∷ 95 ∷ 83 ∷ 84 ∷ 65 ∷ 84 ∷ 73 ∷ 79 ∷ 78 ∷ 95 ∷ 65 ∷ 67 ∷ 75 ∷ 69 ∷ 68 ∷ []

-- "CALL, QSO_DATE, TIME_ON, QSO_DATE_OFF, TIME_OFF, APP_STATION_ACKED"
abbrev pub fields_of : List ℕ → ℕ → ℕ → ℕ → List Field
fields_of call on off acked =
    record { name = «CALL»; value = call }
    ∷ record { name = QSO_DATE; value = date_text on }
    ∷ record { name = TIME_ON; value = time_text on }
    ∷ record { name = QSO_DATE_OFF; value = date_text off }
    ∷ record { name = TIME_OFF; value = time_text off }
    ∷ record { name = APP_STATION_ACKED; value = numeral acked }
    ∷ []

unfoldable pub record_of : List ℕ → ℕ → ℕ → ℕ → List ℕ
record_of call on off acked = written_all (fields_of call on off acked)

-- ---- the refusals

-- "capitals, digits or slashes"
unfoldable pub sign_char : ℕ → Bool
sign_char c = eqb c 47 || ((leb 48 c && leb c 57) || (leb 65 c && leb c 90))

-- "The call sign has 1 to 12" of them
unfoldable pub sign_ok : List ℕ → Bool
sign_ok s = leb 1 (length s) && (leb (length s) 12 && every (λ i. sign_char (get_or s i 0)) (upto 0 (length s)))

-- "a bad call sign with 20, then a time past 2099 or an end before the start with 21, then an output under 256 bytes with 22"
unfoldable pub refusal_of : List ℕ → ℕ → ℕ → ℕ → ℕ
refusal_of call on off room =
    cond (sign_ok call) (cond (ltb last_second on || (ltb last_second off || ltb off on)) 21 (cond (ltb room 256) 22 0)) 20

-- a refusal's number
abbrev pub number_of : Refusal → ℕ
number_of CallSign = 20
number_of Times = 21
number_of ShortOutput = 22

-- ---- the call: the answer and the output, kept where it refuses and past the record

unfoldable pub log_of : List ℕ → ℕ → ℕ → ℕ → List ℕ → Logged × List ℕ
log_of call on off acked out =
    cond (eqb (refusal_of call on off (length out)) 0)
    (record { refusal = 0; len = length (record_of call on off acked) }, overwrite out 0 (record_of call on off acked))
    (record { refusal = refusal_of call on off (length out); len = 0 }, out)
