-- How ADIF reads a record: its syntax, apart from the writer's definitions. Definitions only.
-- A field is `<NAME:COUNT>` or `<NAME:COUNT:TYPE>`, then COUNT characters of whatever kind; what stands before the next `<` counts for
-- nothing; `<EOR>` ends the record.
use Rattle.std.specs.Prelude.{ℕ, zero, suc, ◌+◌, ◌-◌, ◌*◌, Bool, true, false, cond, ◌&&◌, List, [], ◌∷◌, eqb, length, take, drop}
use Rattle.calendar.specs.declared.Date.{Date}
use Rattle.calendar.specs.declared.Time.{Time}
use Rattle.adif.specs.Adif.{Field}

-- what stands before the first c, and behind it
unfoldable pub before_first : ℕ → List ℕ → List ℕ
before_first c [] = []
before_first c (x ∷ xs) = cond (eqb x c) [] (x ∷ before_first c xs)

unfoldable pub after_first : ℕ → List ℕ → List ℕ
after_first c [] = []
after_first c (x ∷ xs) = cond (eqb x c) xs (after_first c xs)

-- the number that digits spell, after those that spell v
unfoldable pub number_in : ℕ → List ℕ → ℕ
number_in v [] = v
number_in v (c ∷ cs) = number_in (10 * v + (c - 48)) cs

unfoldable pub alike : List ℕ → List ℕ → Bool
alike [] [] = true
alike [] (y ∷ ys) = false
alike (x ∷ xs) [] = false
alike (x ∷ xs) (y ∷ ys) = eqb x y && alike xs ys

-- the tag, and what stands behind it
abbrev pub tag_of : List ℕ → List ℕ
tag_of bs = before_first 62 (after_first 60 bs)

abbrev pub data_of : List ℕ → List ℕ
data_of bs = after_first 62 (after_first 60 bs)

abbrev pub tag_count : List ℕ → ℕ
tag_count tag = number_in 0 (before_first 58 (after_first 58 tag))

-- the fields up to `<EOR>`, at most k, and what stands behind that
unfoldable pub read_fields : ℕ → List ℕ → List Field × List ℕ
read_fields zero bs = ([], bs)
read_fields (suc k) bs =
    cond (alike (tag_of bs) (69 ∷ 79 ∷ 82 ∷ []))
    ([], data_of bs)
    (let n = tag_count (tag_of bs) in
    let r = read_fields k (drop n (data_of bs)) in (record { name = before_first 58 (tag_of bs); value = take n (data_of bs) } ∷ r.0, r.1))

-- a record of any number of fields
abbrev pub read_record : List ℕ → List Field × List ℕ
read_record bs = read_fields (length bs) bs

-- the characters of the field with a name
unfoldable pub value_of : List ℕ → List Field → List ℕ
value_of name [] = []
value_of name (f ∷ fs) = cond (alike f.name name) f.value (value_of name fs)

-- a date YYYYMMDD and a time HHMMSS
abbrev pub date_in : List ℕ → Date
date_in cs = record { year = number_in 0 (take 4 cs); month = number_in 0 (take 2 (drop 4 cs)); day = number_in 0 (take 2 (drop 6 cs)) }

abbrev pub time_in : List ℕ → Time
time_in cs = record { hour = number_in 0 (take 2 cs); minute = number_in 0 (take 2 (drop 2 cs)); second = number_in 0 (take 2 (drop 4 cs)) }
