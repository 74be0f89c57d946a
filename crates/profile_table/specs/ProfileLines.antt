-- The lines of a profile (docs/CALLS.md, The profile): each has a first word, and values that go to places of the table. Definitions only.
use Rattle.std.specs.Prelude.{Bool, cond, List, [], ◌∷◌, ℕ, ◌+◌, ◌-◌, ◌*◌, min, ltb, eqb, get_or, set, Option, Some, None}
use Rattle.laws.specs.Steps.{steps}
use Rattle.profile_table.specs.declared.listed.Kind.{Kind}
use Rattle.profile_table.specs.declared.listed.Kind.TheVariants.{Whole, Single, Double, Flag, MaybeSingle, MaybeLevel, Gear, Power, Level}
use Rattle.words.specs.declared.Read.{Read}
use Rattle.laws.specs.Text.{text}
use Rattle.words.specs.Words.{decimal_of, bits_of, flag_of, named_of, none_of, or_else}
use Rattle.words.specs.Lines.{read_as, begun, is_done}

-- ---- kinds of values

-- the kinds of a level's values: slot, pre_s, rate and max_bits
abbrev pub level_kind_at : ℕ → Kind
level_kind_at i = cond (eqb i 1) Double (cond (eqb i 2) Double Whole)

-- the kind of a line's value i
abbrev pub kind_at : Kind → ℕ → Kind
kind_at Level i = level_kind_at i
kind_at kind i = kind

-- a level that is not `none`; 17, past every level, stands for a larger one
abbrev pub at_most17 : Option ℕ → Option ℕ
at_most17 None = None
at_most17 (Some n) = Some (min n 17)

-- no value, or one of three names
abbrev pub power_of : List ℕ → Option ℕ
power_of w = or_else (named_of (text "none") 0 w) (or_else (named_of (text "mean") 1 w) (named_of (text "td") 2 w))

-- what a word of a kind means; no one word has the kind of a level's line, whose words have those of `level_kind_at`
unfoldable pub meaning_of : Kind → List ℕ → Option ℕ
meaning_of Whole w = decimal_of w
meaning_of Single w = bits_of 8 w
meaning_of Double w = bits_of 16 w
meaning_of Flag w = flag_of w
meaning_of MaybeSingle w = or_else (none_of w) (bits_of 8 w)
meaning_of MaybeLevel w = or_else (none_of w) (at_most17 (decimal_of w))
meaning_of Gear w = or_else (named_of (text "ladder") 0 w) (named_of (text "goodput") 1 w)
meaning_of Power w = power_of w
meaning_of Level w = power_of w

-- ---- the lines

-- a line's first word, its values' kind and number, and the place of the first of them in the table
pub record Line : Type 0 where
  pub name : List ℕ
  pub kind : Kind
  pub count : ℕ
  pub at : ℕ

abbrev pub line_of : List ℕ → Kind → ℕ → ℕ → Line
line_of name kind count at = record { name = name; kind = kind; count = count; at = at }

-- those after the 17 levels, but for the last
unfoldable pub lines : List Line
lines =
    line_of (text "ack_s") Double 6 68
    ∷ line_of (text "cue_s") Double 1 74
    ∷ line_of (text "frame_bytes") Whole 2 75
    ∷ line_of (text "harq") Whole 7 77
    ∷ line_of (text "burst") Double 4 84
    ∷ line_of (text "hold") Double 3 88
    ∷ line_of (text "thresholds_db") Single 17 91
    ∷ line_of (text "eff_thresholds_db") Single 17 108
    ∷ line_of (text "db") Single 4 125
    ∷ line_of (text "start_margin_db") MaybeSingle 1 129
    ∷ line_of (text "burst_climb_db") MaybeSingle 1 130
    ∷ line_of (text "levels") Whole 2 131
    ∷ line_of (text "pin_level") MaybeLevel 1 133
    ∷ line_of (text "gear") Gear 1 134
    ∷ line_of (text "power") Power 1 135
    ∷ []

-- the line k after `profile`, from 0 up; `on` is the last
unfoldable pub line_at : ℕ → Line
line_at k = cond (ltb k 17) (line_of (text "level") Level 4 (4 * k)) (get_or lines (k - 17) (line_of (text "on") Flag 10 136))

-- ---- a line read

-- how far it was read, and the table
abbrev pub Reading : Type 0
Reading = Read × List ℕ

-- its value i
unfoldable pub value_read : List ℕ → Kind → ℕ → ℕ → Reading → Reading
value_read chars kind at i q =
    let r : Read = read_as (meaning_of (kind_at kind i)) chars q.0 in (r, set q.1 (at + i) r.value)

-- all of them
unfoldable pub line_read : List ℕ → Line → List ℕ → Reading
line_read chars l v = steps (value_read chars l.kind l.at) l.count (begun chars l.name, v)

-- whether that was the whole line
abbrev pub line_ok : List ℕ → Line → List ℕ → Bool
line_ok chars l v = is_done chars (line_read chars l v).0
