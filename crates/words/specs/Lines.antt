-- A line read word by word (docs/CALLS.md, Lines and words): the list of its characters, without its line feed. Definitions only.
use Rattle.std.specs.Prelude.{Bool, true, false, cond, ◌&&◌, ◌||◌, List, [], ℕ, ◌+◌, ◌-◌, ◌≤◌, leb, ltb, eqb, length, get_or, set}
use Rattle.std.specs.Prelude.{Option, Some, None, unwrap_or}
use Rattle.laws.specs.Bytes.{part}
use Rattle.laws.specs.Span.{upto, first}
use Rattle.words.specs.declared.Cut.{Cut}
use Rattle.words.specs.declared.Read.{Read}
use Rattle.words.specs.declared.Input.{Input}
use Rattle.words.specs.declared.taken.Taken.{Taken}
use Rattle.words.specs.declared.taken.Taken.TheVariants.{Whole, End, Bad, More}
use Rattle.words.specs.Words.{named_of}

-- where a word ends that starts at a place: at the first space from there on, or at the line's end
unfoldable pub end_of : List ℕ → ℕ → ℕ
end_of line at = first (λ (k : ℕ). eqb (get_or line k 0) 32) (length line) (upto at (length line))

-- the first word of a line
unfoldable pub first_word : List ℕ → Cut
first_word line = record { from = 0; to = end_of line 0 }

-- the word after what was read: it stands after one space
unfoldable pub next_word : List ℕ → Read → Option Cut
next_word line r =
    cond (r.ok && (ltb r.at (length line) && eqb (get_or line r.at 0) 32)) (Some (record { from = r.at + 1; to = end_of line (r.at + 1) })) None

-- a word stands inside its line
pub record Inside (c : Cut) (line : List ℕ) : Type 0 where
  pub ordered : c.from ≤ c.to
  pub within : c.to ≤ length line

-- so does one that there may be
abbrev pub AnyInside : Option Cut → List ℕ → Type 0
AnyInside None line = Unit {0}
AnyInside (Some c) line = Inside c line

-- its characters; no word has none
abbrev pub chars_of : List ℕ → Option Cut → List ℕ
chars_of line None = []
chars_of line (Some c) = part line c.from (c.to - c.from)

-- the line is read to the word's end, and the word means n; else it was read no further
abbrev pub read_to : Option Cut → Option ℕ → Read
read_to (Some c) (Some n) = record { at = c.to; ok = true; value = n }
read_to (Some c) None = record { at = c.to; ok = false; value = 0 }
read_to None n = record { at = 0; ok = false; value = unwrap_or n 0 }

-- the next word, by what words of its kind mean
unfoldable pub read_as : (List ℕ → Option ℕ) → List ℕ → Read → Read
read_as meaning line r = read_to (next_word line r) (meaning (chars_of line (next_word line r)))

-- the first word, if it is `name`
unfoldable pub begun : List ℕ → List ℕ → Read
begun line name = read_to (Some (first_word line)) (named_of name 0 (chars_of line (Some (first_word line))))

-- nothing is left
abbrev pub is_done : List ℕ → Read → Bool
is_done line r = r.ok && eqb r.at (length line)

-- ---- a line out of what was read of the input

-- the place, how much of the line there is, and what became of it
abbrev pub stand : Input → ℕ → ℕ → Taken → Input
stand i at len kind = record { at = at; end = i.end; len = len; kind = kind }

-- where the input ends, a line without a line feed breaks the rules
abbrev pub ended_of : Input → Input
ended_of i = stand i i.at i.len (cond (eqb i.len 0) End Bad)

-- one character more. A line ends with a line feed, has characters below 128, and no more than there is room for
unfoldable pub one_taken : List ℕ → ℕ → Input → Input
one_taken chunk room i =
    cond (leb i.end i.at || leb (length chunk) i.at) (ended_of i)
    (cond (eqb (get_or chunk i.at 0) 10) (stand i (i.at + 1) i.len Whole)
    (cond (leb 128 (get_or chunk i.at 0) || leb room i.len) (stand i (i.at + 1) i.len Bad) (stand i (i.at + 1) (i.len + 1) More)))

-- the line goes on
abbrev pub goes_on : Taken → Bool
goes_on More = true
goes_on Whole = false
goes_on End = false
goes_on Bad = false

-- where it does, the character stands at its end
unfoldable pub line_taken : List ℕ → List ℕ → Input → List ℕ
line_taken chunk line i = cond (goes_on (one_taken chunk (length line) i).kind) (set line i.len (get_or chunk i.at 0)) line
