-- The transcript's answers and its last lines (docs/CALLS.md). Definitions only.
use Rattle.std.specs.Prelude.{Bool, cond, List, ◌++◌, ℕ, ◌*◌, min, eqb, get_or}
use Rattle.laws.specs.Bytes.{part}
use Rattle.laws.specs.Span.{upto}
use Rattle.text.specs.Buffer.{each}
use Rattle.laws.specs.Text.{text}
use Rattle.text.specs.Words.{number_word, flag_word, hex, after_colon}
use Rattle.limits.specs.Limits.{max_slots}
use Rattle.reachable.specs.declared.Listing.{Listing}
use Rattle.outgoing.specs.declared.Frames.{Frames}
use Rattle.outgoing.specs.declared.Outgoing.{Outgoing}

-- `ok`, or "`refused` and document 01's number"
unfoldable pub outcome : ℕ → List ℕ
outcome k = cond (eqb k 0) (text " ok") (text " refused" ++ number_word k)

-- what a call answers, by its name
abbrev pub answer_line : List ℕ → ℕ → List ℕ
answer_line name k = name ++ outcome k ++ text "\n"

-- `burst ok WAVE CODE USER EXTRA CUE TD_EASE COUNT`
abbrev pub burst_line : Outgoing → List ℕ
burst_line b =
    text "burst ok" ++ number_word b.wave ++ number_word b.code ++ number_word b.user ++ number_word b.extra ++ flag_word b.cue
    ++ flag_word b.td_ease
    ++ number_word b.frames.n ++ text "\n"

-- `frame OFFSET LEN START BITS HEX`
abbrev pub frame_line : ℕ → ℕ → ℕ → ℕ → List ℕ → List ℕ
frame_line off len start bits bytes = text "frame" ++ number_word off ++ number_word len ++ number_word start ++ number_word bits ++ hex bytes
    ++ text "\n"

-- frame i, of `size` bytes; the frames stand in the output one after the other
abbrev pub frame_entry : Frames → ℕ → List ℕ → ℕ → List ℕ
frame_entry f size out i =
    frame_line (get_or f.off i 0) (get_or f.len i 0) (get_or f.start i 0) (get_or f.bits i 0) (part out (size * i) size)

-- a burst's line, then COUNT lines, 64 at most
unfoldable pub burst_lines : Outgoing → ℕ → List ℕ → List ℕ
burst_lines b size out = burst_line b ++ each (frame_entry b.frames size out) (upto 0 (min b.frames.n max_slots))

-- `piece HEX`
abbrev pub piece_line : List ℕ → List ℕ
piece_line bytes = text "piece" ++ hex bytes ++ text "\n"

-- `log ok TEXT`: the record's characters as they stand
abbrev pub log_line : List ℕ → List ℕ
log_line chars = text "log ok " ++ chars ++ text "\n"

-- `card ok HEX`
abbrev pub card_line : List ℕ → List ℕ
card_line bytes = text "card ok" ++ hex bytes ++ text "\n"

-- `load ok`, and `stretched` where harq_stretch was on in the file
abbrev pub load_line : Bool → List ℕ
load_line stretched = cond stretched (text "load ok stretched\n") (text "load ok\n")

-- LEVEL:Q
abbrev pub level_word : ℕ → ℕ → List ℕ
level_word level q = number_word level ++ after_colon q

abbrev pub level_entry : Listing → ℕ → List ℕ
level_entry found i = level_word (get_or found.level i 0) (get_or found.q i 0)

-- `levels ok LEVEL:Q ..`, of the places that are used
unfoldable pub levels_line : Listing → List ℕ
levels_line found = text "levels ok" ++ each (level_entry found) (upto 0 (min found.n 17)) ++ text "\n"

-- `error LINE`
abbrev pub error_line : ℕ → List ℕ
error_line k = text "error" ++ number_word k ++ text "\n"
