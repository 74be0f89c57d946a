-- The box's lines of a call list and their answers (docs/CALLS.md, The box). `chars` are a line's characters, `r` how far it was read.
-- Definitions only.
use Rattle.std.specs.Prelude.{Bool, false, cond, List, [], ◌∷◌, ◌++◌, ℕ, zero, suc, ◌%◌, min, ltb, eqb, length, get_or}
use Rattle.laws.specs.Span.{upto, count}
use Rattle.laws.specs.Text.{text}
use Rattle.text.specs.Words.{number_word, hex}
use Rattle.words.specs.declared.Read.{Read}
use Rattle.words.specs.Words.{decimal_of, hex_count}
use Rattle.words.specs.Lines.{read_as, is_done}
use Rattle.call_lines.specs.CallLines.{field_byte}
use Rattle.transcript.specs.Answers.{answer_line}
use Rattle.window.specs.Window.{is_kept}
use Rattle.receiver.specs.Frames.{box_bytes}
use Rattle.receiver.specs.declared.Received.{Received}
use Rattle.box_lines.specs.declared.HeardLine.{HeardLine}
use Rattle.box_lines.specs.declared.ReceptionLine.{ReceptionLine}
use Rattle.box_lines.specs.declared.PlacesLine.{PlacesLine}

-- `heard` SLOT:N HEX; there is room for so many bytes. "SLOT too wide reads as 255"
unfoldable pub heard_line : ℕ → List ℕ → Read → HeardLine
heard_line room chars r =
    let slot : Read = read_as decimal_of chars r in
    let frame : Read = read_as (hex_count room) chars slot in
    record { slot = field_byte slot.value; len = frame.value; ok = is_done chars frame }

-- `receive` NUMBER:N DB:N. "NUMBER too wide reads as 255, DB counts modulo 256"
unfoldable pub reception_line : List ℕ → Read → ReceptionLine
reception_line chars r =
    let number : Read = read_as decimal_of chars r in
    let db : Read = read_as decimal_of chars number in
    record { number = field_byte number.value; db = db.value % 256; ok = is_done chars db }

-- PLACE:N .., and whether the line ends behind them; there is room for so many. "a place past its frames is an error"
unfoldable pub places_from : ℕ → ℕ → List ℕ → Read → List ℕ × Bool
places_from zero frames chars r = ([], is_done chars r)
places_from (suc room) frames chars r =
    let q : Read = read_as decimal_of chars r in
    let rest : List ℕ × Bool = places_from room frames chars q in
    cond q.ok (cond (ltb q.value frames) (q.value ∷ rest.0, rest.1) ([], false)) ([], is_done chars r)

-- `arrive` DB:N PLACE:N ..
unfoldable pub places_line : ℕ → ℕ → List ℕ → Read → PlacesLine
places_line room frames chars r =
    let db : Read = read_as decimal_of chars r in
    let places : List ℕ × Bool = places_from room frames chars db in
    record { db = db.value % 256; n = length places.0; ok = places.1 }

-- `receive ok PAYLOAD:HEX WRONG:N BEYOND:N HANDED:HEX`, or its refusal
unfoldable pub received_line : List ℕ → Received → List ℕ → List ℕ
received_line name q handed =
    cond (eqb q.refusal 0) (name ++ text " ok" ++ hex q.payload ++ number_word q.wrong ++ number_word q.beyond ++ hex handed ++ text "\n")
    (answer_line name q.refusal)

-- `box FIRST_MISSING KEPT`
abbrev pub box_line : ℕ → ℕ → List ℕ
box_line first kept = text "box" ++ number_word first ++ number_word kept ++ text "\n"

-- how many bytes are kept, of the 32,768 places
unfoldable pub kept_count : List ℕ → ℕ
kept_count w = count (λ (i : ℕ). is_kept (get_or w i 0)) (upto 0 (min (length w) box_bytes))
