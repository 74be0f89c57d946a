-- What a line of a call list answers that changes neither the record nor the work area, and the file that a line hands in (docs/CALLS.md,
-- Calls). Definitions only. `a` is the work area, `out` the output, `t` the transcript's buffer and what is used of it, `chars` are the
-- line's characters, `r` how far it was read.
use Rattle.std.specs.Prelude.{Bool, true, false, cond, List, ℕ, ◌%◌, eqb, Float, length, take, Option, Some}
use Rattle.laws.specs.Text.{text}
use Rattle.text.specs.Buffer.{appended}
use Rattle.words.specs.declared.Read.{Read}
use Rattle.words.specs.Words.{hex_count, hex_into}
use Rattle.words.specs.Lines.{chars_of, next_word, read_as, begun, is_done}
use Rattle.call_lines.specs.CallLines.{hex_room, bytes_in, log_line_read, range_line}
use Rattle.call_lines.specs.declared.LinkLine.{LinkLine}
use Rattle.call_lines.specs.declared.RangeLine.{RangeLine}
use Rattle.call_lines.specs.declared.names.Named.{Named}
use Rattle.call_lines.specs.declared.names.Call.{Call}
use Rattle.call_lines.specs.declared.names.Call.TheVariants as C
use Rattle.transcript.specs.Answers.{answer_line, log_line, card_line, levels_line}
use Rattle.state_lines.specs.State.{state_lines}
use Rattle.state_lines.specs.Queue.{messages_line}
use Rattle.gear.specs.BurstLength.{burst_seconds}
use Rattle.config.specs.declared.Profile.{Profile}
use Rattle.messages.specs.declared.Messages.{Messages}
use Rattle.queuing.specs.declared.Station.{Station}
use Rattle.reachable.specs.Reachable.{listing_under}
use Rattle.reachable.specs.declared.Listing.{Listing}
use Rattle.card.specs.Card.{card_bytes, read_of, write_of}
use Rattle.adif.specs.Adif.{log_of}
use Rattle.adif.specs.declared.Logged.{Logged}
use Rattle.look_lines.specs.declared.Shown.{Shown}
use Rattle.look_lines.specs.declared.LoadLine.{LoadLine}

-- whether the line was right, and what is used of the buffer
abbrev pub line_left : Bool → ℕ → Shown
line_left ok n = record { ok = ok; text = n }

-- with the buffer after it
abbrev pub wrote : Bool → ℕ × List ℕ → Shown × List ℕ
wrote ok t = (line_left ok t.0, t.1)

-- the answer to a line that is right
abbrev pub answering : Bool → ℕ × List ℕ → List ℕ → Shown × List ℕ
answering ok t chars = cond ok (wrote true (appended t chars)) (wrote false t)

-- `state` has no other word; usual: the profile's max_burst_s
unfoldable pub state_shown : Float → Station → List ℕ → List ℕ → Read → ℕ × List ℕ → Shown × List ℕ
state_shown usual s a chars r t =
    answering (is_done chars r) t (state_lines (burst_seconds usual s.sender.gear.burst_s) s.sender s.messages.withdrawn a)

-- `messages` has no other word
unfoldable pub messages_shown : Messages → List ℕ → Read → ℕ × List ℕ → Shown × List ℕ
messages_shown m chars r t = answering (is_done chars r) t (messages_line m)

-- `levels ok LEVEL:Q ..`, or "its name, `refused` and its number"
unfoldable pub levels_text : Listing → List ℕ
levels_text l = cond (eqb l.refusal 0) (levels_line l) (answer_line (text "levels") l.refusal)

unfoldable pub levels_shown : Profile → List ℕ → Read → ℕ × List ℕ → Shown × List ℕ
levels_shown p chars r t =
    let q : RangeLine = range_line chars r in
    answering q.ok t (levels_text (listing_under p q.class q.low q.high))

-- `card ok HEX`, or its refusal; the file stands in the output
unfoldable pub card_text : ℕ → List ℕ → List ℕ
card_text refusal out = cond (eqb refusal 0) (card_line (take card_bytes out)) (answer_line (text "card") refusal)

-- `card` has no other word
unfoldable pub card_shown : Profile → List ℕ → List ℕ → Read → ℕ × List ℕ → Shown × (List ℕ × List ℕ)
card_shown p out chars r t =
    let made : ℕ × List ℕ = write_of p out in
    let u : ℕ × List ℕ = appended t (card_text made.0 made.1) in
    cond (is_done chars r) (line_left true u.0, (made.1, u.1)) (line_left false t.0, (out, t.1))

-- `log ok TEXT`, or its refusal; the record stands in the output
unfoldable pub log_text : Logged → List ℕ → List ℕ
log_text l out = cond (eqb l.refusal 0) (log_line (take l.len out)) (answer_line (text "log") l.refusal)

-- `log HEX START END ACKED`
unfoldable pub log_shown : List ℕ → List ℕ → Read → ℕ × List ℕ → Shown × (List ℕ × List ℕ)
log_shown out chars r t =
    let q : LinkLine = log_line_read (length hex_room) chars r in
    let made : Logged × List ℕ = log_of (bytes_in q.call chars r) q.start q.end (q.acked % 4294967296) out in
    let u : ℕ × List ℕ = appended t (log_text made.0 made.1) in
    cond q.ok (line_left true u.0, (made.1, u.1)) (line_left false t.0, (out, t.1))

-- the output stays as it is
abbrev pub output_kept : List ℕ → Shown × List ℕ → Shown × (List ℕ × List ℕ)
output_kept out q = (q.0, (out, q.1))

-- by the call, where r says how far the line was read
abbrev pub shown_by : Option Call → Profile → Station → List ℕ → List ℕ → List ℕ → Read → ℕ × List ℕ → Shown × (List ℕ × List ℕ)
shown_by (Some C.State) p s a out chars r t = output_kept out (state_shown p.lengths.max_burst_s s a chars r t)
shown_by (Some C.Messages) p s a out chars r t = output_kept out (messages_shown s.messages chars r t)
shown_by (Some C.Levels) p s a out chars r t = output_kept out (levels_shown p chars r t)
shown_by (Some C.Card) p s a out chars r t = card_shown p out chars r t
shown_by _ p s a out chars r t = log_shown out chars r t

unfoldable pub look_shown : Profile → Station → List ℕ → List ℕ → List ℕ → Named → ℕ × List ℕ → Shown × (List ℕ × List ℕ)
look_shown p s a out chars n t = shown_by n.call p s a out chars n.read t

-- `load HEX`: the file is put into the bytes lent
abbrev pub loading : List ℕ → Read
loading chars = begun chars (text "load")

unfoldable pub file_in : List ℕ → List ℕ → List ℕ
file_in bytes chars = hex_into bytes (chars_of chars (next_word chars (loading chars)))

-- whether the line is right, how many bytes the file has, what reading it refuses, and whether it had harq_stretch on
unfoldable pub load_of : Profile → List ℕ → List ℕ → LoadLine
load_of p bytes chars =
    let file : Read = read_as (hex_count (length bytes)) chars (loading chars) in
    let b : List ℕ = take file.value (file_in bytes chars) in
    let found : ℕ × Profile × Bool = read_of b p in
    record { ok = is_done chars file; len = length b; refusal = found.0; stretched = found.2 }
