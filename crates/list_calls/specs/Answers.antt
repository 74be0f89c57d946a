-- What a call of a list that asks the sender answers and leaves (docs/CALLS.md, Calls). Definitions only. `a` is the work area, `out` the
-- output, `t` the transcript's buffer and what is used of it, `chars` are the line's characters, `r` how far it was read.
use Rattle.std.specs.Prelude.{Bool, true, false, cond, ◌&&◌, List, ℕ, ◌%◌, eqb, ltb, take, Option, Some, None, is_some}
use Rattle.laws.specs.Text.{text}
use Rattle.config.specs.Durations.{frame_bytes}
use Rattle.config.specs.declared.Profile.{Profile}
use Rattle.queuing.specs.declared.Station.{Station}
use Rattle.sender.specs.declared.Burst.{Burst}
use Rattle.sender.specs.declared.LeftBurst.{LeftBurst}
use Rattle.sender.specs.declared.Left.{Left}
use Rattle.sender.specs.declared.Place.{Place}
use Rattle.sender.specs.Numbered.{burst_number, find_number}
use Rattle.sender.specs.Calls.{find_of, piece_of, burst_call}
use Rattle.text.specs.Buffer.{appended}
use Rattle.transcript.specs.Answers.{answer_line, burst_lines, piece_line}
use Rattle.words.specs.declared.Read.{Read}
use Rattle.words.specs.Words.{decimal_of}
use Rattle.words.specs.Lines.{read_as, is_done}
use Rattle.call_lines.specs.CallLines.{hex_room}
use Rattle.call_lines.specs.declared.names.Named.{Named}
use Rattle.call_lines.specs.declared.names.Call.{Call}
use Rattle.call_lines.specs.declared.names.Call.TheVariants as C
use Rattle.list_calls.specs.declared.AskLine.{AskLine}
use Rattle.list_calls.specs.declared.answers.Said.{Said}
use Rattle.list_calls.specs.declared.answers.Wrote.{Wrote}
use Rattle.list_calls.specs.Asked.{ask_line, made}

-- whether the line was right, the record after it, and what is used of the buffer
abbrev pub said : Bool → Station → ℕ → Said
said ok s n = record { ok = ok; text = n; next = s }

-- with the buffer after it
abbrev pub told : Bool → Station → ℕ × List ℕ → Said × List ℕ
told ok s t = (said ok s t.0, t.1)

-- a frame's size at a level, which is below 17 where a burst is made
unfoldable pub frame_size : Profile → ℕ → ℕ
frame_size p level = cond (ltb level 17) (frame_bytes p level) 0

-- `burst ok ..` and a line for each frame, or "its name, `refused` and its number"
unfoldable pub burst_text : Burst → ℕ → List ℕ → List ℕ
burst_text b size out = cond (eqb b.refusal 0) (burst_lines b.outgoing size out) (answer_line (text "burst") b.refusal)

-- the burst that was made, with the work area, the output and the buffer after it
abbrev pub sent : ℕ → ℕ × List ℕ → LeftBurst × (List ℕ × List ℕ) → Said × (List ℕ × (List ℕ × List ℕ))
sent size t b =
    let q : Said × List ℕ = told true b.0.next (appended t (burst_text b.0.burst size b.1.1)) in
    (q.0, (b.1.0, (b.1.1, q.1)))

unfoldable pub burst_said : Profile → Station → List ℕ → List ℕ → ℕ × List ℕ → Said × (List ℕ × (List ℕ × List ℕ))
burst_said p s a out t = sent (frame_size p s.sender.gear.level) t (burst_number (burst_call p s a out))

-- `piece HEX`, `piece none`, or its refusal. "A `piece` OFFSET above 2^32 - 1 finds none"
unfoldable pub piece_answer : Place → List ℕ → ℕ → List ℕ
piece_answer found bytes at =
    cond (eqb found.refusal 0) (cond (found.here && ltb at 4294967296) (piece_line bytes) (text "piece none\n"))
    (answer_line (text "piece") found.refusal)

-- the call is made with the 32 bits of an offset
abbrev pub piece_text : Profile → Station → List ℕ → ℕ → List ℕ
piece_text p s a at = piece_answer (find_number (find_of p s a (at % 4294967296))) (piece_of p s a (at % 4294967296)) at

-- the answer to a line that is right, with the buffer after it
unfoldable pub piece_told : Bool → ℕ × List ℕ → List ℕ → Wrote × List ℕ
piece_told ok t chars = let u : ℕ × List ℕ = cond ok (appended t chars) t in (record { ok = ok; text = u.0 }, u.1)

abbrev pub piece_wrote : Profile → Station → List ℕ → List ℕ → Read → ℕ × List ℕ → Wrote × List ℕ
piece_wrote p s a chars r t = let q : Read = read_as decimal_of chars r in piece_told (is_done chars q) t (piece_text p s a q.value)

-- the answer to a line that is right, by its first word
unfoldable pub answered : Bool → ℕ → List ℕ → Read → ℕ × List ℕ → ℕ × List ℕ
answered ok refusal chars r t = cond ok (appended t (answer_line (take r.at chars) refusal)) t

-- what a call left, and the work area after it, with the buffer after the answer
abbrev pub replied : List ℕ → Read → Bool → ℕ × List ℕ → Left × List ℕ → Said × (List ℕ × List ℕ)
replied chars r ok t left =
    let q : Said × List ℕ = told ok left.0.next (answered ok left.0.refusal chars r t) in
    (q.0, (left.1, q.1))

-- how many bytes go with a line
abbrev pub bytes_with : Option AskLine → ℕ
bytes_with None = 0
bytes_with (Some q) = q.len

-- a queuing, a reply or a reception; any other line breaks the rules
unfoldable pub ask_said : Profile → Station → List ℕ → List ℕ → Named → ℕ × List ℕ → Said × (List ℕ × List ℕ)
ask_said p s a chars n t =
    let q : Option AskLine × List ℕ = ask_line hex_room chars n in
    replied chars n.read (is_some q.0) t (made p s a q.0 (take (bytes_with q.0) q.1))

-- the output stays as it is; so do the record and the work area
abbrev pub keeping : List ℕ → Said × (List ℕ × List ℕ) → Said × (List ℕ × (List ℕ × List ℕ))
keeping out q = (q.0, (q.1.0, (out, q.1.1)))

abbrev pub keeping_all : Station → List ℕ → List ℕ → Wrote × List ℕ → Said × (List ℕ × (List ℕ × List ℕ))
keeping_all s a out q = (said q.0.ok s q.0.text, (a, (out, q.1)))

-- the question for a piece, where r says how far the line was read, or a line that asks the sender
abbrev pub said_by : Option Call → Profile → Station → List ℕ → List ℕ → List ℕ → Named → ℕ × List ℕ
    → Said × (List ℕ × (List ℕ × List ℕ))
said_by (Some C.Piece) p s a out chars n t = keeping_all s a out (piece_wrote p s a chars n.read t)
said_by _ p s a out chars n t = keeping out (ask_said p s a chars n t)

-- `burst` has no other word
abbrev pub is_burst : Option Call → Bool
is_burst (Some C.Burst) = true
is_burst _ = false

-- by the call
unfoldable pub said_of : Profile → Station → List ℕ → List ℕ → List ℕ → Named → ℕ × List ℕ
    → Said × (List ℕ × (List ℕ × List ℕ))
said_of p s a out chars n t =
    cond (is_burst n.call && is_done chars n.read) (burst_said p s a out t) (said_by n.call p s a out chars n t)
