-- What a line of a call list asks of the sender, and what its call leaves (docs/CALLS.md, Calls). Definitions only. `a` is the work area,
-- `chars` are the line's characters, `r` how far it was read; the bytes of its HEX are put at the start of `bytes`.
use Rattle.std.specs.Prelude.{Bool, cond, List, ℕ, length, Option, Some, None}
use Rattle.config.specs.declared.Profile.{Profile}
use Rattle.queuing.specs.declared.Station.{Station}
use Rattle.refusals.specs.declared.Reply.TheVariants as R
use Rattle.sender.specs.declared.Left.{Left}
use Rattle.sender.specs.Numbered.{answer_number}
use Rattle.sender.specs.Calls.{Answer, queue_of, receive_of, frames_of}
use Rattle.words.specs.declared.Read.{Read}
use Rattle.words.specs.Words.{hex_into}
use Rattle.words.specs.Lines.{chars_of, next_word}
use Rattle.call_lines.specs.CallLines.{connect_line, short_line, turn_line, long_line, frames_line, long_wishes, queue_line}
use Rattle.call_lines.specs.declared.ConnectLine.{ConnectLine}
use Rattle.call_lines.specs.declared.ShortLine.{ShortLine}
use Rattle.call_lines.specs.declared.TurnLine.{TurnLine}
use Rattle.call_lines.specs.declared.LongLine.{LongLine}
use Rattle.call_lines.specs.declared.QueueLine.{QueueLine}
use Rattle.call_lines.specs.declared.FramesLine.{FramesLine}
use Rattle.call_lines.specs.declared.names.Named.{Named}
use Rattle.call_lines.specs.declared.names.Call.{Call}
use Rattle.call_lines.specs.declared.names.Call.TheVariants as C
use Rattle.list_calls.specs.declared.AskLine.{AskLine}
use Rattle.list_calls.specs.declared.Ask.{Ask}
use Rattle.list_calls.specs.declared.Ask.TheVariants as A

-- a line that asks so, if it is right; n bytes go with it
abbrev pub if_right : Bool → Ask → ℕ → Option AskLine
if_right ok ask n = cond ok (Some (record { ask = ask; len = n })) None

unfoldable pub connect_asks : List ℕ → Read → Option AskLine
connect_asks chars r = let q : ConnectLine = connect_line chars r in if_right q.ok (A.Reply q.heard (R.ConnAck q.reply)) 0

unfoldable pub short_asks : List ℕ → Read → Option AskLine
short_asks chars r = let q : ShortLine = short_line chars r in if_right q.ok (A.Reply q.heard (R.Ack q.reply)) 0

unfoldable pub turn_asks : List ℕ → Read → Option AskLine
turn_asks chars r = let q : TurnLine = turn_line chars r in if_right q.ok (A.Reply q.heard (R.Turn q.reply)) 0

-- with the bytes after it, as those below
unfoldable pub long_asks : List ℕ → List ℕ → Read → Option AskLine × List ℕ
long_asks bytes chars r =
    let q : LongLine = long_line (length bytes) chars r in (
      if_right q.ok (A.Reply q.heard (R.LongAck q.reply)) q.payload,
      hex_into bytes (chars_of chars (next_word chars (long_wishes chars r).read)),
    )

unfoldable pub frames_asks : List ℕ → List ℕ → Read → Option AskLine × List ℕ
frames_asks bytes chars r =
    let q : FramesLine × List ℕ = frames_line bytes chars r in (if_right q.0.ok (A.Reception q.0.heard q.0.reception) q.0.used, q.1)

unfoldable pub queue_asks : List ℕ → List ℕ → Read → Option AskLine × List ℕ
queue_asks bytes chars r =
    let q : QueueLine = queue_line (length bytes) chars r in (
      if_right q.ok (A.Message (record { class = q.class; label = q.label })) q.len,
      hex_into bytes (chars_of chars (next_word chars r)),
    )

-- by the call, where r says how far the line was read; a line of another call breaks the rules
abbrev pub asked_by : Option Call → List ℕ → List ℕ → Read → Option AskLine × List ℕ
asked_by (Some C.Short) bytes chars r = (short_asks chars r, bytes)
asked_by (Some C.Long) bytes chars r = long_asks bytes chars r
asked_by (Some C.Turn) bytes chars r = (turn_asks chars r, bytes)
asked_by (Some C.Connect) bytes chars r = (connect_asks chars r, bytes)
asked_by (Some C.Frames) bytes chars r = frames_asks bytes chars r
asked_by (Some C.Queue) bytes chars r = queue_asks bytes chars r
asked_by _ bytes chars r = (None, bytes)

unfoldable pub ask_line : List ℕ → List ℕ → Named → Option AskLine × List ℕ
ask_line bytes chars n = asked_by n.call bytes chars n.read

-- the call that is asked for
abbrev pub requested : Profile → Station → List ℕ → Ask → List ℕ → Answer × List ℕ
requested p s a (A.Message m) bytes = queue_of p s a m.class m.label bytes
requested p s a (A.Reception h q) bytes = frames_of p s a h q bytes
requested p s a (A.Reply h q) bytes = receive_of p s a h q bytes

-- the call that was made, where the line is right; "a line that breaks these rules" makes none
unfoldable pub made : Profile → Station → List ℕ → Option AskLine → List ℕ → Left × List ℕ
made p s a (Some q) bytes = answer_number (requested p s a q.ask bytes)
made p s a None bytes = (record { refusal = 0; next = s }, a)
