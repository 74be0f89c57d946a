-- What a line of a call list leaves that the run has looked at (docs/CALLS.md, Calls). Definitions only. `chars` are the line's characters,
-- `run` says what is to do about it and what is lent, `a` is the work area, `out` the output, `t` the transcript's buffer, `v` the numbers
-- of the profile's lines, `file` the file that stands for them.
use Rattle.std.specs.Prelude.{Bool, cond, List, ℕ, take, Some}
use Rattle.laws.specs.Bytes.{overwrite}
use Rattle.laws.specs.Text.{text}
use Rattle.config.specs.declared.Profile.{Profile}
use Rattle.queuing.specs.declared.Station.{Station}
use Rattle.queuing.specs.Station.{fresh_station}
use Rattle.words.specs.declared.Read.{Read}
use Rattle.words.specs.Lines.{begun}
use Rattle.call_lines.specs.Names.{call_of}
use Rattle.call_lines.specs.declared.names.Named.{Named}
use Rattle.call_lines.specs.declared.names.Call.TheVariants.{Short, Long}
use Rattle.look_lines.specs.Looks.{look_shown}
use Rattle.look_lines.specs.declared.Shown.{Shown}
use Rattle.run_lines.specs.declared.Run.{Run}
use Rattle.run_lines.specs.RunLines.{is_over, starts_anew, shows, zeros, profile_now}
use Rattle.list_calls.specs.declared.answers.Said.{Said}
use Rattle.list_calls.specs.Answers.{said, said_of}

-- the sender's record, or a fresh one: "`profile` starts a fresh sender"
unfoldable pub sender_left : Bool → Station → Station
sender_left anew s = cond anew fresh_station s

-- a line that is done
unfoldable pub done_said : Run → Station → Said
done_said run s = said run.ok (sender_left (starts_anew run.todo) s) run.text

-- its call: `reply` asks as a long ack does
unfoldable pub line_call : List ℕ → Named
line_call chars =
    let r : Read = begun chars (text "reply") in
    cond r.ok (record { call = Some Long; read = r }) (call_of chars)

-- one that shows something keeps the record: output and buffer after it
unfoldable pub shown_said : Named → List ℕ → Profile → Station → List ℕ → List ℕ → ℕ × List ℕ → Said × (List ℕ × List ℕ)
shown_said call chars p s a out t =
    let q : Shown × (List ℕ × List ℕ) = look_shown p s a out chars call t in
    (said q.0.ok s q.0.text, q.1)

-- where the first `most` bytes of the output are lent: the others stay
unfoldable pub showed_of : Named → List ℕ → Profile → Station → List ℕ → ℕ → List ℕ → ℕ × List ℕ → Said × (List ℕ × List ℕ)
showed_of call chars p s a most out t =
    let q : Said × (List ℕ × List ℕ) = shown_said call chars p s a (take most out) t in
    (q.0, (overwrite out 0 q.1.0, q.1.1))

-- one that asks the sender: work area, output and buffer after it
unfoldable pub asked_out : Named → List ℕ → Profile → Station → List ℕ → ℕ → List ℕ → ℕ × List ℕ → Said × (List ℕ × (List ℕ × List ℕ))
asked_out call chars p s a most out t =
    let q : Said × (List ℕ × (List ℕ × List ℕ)) = said_of p s a (take most out) chars call t in
    (q.0, (q.1.0, (overwrite out 0 q.1.1.0, q.1.1.1)))

-- "that much of the work area", and of the output, "is lent"
unfoldable pub asked_of : Named → List ℕ → Run → Profile → Station → List ℕ → List ℕ → List ℕ → Said × (List ℕ × (List ℕ × List ℕ))
asked_of call chars run p s a out t =
    let q : Said × (List ℕ × (List ℕ × List ℕ)) = asked_out call chars p s (take run.area a) run.out out (run.text, t) in
    (q.0, (overwrite a 0 q.1.0, q.1.1))

-- the work area stays as it was
abbrev pub area_beside : List ℕ → Said × (List ℕ × List ℕ) → Said × (List ℕ × (List ℕ × List ℕ))
area_beside a q = (q.0, (a, q.1))

-- a call: the output is zeros before it
unfoldable pub called_of : List ℕ → Run → Profile → Station → List ℕ → List ℕ → List ℕ → Said × (List ℕ × (List ℕ × List ℕ))
called_of chars run p s a out t =
    cond (shows run.todo) (area_beside a (showed_of (line_call chars) chars p s a run.out (zeros out) (run.text, t)))
    (asked_of (line_call chars) chars run p s a (zeros out) t)

-- a line that is done, or a call under the profile
unfoldable pub answered_of : List ℕ → Run → Station → List ℕ → List ℕ → List ℕ → List ℕ → List ℕ → Said × (List ℕ × (List ℕ × List ℕ))
answered_of chars run s a out t v file =
    cond (is_over run.todo) (done_said run s, (a, (out, t))) (called_of chars run (profile_now run v file) s a out t)
