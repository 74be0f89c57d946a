-- What a line of a call list leaves that does not ask the sender: the run, the box, and what is lent beside them (docs/CALLS.md).
-- Definitions only. `chars` are the line's characters, `s` is what is told of the sender; `w` is the box's window, `h` the bytes of the frames heard,
-- `sent` the last burst's frames, `out` the output, `t` the transcript's buffer, `l` the line that is to ask, `area` the work area, `v` the
-- numbers of the profile's lines, `file` the file that stands for them.
use Rattle.std.specs.Prelude.{Bool, cond, List, ℕ, eqb, ltb}
use Rattle.laws.specs.Text.{text}
use Rattle.words.specs.Lines.{begun}
use Rattle.box_calls.specs.declared.Box.{Box}
use Rattle.box_calls.specs.declared.BoxLeft.{BoxLeft}
use Rattle.box_calls.specs.BoxCalls.{fresh_box, burst_sent, long_ack_line, listen_said}
use Rattle.run_lines.specs.declared.Run.{Run}
use Rattle.run_lines.specs.declared.Told.{Told}
use Rattle.run_lines.specs.declared.Todo.TheVariants.{Asks, Shows}
use Rattle.run_lines.specs.RunLines.{RunLeft, zeros, looked_at, left_by, to_ask, is_box, quiet_line}
use Rattle.line_steps.specs.declared.RunAndBox.{RunAndBox}

-- the run and the box
abbrev pub run_and_box : Run → Box → RunAndBox
run_and_box run b = record { run = run; next = b }

-- ---- the box as it stands before a line

-- "A box is fresh after `profile` and `load`", and its window is all zeros: box and window
unfoldable pub box_standing : Bool → Box → List ℕ → Box × List ℕ
box_standing anew b w = cond anew (fresh_box, zeros w) (b, w)

-- it knows the last burst that left the sender, which has another number than the one before: box and frames
unfoldable pub burst_noted : Run → Told → Box → List ℕ → List ℕ → Box × List ℕ
burst_noted run s b out sent =
    cond (eqb s.number run.number) (b, sent) (burst_sent s.number s.frames run.size out (b, sent))

-- box, window and frames
unfoldable pub box_before : Run → Told → Box → List ℕ → List ℕ → List ℕ → Box × (List ℕ × List ℕ)
box_before run s b w out sent =
    let x : Box × List ℕ = burst_noted run s b out sent in
    let y : Box × List ℕ = box_standing run.anew x.0 w in
    (y.0, (y.1, x.1))

-- ---- a line of the box

-- "`reply` .. is a long ack whose payload is the box's last answer": how many characters it has then, and the line
unfoldable pub reply_as_long : List ℕ → Box → List ℕ → ℕ × List ℕ
reply_as_long chars b l = cond (begun chars (text "reply")).ok (long_ack_line chars b l) (0, l)

-- any other is asked of the box: window, frames heard and buffer
unfoldable pub listened_step : List ℕ → Run → Box → List ℕ → List ℕ → List ℕ → List ℕ → RunAndBox × (List ℕ × (List ℕ × List ℕ))
listened_step chars run b w h sent t =
    let q : BoxLeft × (List ℕ × (List ℕ × List ℕ)) = listen_said chars b run.out w h sent (run.text, t) in
    (run_and_box (left_by run q.0.ok q.0.text) q.0.next, q.1)

-- window, frames heard, buffer and the line that is to ask
abbrev pub BoxStepLeft : Type 0
BoxStepLeft = RunAndBox × (List ℕ × (List ℕ × (List ℕ × List ℕ)))

abbrev pub with_line : List ℕ → RunAndBox × (List ℕ × (List ℕ × List ℕ)) → BoxStepLeft
with_line l q = (q.0, (q.1.0, (q.1.1.0, (q.1.1.1, l))))

unfoldable pub box_asked : List ℕ → Run → Box → List ℕ → List ℕ → List ℕ → List ℕ → List ℕ → BoxStepLeft
box_asked chars run b w h sent t l =
    let k : ℕ × List ℕ = reply_as_long chars b l in
    cond (ltb 0 k.0) (run_and_box (to_ask run Asks k.0) b, (w, (h, (t, k.1))))
    (with_line k.1 (listened_step chars run b w h sent t))

-- a line that is not the box's leaves all as it was
unfoldable pub box_or_not : List ℕ → Run → Box → List ℕ → List ℕ → List ℕ → List ℕ → List ℕ → BoxStepLeft
box_or_not chars run b w h sent t l =
    cond (is_box chars run) (box_asked chars run b w h sent t l) (run_and_box run b, (w, (h, (t, l))))

-- with the box as it stands before the line, and the last burst's frames after it
unfoldable pub box_step : List ℕ → Run → Told → Box → List ℕ → List ℕ → List ℕ → List ℕ → List ℕ → List ℕ
    → RunAndBox × (List ℕ × (List ℕ × (List ℕ × (List ℕ × List ℕ))))
box_step chars run s b w h sent out t l =
    let x : Box × (List ℕ × List ℕ) = box_before run s b w out sent in
    let q : BoxStepLeft = box_or_not chars (looked_at run s.number) x.0 x.1.0 h x.1.1 t l in
    (q.0, (x.1.1, q.1))

-- ---- a line: work area, buffer, numbers, file, the line that is to ask; window, frames heard, last burst's frames

abbrev pub LineLeft : Type 0
LineLeft = RunAndBox × ((List ℕ × (List ℕ × (List ℕ × (List ℕ × List ℕ)))) × (List ℕ × (List ℕ × List ℕ)))

-- the box first; then the lines that are not the box's
unfoldable pub line_step : List ℕ → Run → Told → Box → List ℕ → List ℕ → List ℕ → List ℕ → List ℕ → List ℕ → List ℕ → List ℕ → List ℕ
    → LineLeft
line_step chars run s b area out t v file l w h sent =
    let x : RunAndBox × (List ℕ × (List ℕ × (List ℕ × (List ℕ × List ℕ)))) = box_step chars run s b w h sent out t l in
    let y : RunLeft = quiet_line chars x.0.run s area x.1.1.1.1.0 v file x.1.1.1.1.1 in
    (run_and_box y.0 x.0.next, (y.1, (x.1.1.0, (x.1.1.1.0, x.1.0))))
