-- The run of a call list, and what its lines leave that ask neither the sender nor the box (docs/CALLS.md). Definitions only.
-- `chars` are a line's characters, `s` is what is told of the sender, `area` the work area, `t` the transcript's buffer, of which
-- `run.text` is used, `v` the numbers of the profile's lines, `file` the file that stands for them, `l` the line that is to ask.
use Rattle.std.specs.Prelude.{Bool, true, false, cond, not, ◌&&◌, ◌||◌, List, ℕ, ◌+◌, ◌%◌, leb, ltb, eqb, length, get_or, take, replicate, Option, Some, None, is_none}
use Rattle.laws.specs.Bytes.{overwrite}
use Rattle.laws.specs.Text.{text}
use Rattle.text.specs.Buffer.{appended}
use Rattle.words.specs.declared.Read.{Read}
use Rattle.words.specs.Words.{decimal_of}
use Rattle.words.specs.Lines.{read_as, begun, is_done}
use Rattle.area.specs.Layout.{area_bytes}
use Rattle.config.specs.declared.Profile.{Profile}
use Rattle.profile_table.specs.Table.{profile_of}
use Rattle.profile_table.specs.ProfileLines.{line_at, line_ok, line_read}
use Rattle.card.specs.Card.{read_of}
use Rattle.call_lines.specs.CallLines.{hex_room}
use Rattle.call_lines.specs.Names.{call_of}
use Rattle.call_lines.specs.declared.names.Named.{Named}
use Rattle.call_lines.specs.declared.names.Call.{Call}
use Rattle.call_lines.specs.declared.names.Call.TheVariants as C
use Rattle.look_lines.specs.Looks.{file_in, load_of}
use Rattle.look_lines.specs.declared.LoadLine.{LoadLine}
use Rattle.state_lines.specs.State.{end_line}
use Rattle.transcript.specs.Answers.{answer_line, load_line}
use Rattle.run_lines.specs.declared.Run.{Run}
use Rattle.run_lines.specs.declared.Told.{Told}
use Rattle.run_lines.specs.declared.Todo.{Todo}
use Rattle.run_lines.specs.declared.Todo.TheVariants.{New, Done, Anew, Asks, Shows}
use Rattle.run_lines.specs.RunLinesCode.{run_of, with_stage, with_file, with_ok, with_anew, with_todo, with_len, with_area, with_out}
use Rattle.run_lines.specs.RunLinesCode.{with_text, with_last_number, with_size}

-- ---- the run

-- a line was not looked at
abbrev pub is_new : Todo → Bool
is_new New = true
is_new _ = false

-- it is done, as is one that was not looked at: no call is to be made
abbrev pub is_over : Todo → Bool
is_over New = true
is_over Done = true
is_over Anew = true
is_over _ = false

-- it is done, and a fresh sender starts
abbrev pub starts_anew : Todo → Bool
starts_anew Anew = true
starts_anew _ = false

-- it shows something
abbrev pub shows : Todo → Bool
shows Shows = true
shows _ = false

-- lines of a profile after its first
abbrev pub profile_lines : ℕ
profile_lines = 33

-- bytes of output that a profile lends: "an output of 32,768 zeros, all lent"
abbrev pub out_bytes : ℕ
out_bytes = 32768

-- before the first line: no profile was begun (its stage is past every line of one), and a fresh box starts
abbrev pub none_yet : Run
none_yet = run_of 1000 0 true true Done 0 0 0 0 0 0

-- before a line: no box is to start any more, and the last burst's number is known
abbrev pub looked_at : Run → ℕ → Run
looked_at run number = with_anew false (with_last_number number (with_todo New run))

-- after a line: whether it was right, and what is used of the transcript's buffer
abbrev pub left_by : Run → Bool → ℕ → Run
left_by run ok n = with_ok ok (with_text n (with_todo Done run))

-- after a line that is right
unfoldable pub wrote_to : Run → ℕ → Run
wrote_to run n = with_text n (with_todo Done run)

-- after one that "breaks these rules"
abbrev pub broken_run : Run → Run
broken_run run = with_ok false (with_todo Done run)

-- a line of n characters is to ask
abbrev pub to_ask : Run → Todo → ℕ → Run
to_ask run todo n = with_todo todo (with_len n run)

-- ---- a line

-- "A line that is empty or begins with `#` is passed over."
unfoldable pub passed_over : List ℕ → Bool
passed_over chars = eqb (length chars) 0 || eqb (get_or chars 0 0) 35

-- `profile` has no other word
abbrev pub is_profile : List ℕ → Bool
is_profile chars = is_done chars (begun chars (text "profile"))

-- a call stands after a whole profile
unfoldable pub is_call : List ℕ → Run → Bool
is_call chars run = (eqb run.stage profile_lines && not (passed_over chars)) && not (is_profile chars)

-- `load` "may come before a profile", not within one
unfoldable pub is_load : List ℕ → Run → Bool
is_load chars run = leb profile_lines run.stage && (begun chars (text "load")).ok

-- whether a line is the box's, or none that there is
unfoldable pub is_box : List ℕ → Run → Bool
is_box chars run = (is_call chars run && not (is_load chars run)) && is_none (call_of chars).call

-- ---- profiles

-- "`end TAKEN WAITING FLYING ACKED` .. stands before each later `profile`, .. and before the answer to each later `load` that is
-- taken": how much of the buffer is used then, and the buffer
unfoldable pub ended : Run → Told → List ℕ → ℕ × List ℕ
ended run s t = cond (eqb run.stage profile_lines) (appended (run.text, t) (end_line s.counts s.withdrawn)) (run.text, t)

-- `profile`: the sender before it ends, and a fresh one is there while the profile's lines follow
unfoldable pub profile_begun : Run → Told → List ℕ → Run × List ℕ
profile_begun run s t = let u : ℕ × List ℕ = ended run s t in (with_stage 0 (with_todo Anew (with_text u.0 run)), u.1)

-- "`profile` starts a fresh sender, a work area of 65,536 zeros of which 49,152 are lent, and an output of 32,768 zeros, all lent":
-- so it stands at the last of the profile's lines
unfoldable pub started : Run → Run
started run = with_stage profile_lines (with_file 0 (with_anew true (with_todo Done (with_area area_bytes (with_out out_bytes run)))))

abbrev pub zeros : List ℕ → List ℕ
zeros area = replicate (length area) 0

-- "These lines follow, in this order": the run, the work area and the numbers after the next of them
unfoldable pub next_line : List ℕ → Run → List ℕ → List ℕ → Run × (List ℕ × List ℕ)
next_line chars run area v =
    let k : ℕ = run.stage in
    let w : List ℕ = (line_read chars (line_at k) v).1 in
    cond (line_ok chars (line_at k) v)
    (cond (leb 32 k) (started run, (zeros area, w)) (with_stage (k + 1) (with_todo Anew run), (area, w)))
    (broken_run run, (area, w))

-- with the buffer as it was, with work area and numbers as they were
abbrev pub buffer_kept : List ℕ → Run × (List ℕ × List ℕ) → Run × (List ℕ × (List ℕ × List ℕ))
buffer_kept t (q, (area, v)) = (q, (area, (t, v)))

abbrev pub area_kept : List ℕ → List ℕ → Run × List ℕ → Run × (List ℕ × (List ℕ × List ℕ))
area_kept area v (q, t) = (q, (area, (t, v)))

-- a line of a profile, or one that begins it: run, work area, buffer and numbers
unfoldable pub profile_part : List ℕ → Run → Told → List ℕ → List ℕ → List ℕ → Run × (List ℕ × (List ℕ × List ℕ))
profile_part chars run s area t v =
    cond (passed_over chars) (with_todo Done run, (area, (t, v)))
    (cond (ltb run.stage profile_lines) (buffer_kept t (next_line chars run area v))
    (cond (is_profile chars) (area_kept area v (profile_begun run s t)) (broken_run run, (area, (t, v)))))

-- `load ok`: the file of n bytes stands for the profile, "all else as after `profile`"
unfoldable pub loaded : Run → ℕ → Bool → List ℕ → List ℕ → Run × (List ℕ × List ℕ)
loaded run n stretched area t =
    let u : ℕ × List ℕ = appended (run.text, t) (load_line stretched) in
    (with_file n (with_todo Anew (with_text u.0 (started run))), (zeros area, u.1))

-- "where a sender was there before, its `end` line stands before"; the file is kept: run, work area, buffer and file
unfoldable pub file_taken : Run → Told → List ℕ → Bool → List ℕ → List ℕ → List ℕ → Run × (List ℕ × (List ℕ × List ℕ))
file_taken run s b stretched area t file =
    let p : Run × List ℕ = profile_begun run s t in
    let q : Run × (List ℕ × List ℕ) = loaded p.0 (length b) stretched area p.1 in
    (q.0, (q.1.0, (q.1.1, overwrite file 0 b)))

-- `load HEX`: "`load refused N` changes nothing"
unfoldable pub loads : List ℕ → Run → Told → List ℕ → List ℕ → List ℕ → List ℕ → Run × (List ℕ × (List ℕ × List ℕ))
loads chars run s area t v file =
    let q : LoadLine = load_of (profile_of v) hex_room chars in
    let u : ℕ × List ℕ = appended (run.text, t) (answer_line (text "load") q.refusal) in
    cond q.ok
    (cond (eqb q.refusal 0) (file_taken run s (take q.len (file_in hex_room chars)) q.stretched area t file)
    (wrote_to run u.0, (area, (u.1, file))))
    (broken_run run, (area, (t, file)))

-- the profile, by its lines or by its file
unfoldable pub profile_now : Run → List ℕ → List ℕ → Profile
profile_now run v file = cond (eqb run.file 0) (profile_of v) (read_of (take run.file file) (profile_of v)).1

-- ---- calls

-- LENGTH:N, `most` at most
unfoldable pub length_of : List ℕ → Read → ℕ → Option ℕ
length_of chars r most =
    let q : Read = read_as decimal_of chars r in cond (is_done chars q && leb q.value most) (Some q.value) None

-- "`area` LENGTH:N, 65,536 at most", "`out` LENGTH:N, 32,768 at most"
abbrev pub most_lent : Option Call → ℕ
most_lent (Some C.Area) = 65536
most_lent _ = out_bytes

-- "that much of the work area", or output, "is lent from here on"
unfoldable pub lent : Option Call → Run → ℕ → Run
lent (Some C.Area) run n = with_area n run
lent _ run n = with_out n run

-- `area ok`, `out ok`
unfoldable pub lent_text : Option Call → List ℕ
lent_text (Some C.Area) = answer_line (text "area") 0
lent_text _ = answer_line (text "out") 0

-- what such a line leaves, where it is right
abbrev pub lent_or_broken : Option Call → Option ℕ → Run → List ℕ → Run × List ℕ
lent_or_broken call None run t = (broken_run run, t)
lent_or_broken call (Some n) run t =
    let u : ℕ × List ℕ = appended (run.text, t) (lent_text call) in (lent call (wrote_to run u.0) n, u.1)

unfoldable pub lends : Named → List ℕ → Run → List ℕ → Run × List ℕ
lends n chars run t = lent_or_broken n.call (length_of chars n.read (most_lent n.call)) run t

-- the size of a frame: `frame_bytes` short, up to level 4, or long
unfoldable pub size_at : ℕ → ℕ → ℕ → ℕ
size_at level short long = cond (leb level 4) (short % 65536) (long % 65536)

unfoldable pub size_now : Run → ℕ → List ℕ → List ℕ → ℕ
size_now run level v file = let p : Profile = profile_now run v file in size_at level p.short_bytes p.long_bytes

-- of the last burst: `burst` sets it
unfoldable pub size_after : Option Call → Run → ℕ → List ℕ → List ℕ → ℕ
size_after (Some C.Burst) run level v file = size_now run level v file
size_after _ run level v file = run.size

-- what a call is to do: `connect` to `piece` and `frames` ask the sender, as does a line of no call
unfoldable pub todo_of : Option Call → Todo
todo_of (Some C.Log) = Shows
todo_of (Some C.State) = Shows
todo_of (Some C.Area) = Shows
todo_of (Some C.Out) = Shows
todo_of (Some C.Levels) = Shows
todo_of (Some C.Messages) = Shows
todo_of (Some C.Card) = Shows
todo_of _ = Asks

-- a line that asks or shows: it stands in `l`
unfoldable pub asks : Option Call → List ℕ → Run → List ℕ → Run × List ℕ
asks call chars run l = (to_ask run (todo_of call) (length (take (length l) chars)), overwrite l 0 chars)

-- with that line as it was; with a size, and the buffer as it was
abbrev pub line_kept : List ℕ → Run × List ℕ → Run × (List ℕ × List ℕ)
line_kept l (q, t) = (q, (t, l))

abbrev pub sized : ℕ → List ℕ → Run × List ℕ → Run × (List ℕ × List ℕ)
sized size t (q, l) = (with_size size q, (t, l))

-- `area` and `out` lend
abbrev pub lends_some : Option Call → Bool
lends_some (Some C.Area) = true
lends_some (Some C.Out) = true
lends_some _ = false

-- a call: run, buffer and the line that is to ask
unfoldable pub called : Named → List ℕ → Run → ℕ → List ℕ → List ℕ → List ℕ → List ℕ → Run × (List ℕ × List ℕ)
called n chars run level t v file l =
    cond (lends_some n.call) (line_kept l (lends n chars run t))
    (sized (size_after n.call run level v file) t (asks n.call chars run l))

-- ---- any line but the box's: run, work area, buffer, numbers, file and the line that is to ask

abbrev pub RunLeft : Type 0
RunLeft = Run × (List ℕ × (List ℕ × (List ℕ × (List ℕ × List ℕ))))

-- after `load`, after a call, after a line of a profile, with the rest as it was
abbrev pub after_load : List ℕ → List ℕ → Run × (List ℕ × (List ℕ × List ℕ)) → RunLeft
after_load v l (q, (area, (t, file))) = (q, (area, (t, (v, (file, l)))))

abbrev pub after_call : List ℕ → List ℕ → List ℕ → Run × (List ℕ × List ℕ) → RunLeft
after_call area v file (q, (t, l)) = (q, (area, (t, (v, (file, l)))))

abbrev pub after_part : List ℕ → List ℕ → Run × (List ℕ × (List ℕ × List ℕ)) → RunLeft
after_part file l (q, (area, (t, v))) = (q, (area, (t, (v, (file, l)))))

-- one that was looked at is left alone
unfoldable pub quiet_line : List ℕ → Run → Told → List ℕ → List ℕ → List ℕ → List ℕ → List ℕ → RunLeft
quiet_line chars run s area t v file l =
    cond (not (is_new run.todo)) (run, (area, (t, (v, (file, l)))))
    (cond (is_load chars run) (after_load v l (loads chars run s area t v file))
    (cond (is_call chars run) (after_call area v file (called (call_of chars) chars run s.level t v file l))
    (after_part file l (profile_part chars run s area t v))))
