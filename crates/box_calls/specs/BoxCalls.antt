-- The box of a call list (docs/CALLS.md, The box): what each of its lines answers, and what it leaves. Definitions only.
-- `chars` are a line's characters, `r` how far it was read; `w` is the box's window, `h` the bytes of the frames heard, `sent` the last
-- burst's frames, `t` the transcript's buffer and what is used of it.
use Rattle.std.specs.Prelude.{Bool, true, false, cond, ◌&&◌, Option, None, Some, List, [], ◌∷◌, ◌++◌, ℕ, ◌+◌, ◌*◌, min, leb, ltb, eqb, length, take, drop, set, replicate}
use Rattle.laws.specs.Bytes.{overwrite}
use Rattle.laws.specs.Text.{text}
use Rattle.text.specs.Buffer.{appended}
use Rattle.text.specs.Words.{hex}
use Rattle.words.specs.declared.Read.{Read}
use Rattle.words.specs.Words.{decimal_of}
use Rattle.words.specs.Lines.{read_as, begun, is_done}
use Rattle.call_lines.specs.CallLines.{hex_room, bytes_in}
use Rattle.transcript.specs.Answers.{answer_line}
use Rattle.receiver.specs.Receiving.{fresh_receiver, reception_of}
use Rattle.receiver.specs.declared.Listened.{Listened}
use Rattle.box_lines.specs.BoxLines.{heard_line, reception_line, places_from, places_line, received_line, box_line, kept_count}
use Rattle.box_lines.specs.declared.HeardLine.{HeardLine}
use Rattle.box_lines.specs.declared.ReceptionLine.{ReceptionLine}
use Rattle.box_lines.specs.declared.PlacesLine.{PlacesLine}
use Rattle.box_calls.specs.declared.Box.{Box}
use Rattle.box_calls.specs.declared.BoxLeft.{BoxLeft}

-- frames that may be heard before a reception, and the bytes of one that are kept: "A frame longer than 512 bytes is left out by its
-- length"
abbrev pub most_heard : ℕ
most_heard = 128

abbrev pub most_bytes : ℕ
most_bytes = 513

-- bytes that a frame of a burst has at most, and the places that a line may name
abbrev pub burst_frame_bytes : ℕ
burst_frame_bytes = 512

abbrev pub most_places : ℕ
most_places = 1024

-- "A box is fresh after `profile` and `load`": 32,768 places are lent
abbrev pub fresh_box : Box
fresh_box =
    record {
      receiver = fresh_receiver;
      lent = 32768;
      sizes = replicate most_heard 0;
      slots = replicate most_heard 0;
      heard = 0;
      used = 0;
      number = 0;
      frames = 0;
      size = 0;
      answer = None;
    }

-- whether the line was right, what is used of the buffer, and the box
abbrev pub box_left : Bool → ℕ → Box → BoxLeft
box_left ok n b = record { ok = ok; text = n; next = b }

-- a line that is wrong leaves all as it was
abbrev pub or_wrong : Bool → Box → List ℕ → ℕ × List ℕ → BoxLeft × (List ℕ × List ℕ) → BoxLeft × (List ℕ × List ℕ)
or_wrong ok b m t x = cond ok x (box_left false t.0 b, (m, t.1))

-- ---- `heard SLOT HEX`

-- one frame more for the next reception, and the bytes after it
unfoldable pub keep_frame : ℕ → List ℕ → Box × List ℕ → Box × List ℕ
keep_frame slot bytes x =
    let b = x.0 in (
      record {
        receiver = b.receiver;
        lent = b.lent;
        sizes = set b.sizes b.heard (length bytes);
        slots = set b.slots b.heard slot;
        heard = b.heard + 1;
        used = b.used + length bytes;
        number = b.number;
        frames = b.frames;
        size = b.size;
        answer = b.answer;
      },
      overwrite x.1 b.used bytes,
    )

-- as far as there is room for frames and for their bytes
unfoldable pub frame_said : ℕ → List ℕ → Box → List ℕ → ℕ × List ℕ → BoxLeft × (List ℕ × List ℕ)
frame_said slot frame b h t =
    let kept : Box × List ℕ = keep_frame slot frame (b, h) in
    let u : ℕ × List ℕ = appended t (answer_line (text "heard") 0) in
    or_wrong (ltb b.heard most_heard && leb (b.used + length frame) (length h)) b h t (box_left true u.0 kept.0, (kept.1, u.1))

unfoldable pub heard_said : List ℕ → Read → Box → List ℕ → ℕ × List ℕ → BoxLeft × (List ℕ × List ℕ)
heard_said chars r b h t =
    let q : HeardLine = heard_line (length hex_room) chars r in
    let frame : List ℕ = take most_bytes (bytes_in q.len chars (read_as decimal_of chars r)) in
    or_wrong q.ok b h t (frame_said q.slot frame b h t)

-- ---- `receive NUMBER DB` and `arrive DB PLACE ..`

-- what a reception leaves: its record and its answer; "A refused `receive` keeps the frames heard, and `arrive` neither takes nor clears
-- them"
unfoldable pub after_reception : Bool → Listened → Box → Box
after_reception heard q b =
    cond (eqb q.answer.refusal 0)
    (record {
      receiver = q.next;
      lent = b.lent;
      sizes = b.sizes;
      slots = b.slots;
      heard = cond heard 0 b.heard;
      used = cond heard 0 b.used;
      number = b.number;
      frames = b.frames;
      size = b.size;
      answer = Some q.answer.payload;
    })
    b

-- "`receive` and `arrive` .. are lent the output as bursts are"
module _ (name : List ℕ) (heard : Bool) (number db : ℕ) (bytes sizes slots : List ℕ) (b : Box) where
  unfoldable pub taken_in : List ℕ → List ℕ → ℕ × List ℕ → BoxLeft × (List ℕ × List ℕ)
  taken_in w out t =
      let x : Listened × (List ℕ × List ℕ) = reception_of b.receiver w number bytes sizes slots db out in
      let u : ℕ × List ℕ = appended t (received_line name x.0.answer (take x.0.answer.handed x.1.1)) in
      (box_left true u.0 (after_reception heard x.0 b), (x.1.0, u.1))

  -- most: the output that is lent, of 32,768 zeros
  unfoldable pub taken_said : ℕ → List ℕ → ℕ × List ℕ → BoxLeft × (List ℕ × List ℕ)
  taken_said most w t =
      let x : BoxLeft × (List ℕ × List ℕ) = taken_in (take b.lent w) (take most hex_room) t in
      (x.0, (x.1.0 ++ drop b.lent w, x.1.1))

unfoldable pub receive_said : List ℕ → Read → Box → ℕ → List ℕ → List ℕ → ℕ × List ℕ → BoxLeft × (List ℕ × List ℕ)
receive_said chars r b most w h t =
    let q : ReceptionLine = reception_line chars r in
    or_wrong q.ok b w t
    (taken_said (text "receive") true q.number q.db (take b.used h) b.sizes (take b.heard b.slots) b most w t)

-- the last burst's frames at these places, one after the other
unfoldable pub frames_at : ℕ → List ℕ → List ℕ → List ℕ
frames_at size sent [] = []
frames_at size sent (place ∷ places) = take size (drop (place * size) sent) ++ frames_at size sent places

-- room for the frames at so many places
unfoldable pub frames_room : List ℕ
frames_room = replicate (burst_frame_bytes * most_places) 0

unfoldable pub arriving_said : ℕ → List ℕ → Box → ℕ → List ℕ → List ℕ → ℕ × List ℕ → BoxLeft × (List ℕ × List ℕ)
arriving_said db places b most w sent t =
    let bytes : List ℕ = overwrite frames_room 0 (frames_at (min b.size burst_frame_bytes) sent places) in
    taken_said (text "arrive") false b.number db bytes (replicate most_places b.size) places b most w t

unfoldable pub arrive_said : List ℕ → Read → Box → ℕ → List ℕ → List ℕ → ℕ × List ℕ → BoxLeft × (List ℕ × List ℕ)
arrive_said chars r b most w sent t =
    let q : PlacesLine = places_line most_places b.frames chars r in
    let places : List ℕ = (places_from most_places b.frames chars (read_as decimal_of chars r)).0 in
    or_wrong q.ok b w t (arriving_said q.db places b most w sent t)

-- ---- `window N` and `box`

abbrev pub with_lent : ℕ → Box → Box
with_lent n b =
    record {
      receiver = b.receiver;
      lent = n;
      sizes = b.sizes;
      slots = b.slots;
      heard = b.heard;
      used = b.used;
      number = b.number;
      frames = b.frames;
      size = b.size;
      answer = b.answer;
    }

-- "from here on `receive` and `arrive` are lent the first N places of the window; N is at most 65,536"
unfoldable pub window_said : List ℕ → Read → Box → ℕ × List ℕ → BoxLeft × List ℕ
window_said chars r b t =
    let q : Read = read_as decimal_of chars r in
    let u : ℕ × List ℕ = appended t (answer_line (text "window") 0) in
    cond (is_done chars q && leb q.value 65536) (box_left true u.0 (with_lent q.value b), u.1) (box_left false t.0 b, t.1)

-- `box FIRST_MISSING KEPT`
unfoldable pub show_said : List ℕ → Read → Box → List ℕ → ℕ × List ℕ → BoxLeft × List ℕ
show_said chars r b w t =
    let u : ℕ × List ℕ = appended t (box_line b.receiver.first_missing (kept_count w)) in
    cond (is_done chars r) (box_left true u.0 b, u.1) (box_left false t.0 b, t.1)

-- ---- the lines

-- the window stays as it was
abbrev pub window_kept : List ℕ → BoxLeft × List ℕ → BoxLeft × (List ℕ × List ℕ)
window_kept w x = (x.0, (w, x.1))

unfoldable pub receptions_said : List ℕ → Box → ℕ → List ℕ → List ℕ → List ℕ → ℕ × List ℕ → BoxLeft × (List ℕ × List ℕ)
receptions_said chars b most w h sent t =
    let receives : Read = begun chars (text "receive") in
    let arrives : Read = begun chars (text "arrive") in
    cond receives.ok (receive_said chars receives b most w h t)
    (or_wrong arrives.ok b w t (arrive_said chars arrives b most w sent t))

unfoldable pub other_said : List ℕ → Box → ℕ → List ℕ → List ℕ → List ℕ → ℕ × List ℕ → BoxLeft × (List ℕ × List ℕ)
other_said chars b most w h sent t =
    let lends : Read = begun chars (text "window") in
    let shows : Read = begun chars (text "box") in
    cond lends.ok (window_kept w (window_said chars lends b t))
    (cond shows.ok (window_kept w (show_said chars shows b w t)) (receptions_said chars b most w h sent t))

-- the window, the bytes of the frames heard, and the buffer after it
unfoldable pub listen_said : List ℕ → Box → ℕ → List ℕ → List ℕ → List ℕ → ℕ × List ℕ → BoxLeft × (List ℕ × (List ℕ × List ℕ))
listen_said chars b most w h sent t =
    let hears : Read = begun chars (text "heard") in
    let heard : BoxLeft × (List ℕ × List ℕ) = heard_said chars hears b h t in
    let other : BoxLeft × (List ℕ × List ℕ) = other_said chars b most w h sent t in
    cond hears.ok (heard.0, (w, heard.1)) (other.0, (other.1.0, (h, other.1.1)))

-- ---- what a list does beside these

-- the burst that left the sender: its number, its frames, their size, and as much of the output as there is room for
unfoldable pub burst_sent : ℕ → ℕ → ℕ → List ℕ → Box × List ℕ → Box × List ℕ
burst_sent number frames size out x =
    let b = x.0 in (
      record {
        receiver = b.receiver;
        lent = b.lent;
        sizes = b.sizes;
        slots = b.slots;
        heard = b.heard;
        used = b.used;
        number = number;
        frames = frames;
        size = size;
        answer = b.answer;
      },
      overwrite x.1 0 (take (length x.1) out),
    )

-- `reply` is a long ack whose payload is the box's last answer: the line's characters, and none where it has not answered
abbrev pub long_ack_of : List ℕ → Option (List ℕ) → List ℕ → ℕ × List ℕ
long_ack_of chars None l = (0, l)
long_ack_of chars (Some answer) l = appended (0, l) (chars ++ hex answer)

unfoldable pub long_ack_line : List ℕ → Box → List ℕ → ℕ × List ℕ
long_ack_line chars b l = long_ack_of chars b.answer l
