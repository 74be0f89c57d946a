-- The lines of `state` and `end` (docs/CALLS.md). Definitions only.
use Rattle.std.specs.Prelude.{Bool, false, cond, List, [], ◌++◌, ℕ, ◌+◌, ◌-◌, ◌/◌, min, leb, Float, length, get_or}
use Rattle.std.specs.Float.{nan}
use Rattle.laws.specs.Span.{upto}
use Rattle.text.specs.Buffer.{each}
use Rattle.laws.specs.Text.{text}
use Rattle.text.specs.Words.{number_word, flag_word, maybe, single_word, double_word, after_colon}
use Rattle.levels.specs.declared.memory.Reports.{Reports}
use Rattle.gear.specs.declared.Gear.{Gear}
use Rattle.ledger.specs.Ledger.{Held, Sent}
use Rattle.area.specs.Layout.{stream_bytes, row_bytes}
use Rattle.area.specs.Table.{rows_from}
use Rattle.area.specs.declared.table.Row.{Row}
use Rattle.record.specs.View.{held_in, rest_in, sent_in}
use Rattle.record.specs.declared.Counts.{Counts}
use Rattle.record.specs.declared.Link.{Link}
use Rattle.record.specs.declared.AtPeer.{AtPeer}
use Rattle.record.specs.declared.LastBurst.{LastBurst}
use Rattle.record.specs.declared.Sender.{Sender}

-- TAKEN WAITING FLYING ACKED; "TAKEN includes withdrawn bytes", of which there are w
abbrev pub tally_words : Counts → ℕ → List ℕ
tally_words c w = number_word (c.next_offset + c.waiting + w) ++ number_word c.waiting ++ number_word c.flying
    ++ number_word c.bytes_acked

-- `end TAKEN WAITING FLYING ACKED`
abbrev pub end_line : Counts → ℕ → List ℕ
end_line c w = text "end" ++ tally_words c w ++ text "\n"

-- `state LEVEL TARGET BURST_S CONNECTED AWAITING SESSION BURST_ID HEARD LAST_TIME`
unfoldable pub state_line : Float → Gear → Link → List ℕ
state_line burst g k =
    text "state" ++ number_word g.level ++ number_word g.target ++ maybe k.connected (double_word burst) ++ flag_word k.connected
    ++ flag_word k.awaiting ++ number_word k.session ++ number_word k.burst_id
    ++ maybe k.heard (number_word k.peer_heard) ++ maybe k.connected (double_word k.last_time) ++ text "\n"

-- `link WANTS_TURN WANTS_DISC ECHO DOPPLER SLOT DOPPLER_HZ CUE`
unfoldable pub link_line : Gear → Link → List ℕ
link_line g k =
    text "link" ++ flag_word k.peer_wants_turn ++ flag_word k.peer_wants_disc
    ++ flag_word g.peer_class.echo ++ flag_word g.peer_class.doppler
    ++ number_word k.peer_slot ++ single_word k.peer_doppler_hz ++ flag_word g.cue ++ text "\n"

-- a word where a test passes
abbrev pub word_if : Bool → List ℕ → List ℕ
word_if set w = cond set w []

-- "the recent reports, oldest first": of three reports a is the oldest, and c is the newest of any
unfoldable pub reports : Reports → List ℕ
reports r = word_if (leb 3 r.count) (single_word r.a) ++ word_if (leb 2 r.count) (single_word r.b)
    ++ word_if (leb 1 r.count) (single_word r.c)

-- `aim AIM_DB LAST_REPORT_DB REPORT ..`
unfoldable pub aim_line : Gear → List ℕ
aim_line g =
    text "aim" ++ maybe g.aim_db.set (single_word g.aim_db.db)
    ++ maybe g.last_report_db.set (single_word g.last_report_db.db)
    ++ reports g.snr_reports ++ text "\n"

-- `gear L SUCCESS SUCCESS_AT FAILS BLOCKED_UNTIL HOLD_ALL`
abbrev pub gear_line : ℕ → Bool → Float → Float → ℕ → Float → Bool → List ℕ
gear_line l tried success at fails until all =
    text "gear" ++ number_word l ++ maybe tried (single_word success) ++ double_word at ++ number_word fails ++ double_word until ++ flag_word all
    ++ text "\n"

-- level l's
unfoldable pub gear_of : Gear → ℕ → List ℕ
gear_of g l =
    gear_line l (get_or g.tries.tried l false) (get_or g.tries.success l nan) (get_or g.tries.success_at l nan)
    (get_or g.tries.fails l 0) (get_or g.holds.blocked_until l nan) (get_or g.holds.hold_all l false)

-- `counts TAKEN WAITING FLYING ACKED AIRTIME_MS`
unfoldable pub counts_line : Counts → ℕ → List ℕ
counts_line c w = text "counts" ++ tally_words c w ++ number_word c.airtime_ms ++ text "\n"

-- the rows that the area has room for
abbrev pub rows_in : List ℕ → ℕ
rows_in a = (length a - stream_bytes) / row_bytes

-- N:N
abbrev pub entry : ℕ → ℕ → List ℕ
entry a b = number_word a ++ after_colon b

-- OFFSET:LEN
abbrev pub piece_word : Row → List ℕ
piece_word r = entry r.off r.len

-- `pieces COUNT OFFSET:LEN ..`: "in flight, ascending"
unfoldable pub pieces_line : List ℕ → ℕ → List ℕ
pieces_line a n = text "pieces" ++ number_word n ++ each piece_word (rows_from a 0 (min n (rows_in a))) ++ text "\n"

-- OFFSET:BITS
abbrev pub held_word : Held → List ℕ
held_word h = entry h.off h.bits

-- `held COUNT PEER_WAVE OFFSET:BITS ..`: "part held by the far station"
unfoldable pub held_line : AtPeer → ℕ → List ℕ
held_line h wave = text "held" ++ number_word h.n ++ number_word wave ++ each held_word (held_in h) ++ text "\n"

-- `rest COUNT OFFSET:BITS ..`: "those of them that are not sent yet"
unfoldable pub rest_line : AtPeer → List ℕ
rest_line h = text "rest" ++ number_word h.rest ++ each held_word (rest_in h) ++ text "\n"

-- OFFSET:BITS:HELD
abbrev pub sent_word : Sent → List ℕ
sent_word f = entry f.off f.bits ++ after_colon f.held

-- `sent COUNT OFFSET:BITS:HELD ..`: "the outstanding burst"
unfoldable pub sent_line : LastBurst → List ℕ
sent_line b = text "sent" ++ number_word b.n ++ each sent_word (sent_in b) ++ text "\n"

unfoldable pub state_lines : Float → Sender → ℕ → List ℕ → List ℕ
state_lines burst s w a =
    state_line burst s.gear s.link ++ link_line s.gear s.link ++ aim_line s.gear ++ each (gear_of s.gear) (upto 0 17)
    ++ counts_line s.counts w ++ pieces_line a s.counts.pieces ++ held_line s.at_peer s.link.peer_wave
    ++ rest_line s.at_peer ++ sent_line s.last_burst
