-- A call's line, read (docs/CALLS.md, Calls): what its words mean. `chars` are the line's characters, `r` how far it was read.
-- Definitions only.
use Rattle.std.specs.Prelude.{Bool, cond, not, ◌&&◌, ◌||◌, List, ◌++◌, ℕ, zero, suc, ◌+◌, ◌%◌, min, leb, ltb, eqb, length, take, drop, set, replicate}
use Rattle.std.specs.Float.{binary64}
use Rattle.std.specs.Float.Ieee.{of_bits}
use Rattle.words.specs.declared.Read.{Read}
use Rattle.words.specs.Words.{decimal_of, bits_of, flag_of, none_of, hex_count, hex_into}
use Rattle.words.specs.Lines.{read_as, is_done, chars_of, next_word}
use Rattle.refusals.specs.Refusals.{max_received}
use Rattle.reception.specs.declared.Reception.{Reception}
use Rattle.profile_table.specs.Table.{single_of}
use Rattle.call_lines.specs.declared.Hearing.{Hearing}
use Rattle.call_lines.specs.declared.ClassWords.{ClassWords}
use Rattle.call_lines.specs.declared.WishWords.{WishWords}
use Rattle.call_lines.specs.declared.BurstWords.{BurstWords}
use Rattle.call_lines.specs.declared.ConnectLine.{ConnectLine}
use Rattle.call_lines.specs.declared.ShortLine.{ShortLine}
use Rattle.call_lines.specs.declared.LongLine.{LongLine}
use Rattle.call_lines.specs.declared.QueueLine.{QueueLine}
use Rattle.call_lines.specs.declared.LinkLine.{LinkLine}
use Rattle.call_lines.specs.declared.TurnLine.{TurnLine}
use Rattle.call_lines.specs.declared.RangeLine.{RangeLine}
use Rattle.call_lines.specs.declared.FrameWords.{FrameWords}
use Rattle.call_lines.specs.declared.FramesLine.{FramesLine}

-- a number too wide for its field is the largest
abbrev pub field_byte : ℕ → ℕ
field_byte n = cond (ltb n 256) n 255

-- room for the bytes of a line's HEX: its 65,536 characters have no more pairs
abbrev pub hex_room : List ℕ
hex_room = replicate 32768 0

-- the bytes of the HEX that comes next, so many of them
abbrev pub bytes_in : ℕ → List ℕ → Read → List ℕ
bytes_in n chars r = take n (hex_into hex_room (chars_of chars (next_word chars r)))

-- T, W and HERE
unfoldable pub heard_first : List ℕ → Read → Hearing
heard_first chars r =
    let time : Read = read_as (bits_of 16) chars r in
    let wave : Read = read_as decimal_of chars time in
    let here : Read = read_as (bits_of 8) chars wave in
    record {
      heard = record { time = of_bits binary64 time.value; wave = field_byte wave.value; snr_db = single_of here.value };
      read = here;
    }

-- ECHO, DOPPLER and SLOT
unfoldable pub class_words : List ℕ → Read → ClassWords
class_words chars r =
    let echo : Read = read_as flag_of chars r in
    let doppler : Read = read_as flag_of chars echo in
    let slot : Read = read_as decimal_of chars doppler in
    record { class = record { echo = eqb echo.value 1; doppler = eqb doppler.value 1 }; slot = field_byte slot.value; read = slot }

-- WANT_TURN, WANT_DISC and STORED
unfoldable pub wish_words : List ℕ → Read → WishWords
wish_words chars r =
    let turn : Read = read_as flag_of chars r in
    let disc : Read = read_as flag_of chars turn in
    let stored : Read = read_as flag_of chars disc in
    record { turn = eqb turn.value 1; disc = eqb disc.value 1; stored = eqb stored.value 1; read = stored }

-- BURST, BITMAP and DB
unfoldable pub burst_words : List ℕ → Read → BurstWords
burst_words chars r =
    let burst : Read = read_as decimal_of chars r in
    let bitmap : Read = read_as decimal_of chars burst in
    let db : Read = read_as (bits_of 8) chars bitmap in
    record { burst = field_byte burst.value; bitmap = field_byte bitmap.value; db = single_of db.value; read = db }

-- `connect` T W HERE SESSION DB ECHO DOPPLER SLOT CUE; SESSION counts modulo 256
unfoldable pub connect_line : List ℕ → Read → ConnectLine
connect_line chars r =
    let h : Hearing = heard_first chars r in
    let session : Read = read_as decimal_of chars h.read in
    let db : Read = read_as (bits_of 8) chars session in
    let k : ClassWords = class_words chars db in
    let cue : Read = read_as flag_of chars k.read in
    record {
      heard = h.heard;
      reply = record {
        session = session.value % 256;
        snr_db = single_of db.value;
        class = k.class;
        slot = k.slot;
        cue = eqb cue.value 1;
      };
      ok = is_done chars cue;
    }

-- `short` T W HERE BURST BITMAP DB WANT_TURN WANT_DISC STORED ECHO DOPPLER SLOT
unfoldable pub short_line : List ℕ → Read → ShortLine
short_line chars r =
    let h : Hearing = heard_first chars r in
    let b : BurstWords = burst_words chars h.read in
    let w : WishWords = wish_words chars b.read in
    let k : ClassWords = class_words chars w.read in
    record {
      heard = h.heard;
      reply = record {
        burst = b.burst;
        bitmap = b.bitmap;
        snr_db = b.db;
        want_turn = w.turn;
        want_disc = w.disc;
        stored = w.stored;
        class = k.class;
        slot = k.slot;
      };
      ok = is_done chars k.read;
    }

-- `turn` T W HERE, then DB or `none`
unfoldable pub turn_line : List ℕ → Read → TurnLine
turn_line chars r =
    let h : Hearing = heard_first chars r in
    let absent : Read = read_as none_of chars h.read in
    let db : Read = read_as (bits_of 8) chars h.read in
    record {
      heard = h.heard;
      reply = record { report = record { set = not absent.ok; db = single_of db.value } };
      ok = is_done chars absent || is_done chars db;
    }

-- `long` T W HERE WANT_TURN WANT_DISC STORED, as far as PAYLOAD
abbrev pub long_wishes : List ℕ → Read → WishWords
long_wishes chars r = wish_words chars (heard_first chars r).read

-- and all of it, with room for so many bytes of PAYLOAD
unfoldable pub long_line : ℕ → List ℕ → Read → LongLine
long_line room chars r =
    let h : Hearing = heard_first chars r in
    let w : WishWords = wish_words chars h.read in
    let payload : Read = read_as (hex_count room) chars w.read in
    record {
      heard = h.heard;
      reply = record { want_turn = w.turn; want_disc = w.disc; stored = w.stored };
      payload = payload.value;
      ok = is_done chars payload;
    }

-- no frame yet, of n to come
abbrev pub no_frames : ℕ → Reception
no_frames n = record { n = n; kind = replicate max_received 0; flags = replicate max_received 0; len = replicate max_received 0 }

-- the frame at place i; of a 17th and further ones nothing is kept
unfoldable pub placed : Reception → ℕ → ℕ → ℕ → ℕ → Reception
placed q i kind flags len =
    cond (ltb i max_received) (record { n = q.n; kind = set q.kind i kind; flags = set q.flags i flags; len = set q.len i len }) q

-- KIND FLAGS PAYLOAD of the frame at place i: "KIND too wide reads as 255, FLAGS count modulo 256". Its bytes stand behind those of the others
unfoldable pub frame_words : List ℕ → ℕ → FrameWords × List ℕ → FrameWords × List ℕ
frame_words chars i g =
    let kind : Read = read_as decimal_of chars g.0.read in
    let flags : Read = read_as decimal_of chars kind in
    let free : List ℕ = drop g.0.used g.1 in
    let payload : Read = read_as (hex_count (length free)) chars flags in
    let into : List ℕ = hex_into free (chars_of chars (next_word chars flags)) in
    let n : ℕ = min payload.value (length free) in (
      record {
        read = payload;
        reception = placed g.0.reception i (field_byte kind.value) (flags.value % 256) (n % 4294967296);
        used = g.0.used + n;
      },
      take g.0.used g.1 ++ into,
    )

-- n of them, from place i on
abbrev pub frame_words_from : List ℕ → ℕ → ℕ → FrameWords × List ℕ → FrameWords × List ℕ
frame_words_from chars zero i g = g
frame_words_from chars (suc n) i g = frame_words_from chars n (i + 1) (frame_words chars i g)

-- `frames` T W HERE COUNT, then COUNT times KIND FLAGS PAYLOAD, with the bytes after it: "COUNT above 64 is an error"
unfoldable pub frames_line : List ℕ → List ℕ → Read → FramesLine × List ℕ
frames_line bytes chars r =
    let h : Hearing = heard_first chars r in
    let count : Read = read_as decimal_of chars h.read in
    let few : Bool = leb count.value 64 in
    let n : ℕ = cond few count.value 0 in
    let g = frame_words_from chars n 0 (record { read = count; reception = no_frames n; used = 0 }, bytes) in (
      record { heard = h.heard; reception = g.0.reception; used = g.0.used; ok = is_done chars g.0.read && few },
      g.1,
    )

-- `queue` HEX [CLASS [LABEL]], with room for so many bytes of HEX: "without it class 3. A CLASS too wide reads as 255"; "LABEL counts modulo
-- 65,536", and without it there is none
unfoldable pub queue_line : ℕ → List ℕ → Read → QueueLine
queue_line room chars r =
    let bytes : Read = read_as (hex_count room) chars r in
    let class : Read = read_as decimal_of chars bytes in
    let label : Read = read_as decimal_of chars class in
    let labelled : Bool = is_done chars label in
    let named : Bool = labelled || is_done chars class in
    record {
      len = bytes.value;
      class = cond named (field_byte class.value) 3;
      label = cond labelled (label.value % 65536) 0;
      ok = named || is_done chars bytes;
    }

-- `log` CALL START END ACKED, with room for so many bytes of CALL; ACKED above 2^32 - 1 breaks the rules
unfoldable pub log_line_read : ℕ → List ℕ → Read → LinkLine
log_line_read room chars r =
    let call : Read = read_as (hex_count room) chars r in
    let start : Read = read_as decimal_of chars call in
    let end : Read = read_as decimal_of chars start in
    let acked : Read = read_as decimal_of chars end in
    record {
      call = call.value;
      start = start.value;
      end = end.value;
      acked = acked.value;
      ok = is_done chars acked && ltb acked.value 4294967296;
    }

-- `levels` ECHO DOPPLER LOW HIGH: LOW stands behind the class as a SLOT does
unfoldable pub range_line : List ℕ → Read → RangeLine
range_line chars r =
    let k : ClassWords = class_words chars r in
    let high : Read = read_as decimal_of chars k.read in
    record { class = k.class; low = k.slot; high = field_byte high.value; ok = is_done chars high }
