-- What a refusal is (document 01): the numbers, and the values that a reply may carry. Definitions only.
use Rattle.std.specs.Prelude.{Ok, Err, [], ◌∷◌, Bool, true, not, ◌&&◌, ◌||◌, ℕ, leb, Float}
use Rattle.std.specs.Float.Ieee.{le, neg}
use Rattle.laws.specs.Tests.{all}
use Rattle.ieee.specs.Range.{w32, w64, inside}
use Rattle.area.specs.declared.room.NoRoom.{NoRoom}
use Rattle.area.specs.declared.room.NoRoom.TheVariants as N
use Rattle.replies.specs.declared.Heard.{Heard}
use Rattle.refusals.specs.declared.Refusal.{Refusal}
use Rattle.refusals.specs.declared.Refusal.TheVariants as E
use Rattle.refusals.specs.Verdict.{Verdict}
use Rattle.refusals.specs.declared.Reply.{Reply}
use Rattle.refusals.specs.declared.Reply.TheVariants.{ConnAck, Ack, LongAck, Turn}
use Rattle.limits.specs.Limits.{max_number, tiny_all}

-- the papers' number of each refusal
abbrev pub refusal_number : Refusal → ℕ
refusal_number E.ProfileOutOfRange = 1
refusal_number E.ShortOverLong = 2
refusal_number E.Unsound = 3
refusal_number E.OutOfTurn = 4
refusal_number E.BadTime = 5
refusal_number E.BadValue = 6
refusal_number E.ShortPayload = 7
refusal_number E.QueueFull = 8
refusal_number E.AllTaken = 9
refusal_number E.ShortOutput = 10
refusal_number E.BadClass = 11
refusal_number E.TooManyMessages = 12
refusal_number E.TooManyFrames = 15

-- 8 or 9
abbrev pub refusal_of : NoRoom → Refusal
refusal_of N.QueueFull = E.QueueFull
refusal_of N.AllTaken = E.AllTaken

-- the number of what becomes of a call: 0 where it is accepted
abbrev pub number_of : Verdict → ℕ
number_of (Ok x) = 0
number_of (Err r) = refusal_number r

-- 15: "It refuses more than 16 frames" (document 02, Change 7)
abbrev pub max_received : ℕ
max_received = 16

-- 5: "The time isn't within 0 to 10^9 or is earlier than the last accepted one (equal is fine)"
unfoldable pub time_ok : Float → Float → Bool
time_ok last t = inside (w64 0) (w64 1000000000) t && le last t

-- 6: "dB -100 to 300, short burst number 0 to 3, bitmap 0 to 63, slot 0 to 2, wave 0 to 5"
unfoldable pub report_ok : Float → Bool
report_ok x = inside (neg (w32 100)) (w32 300) x

-- the wave, and the dB measured here, of every reply
unfoldable pub heard_ok : Heard → Bool
heard_ok h = leb h.wave 5 && report_ok h.snr_db

-- a long ack's values are in range whatever its bytes are
unfoldable pub reply_ok : Reply → Bool
reply_ok (ConnAck r) = report_ok r.snr_db && leb r.slot 2
reply_ok (Ack r) = all (leb r.burst max_number ∷ leb r.bitmap tiny_all ∷ report_ok r.snr_db ∷ leb r.slot 2 ∷ [])
reply_ok (LongAck r) = true
reply_ok (Turn r) = not r.report.set || report_ok r.report.db

-- which reply it is: 0 a connect answer, 2 a long ack
abbrev pub kind_of : Reply → ℕ
kind_of (ConnAck r) = 0
kind_of (Ack r) = 1
kind_of (LongAck r) = 2
kind_of (Turn r) = 3
