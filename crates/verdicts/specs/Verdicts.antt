-- What the station turns down (document 01; 11, 12 and 15 of document 02), in this order. Definitions only.
use Rattle.std.specs.Prelude.{List, Bool, false, cond, not, ◌&&◌, ◌||◌, ℕ, ◌+◌, ◌-◌, ◌*◌, length, leb, ltb, eqb, Float}
use Rattle.config.specs.Ranges.{in_range, in_order}
use Rattle.config.specs.declared.Profile.{Profile}
use Rattle.area.specs.Room.{queue_refusal}
use Rattle.record.specs.declared.Counts.{Counts}
use Rattle.soundness.specs.Soundness.{sound_ok}
use Rattle.messages.specs.Messages.{messages_ok, total_left, withdrawn_in}
use Rattle.messages.specs.declared.Messages.{Messages}
use Rattle.queuing.specs.declared.Station.{Station}
use Rattle.replies.specs.declared.Heard.{Heard}
use Rattle.refusals.specs.Verdict.{Verdict}
use Rattle.refusals.specs.Verdict.{Accepted, ProfileOutOfRange, ShortOverLong, Unsound, OutOfTurn, BadTime, BadValue}
use Rattle.refusals.specs.Verdict.{ShortPayload, QueueFull, AllTaken, ShortOutput, BadClass, TooManyMessages, TooManyFrames}
use Rattle.refusals.specs.declared.Reply.{Reply}
use Rattle.refusals.specs.Refusals.{number_of, kind_of, max_received, time_ok, heard_ok, reply_ok}
use Rattle.limits.specs.Limits.{max_slots, max_taken, max_class, max_messages}

abbrev pub passed : Verdict → Bool
passed v = eqb (number_of v) 0

-- bytes taken: "the next offset plus waiting", and those withdrawn (Change 6)
abbrev pub taken_by : Counts → Messages → ℕ
taken_by c m = c.next_offset + c.waiting + m.withdrawn

-- the sound record: document 01's list, and document 02's clauses about messages. "The sound record's two sums for taken gain" the bytes withdrawn:
-- that they are alike is document 01's clause without them, so their limit alone is new
abbrev pub station_ok : Profile → Station → List ℕ → Bool
station_ok p t a =
    messages_ok t.sender.counts.waiting t.messages
    && (sound_ok p t.sender a && leb (taken_by t.sender.counts t.messages) max_taken)

-- 1 to 4, which every call checks: `connect` says whether the call is a connect. 4: "A call other than connect comes before connect, or connect comes again"
unfoldable pub standing : Profile → Station → List ℕ → Bool → Verdict
standing p t a connect =
    let c = t.sender.link.connected in
    cond (not (in_range p)) ProfileOutOfRange
    (cond (not (in_order p)) ShortOverLong
    (cond (not (station_ok p t a)) Unsound
    (cond ((c && connect) || (not c && not connect)) OutOfTurn Accepted)))

-- 5 to 7, after a call at `last`. 7: "A long ack's payload is under 13 bytes"; n bytes come with the reply
unfoldable pub reply_verdict : Float → Heard → Reply → ℕ → Verdict
reply_verdict last h r n =
    cond (not (time_ok last h.time)) BadTime
    (cond (not (heard_ok h && reply_ok r)) BadValue
    (cond (eqb (kind_of r) 2 && ltb n 13) ShortPayload Accepted))

-- 5 and 6, of what is heard with no reply read: "where no frame is read, 4 to 6 are still checked" (Change 7)
unfoldable pub hearing_verdict : Float → Heard → Verdict
hearing_verdict last h = cond (not (time_ok last h.time)) BadTime (cond (not (heard_ok h)) BadValue Accepted)

-- 15, of n frames, where 1 to 4 gave v: "It refuses more than 16 frames with 15, straight after 3"
unfoldable pub frames_standing : Verdict → ℕ → Verdict
frames_standing v n = cond (ltb 0 (number_of v) && leb (number_of v) 3) v (cond (ltb max_received n) TooManyFrames v)

-- 11, 8, 9 and 12, of n bytes more as one message of this class and label, where the messages m wait: "a class above 3 with 11, before 8, and a
-- 257th message with 12, after 9"; "a queuing of no bytes makes no message". "Whether the queue or the message count is full is judged after the
-- withdrawal"; 9 counts withdrawn bytes as taken
unfoldable pub room_verdict : Counts → Messages → ℕ → ℕ → ℕ → Verdict
room_verdict c m class label n =
    let gone = withdrawn_in label n m in
    let q = queue_refusal (c.waiting - total_left gone) (taken_by c m) n in
    cond (ltb max_class class) BadClass
    (cond (eqb q 8) QueueFull
    (cond (eqb q 9) AllTaken
    (cond (ltb 0 n && leb max_messages (m.n - length gone)) TooManyMessages Accepted)))

-- 10: "The output is shorter than 64 times the long frame"
unfoldable pub output_verdict : ℕ → ℕ → Verdict
output_verdict long n = cond (ltb n (max_slots * long)) ShortOutput Accepted

-- the first that turns the call down
abbrev pub first_of : Verdict → Verdict → Verdict
first_of v w = cond (passed v) w v

-- a queuing of n bytes of this class and label: 1 2 3 4 11 8 9 12
unfoldable pub queue_verdict : Profile → Station → List ℕ → ℕ → ℕ → ℕ → Verdict
queue_verdict p t a class label n = first_of (standing p t a false) (room_verdict t.sender.counts t.messages class label n)

-- a reply with a payload of n bytes: 1 2 3 4 5 6 7
unfoldable pub receive_verdict : Profile → Station → List ℕ → Heard → Reply → ℕ → Verdict
receive_verdict p t a h r n = first_of (standing p t a (eqb (kind_of r) 0)) (reply_verdict t.sender.link.last_time h r n)

-- a reception of n decoded frames, whatever they are: 1 2 3 15 4 5 6
unfoldable pub frames_verdict : Profile → Station → List ℕ → Heard → ℕ → Verdict
frames_verdict p t a h n = first_of (frames_standing (standing p t a false) n) (hearing_verdict t.sender.link.last_time h)

-- a burst into n bytes of output: 1 2 3 4 10
unfoldable pub burst_verdict : Profile → Station → List ℕ → ℕ → Verdict
burst_verdict p t a n = first_of (standing p t a false) (output_verdict p.long_bytes n)
