-- The calls: what each answers, and the record and the work area after it. Definitions only.
use Rattle.std.specs.Prelude.{List, [], false, cond, ℕ, ◌-◌, length, replicate}
use Rattle.config.specs.declared.Profile.{Profile}
use Rattle.ledger.specs.Ledger as L
use Rattle.area.specs.Table.{rows_from}
use Rattle.area.specs.Find.{find_from}
use Rattle.area.specs.declared.lookup.Found.{Found}
use Rattle.record.specs.View.{view}
use Rattle.ledger.specs.Queue.{flies}
use Rattle.messages.specs.Messages.{store_queue}
use Rattle.messages.specs.declared.Messages.{Messages}
use Rattle.queuing.specs.Station.{with_sender, view_station, queued_in}
use Rattle.queuing.specs.declared.Station.{Station}
use Rattle.record.specs.declared.Sender.{Sender}
use Rattle.replies.specs.declared.Heard.{Heard}
use Rattle.refusals.specs.declared.Reply.{Reply}
use Rattle.receive.specs.Accepted.{accepted_reply}
use Rattle.reception.specs.Reception.{decoded_in, frames_heard}
use Rattle.reception.specs.declared.Reception.{Reception}
use Rattle.outgoing.specs.Outgoing.{burst_of}
use Rattle.outgoing.specs.declared.Outgoing.{Outgoing}
use Rattle.refusals.specs.Verdict.{Verdict}
use Rattle.verdicts.specs.Verdicts.{passed, standing, queue_verdict, receive_verdict, frames_verdict, burst_verdict}
use Rattle.limits.specs.Limits.{max_slots}

-- what a queuing or a reply answers, and the next record
pub record Answer : Type 0 where
  pub verdict : Verdict
  pub next : Station

pub record Bursted : Type 0 where
  pub verdict : Verdict
  pub outgoing : Outgoing
  pub next : Station

pub record Finding : Type 0 where
  pub verdict : Verdict
  pub found : Found

-- ---- queue: 1 2 3 4 11 8 9 12

-- bytes of this class and label
unfoldable pub queue_of : Profile → Station → List ℕ → ℕ → ℕ → List ℕ → Answer × List ℕ
queue_of p t a class label bytes =
    let v = queue_verdict p t a class label (length bytes) in
    let after = queued_in class label bytes t a in
    cond (passed v) (record { verdict = v; next = after.0 }, after.1) (record { verdict = v; next = t }, a)

-- ---- sender_rx: 1 2 3 4 5 6, a long ack also 7

unfoldable pub receive_of : Profile → Station → List ℕ → Heard → Reply → List ℕ → Answer × List ℕ
receive_of p t a h r payload =
    let v = receive_verdict p t a h r (length payload) in
    let after = accepted_reply p h r payload t.sender a in
    cond (passed v) (record { verdict = v; next = with_sender t after.0 }, after.1) (record { verdict = v; next = t }, a)

-- ---- all frames of one reception: 1 2 3 15 4 5 6

-- "gives what the loop at the end of `sender_rx` gives"; where no frame is read, record and work area stay as they are
unfoldable pub frames_of : Profile → Station → List ℕ → Heard → Reception → List ℕ → Answer × List ℕ
frames_of p t a h r payloads =
    let v = frames_verdict p t a h r.n in
    let after = frames_heard p h (decoded_in r payloads) (t.sender, a) in
    cond (passed v) (record { verdict = v; next = with_sender t after.0 }, after.1) (record { verdict = v; next = t }, a)

-- ---- lookup: 1 2 3 4

abbrev pub nowhere : Found
nowhere = record { here = false; start = 0; len = 0 }

-- where the bytes of the piece at an offset lie in the work area
unfoldable pub find_of : Profile → Station → List ℕ → ℕ → Finding
find_of p t a off =
    let v = standing p t a false in
    cond (passed v)
    (record { verdict = v; found = find_from off 0 (rows_from a 0 t.sender.counts.pieces) })
    (record { verdict = v; found = nowhere })

-- the bytes of the piece at an offset; none where the call is refused or no piece is there
unfoldable pub piece_of : Profile → Station → List ℕ → ℕ → List ℕ
piece_of p t a off = cond (passed (standing p t a false)) (L.find off (view t.sender a).pieces) []

-- ---- data_burst: 1 2 3 4 10

-- no burst
abbrev pub no_burst : Outgoing
no_burst =
    record {
      wave = 0;
      code = 0;
      user = 0;
      extra = 0;
      cue = false;
      td_ease = false;
      number = 0;
      frames = record { off = replicate max_slots 0; len = replicate max_slots 0; start = replicate max_slots 0; bits = replicate max_slots 0; n = 0 };
    }

-- the messages where the next offset passes from t's to that of s: so many waiting bytes begin to fly
unfoldable pub messages_after : Station → List ℕ → Sender → Messages
messages_after t a s =
    store_queue (flies (s.counts.next_offset - t.sender.counts.next_offset) (view_station t a).queue) t.messages

-- the answer with the next record, the work area, the output
unfoldable pub burst_call : Profile → Station → List ℕ → List ℕ → Bursted × (List ℕ × List ℕ)
burst_call p t a out =
    let v = burst_verdict p t a (length out) in
    let b = burst_of p t.sender a out in
    cond (passed v)
    (record { verdict = v; outgoing = b.0.0; next = record { sender = b.0.1; messages = messages_after t a b.0.1 } }, b.1)
    (record { verdict = v; outgoing = no_burst; next = t }, (a, out))
