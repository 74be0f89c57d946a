-- THE BASE: the sender's calls by document 01 (and Changes 4, 5 and 7), with one queue of bytes and no messages. Change 1's sentence "with a single class the Rust is
-- still equalled" is measured by them (crates/demand/specs/Single.antt). Definitions only.
use Rattle.std.specs.Prelude.{List, ◌++◌, Bool, false, cond, not, ◌&&◌, ◌||◌, ℕ, ◌+◌, eqb, length}
use Rattle.config.specs.Ranges.{in_range, in_order}
use Rattle.config.specs.declared.Profile.{Profile}
use Rattle.ledger.specs.Ledger as L
use Rattle.area.specs.Room.{queue_refusal}
use Rattle.record.specs.View.{view, store, store_area}
use Rattle.record.specs.declared.Sender.{Sender}
use Rattle.soundness.specs.Soundness.{sound_ok}
use Rattle.replies.specs.declared.Heard.{Heard}
use Rattle.refusals.specs.Verdict.{Verdict}
use Rattle.refusals.specs.Verdict.{Accepted, ProfileOutOfRange, ShortOverLong, Unsound, OutOfTurn, QueueFull, AllTaken}
use Rattle.refusals.specs.declared.Reply.{Reply}
use Rattle.refusals.specs.Refusals.{kind_of}
use Rattle.verdicts.specs.Verdicts.{passed, first_of, reply_verdict, hearing_verdict, frames_standing, output_verdict}
use Rattle.receive.specs.Accepted.{accepted_reply}
use Rattle.reception.specs.Reception.{decoded_in, frames_heard}
use Rattle.reception.specs.declared.Reception.{Reception}
use Rattle.outgoing.specs.Outgoing.{burst_of}
use Rattle.outgoing.specs.declared.Outgoing.{Outgoing}
use Rattle.sender.specs.Calls.{no_burst}

module _ (p : Profile) (s : Sender) (a : List ℕ) where
  -- 1 to 4
  unfoldable pub standing_base : Bool → Verdict
  standing_base connect =
      let c = s.link.connected in
      cond (not (in_range p)) ProfileOutOfRange
      (cond (not (in_order p)) ShortOverLong
      (cond (not (sound_ok p s a)) Unsound
      (cond ((c && connect) || (not c && not connect)) OutOfTurn Accepted)))

  -- a queuing: 1 2 3 4 8 9. Its bytes go last among the waiting
  unfoldable pub queue_verdict_base : ℕ → Verdict
  queue_verdict_base n =
      let q = queue_refusal s.counts.waiting (s.counts.next_offset + s.counts.waiting) n in
      first_of (standing_base false) (cond (eqb q 8) QueueFull (cond (eqb q 9) AllTaken Accepted))

  unfoldable pub queue_base : List ℕ → Verdict × (Sender × List ℕ)
  queue_base bytes =
      let v = queue_verdict_base (length bytes) in
      let after = L.requeue ((view s a).waiting ++ bytes) (view s a) in
      (v, cond (passed v) (store after s, store_area after a) (s, a))

  -- a reply: 1 2 3 4 5 6, a long ack also 7
  unfoldable pub receive_base : Heard → Reply → List ℕ → Verdict × (Sender × List ℕ)
  receive_base h r payload =
      let v = first_of (standing_base (eqb (kind_of r) 0)) (reply_verdict s.link.last_time h r (length payload)) in
      (v, cond (passed v) (accepted_reply p h r payload s a) (s, a))

  -- all frames of one reception (document 02, Change 7), the loop at the end of `sender_rx`: 1 2 3 15 4 5 6
  unfoldable pub frames_base : Heard → Reception → List ℕ → Verdict × (Sender × List ℕ)
  frames_base h r payloads =
      let v = first_of (frames_standing (standing_base false) r.n) (hearing_verdict s.link.last_time h) in
      (v, cond (passed v) (frames_heard p h (decoded_in r payloads) (s, a)) (s, a))

  -- a burst: 1 2 3 4 10. The answer with the next record, the work area, the output
  unfoldable pub burst_base : List ℕ → Verdict × ((Outgoing × Sender) × (List ℕ × List ℕ))
  burst_base out =
      let v = first_of (standing_base false) (output_verdict p.long_bytes (length out)) in
      (v, cond (passed v) (burst_of p s a out) ((no_burst, s), (a, out)))
