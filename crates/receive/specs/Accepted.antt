-- A reply that is accepted, by its kind (`sender_rx` of sender.rs). Definitions only.
use Rattle.std.specs.Prelude.{List, ℕ, Option, Some, None}
use Rattle.report.specs.Ack.{ack_of}
use Rattle.report.specs.declared.ack.AckInfo.{AckInfo}
use Rattle.config.specs.declared.Profile.{Profile}
use Rattle.record.specs.declared.Sender.{Sender}
use Rattle.replies.specs.Replies.{short_acked, long_acked, turned, connected_to}
use Rattle.replies.specs.declared.Heard.{Heard}
use Rattle.replies.specs.declared.LongAck as A
use Rattle.refusals.specs.declared.Reply.{Reply}
use Rattle.refusals.specs.declared.Reply.TheVariants.{ConnAck, Ack, LongAck, Turn}

-- a long ack, as AckInfo::from_bytes reads its payload. One that is too short is refused before
abbrev pub long_read : Profile → Heard → A.LongAck → Option AckInfo → Sender → List ℕ → Sender × List ℕ
long_read p h r None s a = (s, a)
long_read p h r (Some i) s a = long_acked p h r i s a

-- a reply that is accepted
abbrev pub accepted_reply : Profile → Heard → Reply → List ℕ → Sender → List ℕ → Sender × List ℕ
accepted_reply p h (ConnAck r) payload s a = (connected_to p h r s, a)
accepted_reply p h (Ack r) payload s a = short_acked p h r s a
accepted_reply p h (LongAck r) payload s a = long_read p h r (ack_of payload) s a
accepted_reply p h (Turn r) payload s a = turned p h r s a
