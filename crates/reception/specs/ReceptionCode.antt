-- All frames of one reception: what follows the code or serves proofs; nothing here has to be believed.
use Rattle.std.specs.Prelude.{Float, Option, Some, None}
use Rattle.report.specs.declared.ack.AckInfo.{AckInfo}
use Rattle.record.specs.declared.Link.{Link}
use Rattle.replies.specs.Replies.{ack_noted}
use Rattle.replies.specs.declared.LongAck.{LongAck}

-- the link after a long ack that is not awaited
abbrev pub read_noted : Link → Float → LongAck → Option AckInfo → Link
read_noted k time r None = k
read_noted k time r (Some i) = ack_noted k time r.want_turn r.want_disc i.burst
