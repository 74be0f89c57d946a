-- `receive::acks::ack_airtime` meets its contract.
use native.Mathlib.Omega.{arith}
use Rattle.receive.proofs.acks.ack_airtime.Goals as goal

pub ack-requires : goal.ack-requires
ack-requires c = omega (arith, c.requires)

pub returns : goal.returns
returns c = simp (c.saturating_add.ensures, c.to_millis.ensures, c.ack.ensures)
