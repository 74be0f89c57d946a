use Rattle.level.proofs.Laws.{wave-lt}
use Rattle.gear.specs.BurstLength.{clean_burst}
use lib.Ieee.{of_int, of_bits}
use Rattle.std.proofs.Common.{rules}
use Rattle.gear.proofs.burst_length.clean_burst_s.Goals as goal

pub data_s-pre-requires : goal.data_s-pre-requires
data_s-pre-requires c = search rules

pub ack-ack-requires : goal.ack-ack-requires
ack-ack-requires c = rw c.wave_rank.ensures (wave-lt _)

pub returns : goal.returns
unfolding clean_burst of_int of_bits
returns c = simp (c.clamp64.ensures, c.max.ensures, c.ack-ack.ensures, c.wave_rank.ensures, c.data_s-pre.ensures)
