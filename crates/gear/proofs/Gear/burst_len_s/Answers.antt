use Rattle.gear.specs.BurstLength.{burst_len}
use Rattle.gear.proofs.Gear.burst_len_s.Goals as goal

pub returns-then-cfg : goal.returns-then-cfg
unfolding burst_len
returns-then-cfg c = simp (c.min.ensures, c.clean_burst_s.ensures, c.cue_for.ensures, c.burst_seconds.ensures, c.if-cfg.true)

pub returns : goal.returns
unfolding burst_len
returns c = simp c.if-cfg.false
