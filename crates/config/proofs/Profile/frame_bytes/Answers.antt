use Rattle.config.specs.Durations.{frame_bytes}
use Rattle.laws.proofs.Picks.{calls}
use Rattle.config.proofs.Profile.frame_bytes.Goals as goal

pub returns-then-long_frame : goal.returns-then-long_frame
unfolding frame_bytes
returns-then-long_frame c = search calls

pub returns : goal.returns
unfolding frame_bytes
returns c = search calls
