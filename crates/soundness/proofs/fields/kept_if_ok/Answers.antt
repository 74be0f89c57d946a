use Rattle.soundness.specs.Soundness.{kept_if_ok}
use Rattle.soundness.proofs.fields.kept_if_ok.Goals as goal

pub returns : goal.returns
unfolding kept_if_ok
returns c = cc
