use Rattle.laws.specs.Tests.{all}
use Rattle.soundness.specs.Soundness.{reports_ok}
use Rattle.soundness.proofs.fields.reports_ok.Goals as goal

pub returns : goal.returns
unfolding all reports_ok
returns c = cc
