-- `refusals::heard_ok` meets its contract.
use Rattle.refusals.specs.Refusals.{heard_ok}
use Rattle.refusals.proofs.heard_ok.Goals as goal

pub returns : goal.returns
unfolding heard_ok
returns c = cc
