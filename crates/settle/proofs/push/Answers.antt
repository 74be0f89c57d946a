-- `settle::push` meets its contract.
use Rattle.settle.proofs.Laws.{held-push}
use Rattle.settle.proofs.push.Goals as goal

pub returns : goal.returns
returns c = held-push _ _ _
