-- `settle::outcome::outcome` meets its contract.
use Rattle.settle.proofs.outcome.Counts.{outcome-none, outcome-some}
use Rattle.settle.proofs.outcome.outcome.Goals as goal

pub returns-then-t-eq0 : goal.returns-then-t-eq0
returns-then-t-eq0 c = outcome-none _ _ _ _ c.tally-t.ensures c.if-t-eq0.true

pub returns : goal.returns
returns c = outcome-some _ _ _ _ c.tally-t.ensures c.if-t-eq0.false
