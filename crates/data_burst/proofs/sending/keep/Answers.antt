-- `data_burst::sending::keep` meets its contract.
use Rattle.data_burst.proofs.sending.Laws.{keep-none, keep_some}
use Rattle.data_burst.proofs.sending.keep.Goals as goal

pub returns-then-parity-eq0 : goal.returns-then-parity-eq0
returns-then-parity-eq0 c = keep-none _ _ c.if-parity-eq0.true

pub returns : goal.returns
returns c = keep_some _ _ c.if-parity-eq0.false
