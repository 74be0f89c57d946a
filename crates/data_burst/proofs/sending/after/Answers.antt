-- `data_burst::sending::after` meets its contract.
use Rattle.data_burst.specs.Rows.{next_of}
use mathlib.Core.Path.{refl}
use Rattle.data_burst.proofs.sending.after.Goals as goal

pub returns : goal.returns
unfolding next_of
returns c = refl
