-- `settle::outcome::bits_for` meets its contract.
use Rattle.laws.proofs.Picks.{picks}
use Rattle.settle.specs.AckInCode.{bits_for}
use Rattle.settle.proofs.outcome.bits_for.Goals as goal

pub returns-then-n-bitmap : goal.returns-then-n-bitmap
unfolding bits_for
returns-then-n-bitmap c = search picks

pub returns : goal.returns
unfolding bits_for
returns c = search picks
