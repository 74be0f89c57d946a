use Rattle.plan.specs.Planning.{fits}
use mathlib.Core.Path.{refl}
use borrow.Author.Rules.{rules}
use Rattle.plan.proofs.Choice.fits.Goals as goal

pub data_s-requires : goal.data_s-requires
data_s-requires c = search rules

pub returns : goal.returns
unfolding fits
returns c = rw c.data_s.ensures refl
