-- `float::whole::count_of` meets its contract, by the laws of `proofs/whole/FloorLaws.antt`. Assumes nothing.
use Rattle.std.proofs.Common.{◌∙◌}
use lib.Ieee.{of_int, of_bits}
use Rattle.ieee.proofs.Tests.{yes, nope}
use Rattle.float.proofs.whole.FloorLaws.{count-large, count-one}
use Rattle.float.proofs.whole.count_of.Goals as goal

pub returns-then-x : goal.returns-then-x
unfolding of_int of_bits
returns-then-x c =
    let s = c in
    c.cut64.ensures ∙ count-large s.args.x (yes s.well_formed.0.1) (yes c.if-x.true)

pub returns : goal.returns
unfolding of_int of_bits
returns c = count-one _ (nope c.if-x.false)
