-- `float::pick::min` meets its contract (`picked` of `proofs/PickLaws.antt`). Assumes nothing.
use Rattle.std.proofs.Common.{true, false}
use Rattle.float.specs.Pick.{min_f}
use Rattle.float.proofs.PickLaws.{picked}
use Rattle.float.proofs.pick.min.Goals as goal

pub returns-then-not_a_number-below : goal.returns-then-not_a_number-below
unfolding min_f
returns-then-not_a_number-below g c = picked _ _ _ _ _ true c.not_a_number.ensures c.below.ensures c.if-not_a_number-below.true

pub returns : goal.returns
unfolding min_f
returns g c = picked _ _ _ _ _ false c.not_a_number.ensures c.below.ensures c.if-not_a_number-below.false
