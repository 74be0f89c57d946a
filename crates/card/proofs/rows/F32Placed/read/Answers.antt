-- `rows::f32` is read by its bits. Assumes nothing.
use mathlib.Core.Path.{ap, ◌∙◌}
use lib.Ieee.{binary32, of_bits}
use Rattle.laws.specs.Little.{load}
use Rattle.card.proofs.rows.F32Placed.read.Goals as goal

pub returns : goal.returns
unfolding load
returns c = c.of_bits.ensures ∙ ap (of_bits binary32) c.load.ensures
