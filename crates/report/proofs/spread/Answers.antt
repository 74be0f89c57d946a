-- `spread` meets its contract.
use mathlib.Core.Path.{refl}
use lib.Ieee.{nan, of_bits, of_int, div}
use borrow.Author.Tests.{eq-eqb, ne_eqb}
use Rattle.laws.proofs.Picks.{cond_yes, cond_no}
use Rattle.report.specs.Report.{spread_of}
use Rattle.report.proofs.spread.Goals as goal

pub returns-then-x-eq255 : goal.returns-then-x-eq255
unfolding spread_of of_bits div
returns-then-x-eq255 c = cond_yes _ _ _ _ (eq-eqb _ _ c.if-x-eq255.true) refl

pub returns-else-x-eq255 : goal.returns-else-x-eq255
unfolding spread_of of_bits of_int
returns-else-x-eq255 c = cond_no _ nan _ _ (ne_eqb _ _ c.if-x-eq255.false) refl
