use Rattle.laws.specs.Span.{fold, every, upto}
use Rattle.config.proofs.ranges.Every.{along}
use Rattle.soundness.specs.Soundness.{remembered_ok}
use mathlib.Core.Path.{◌≡◌}
use Rattle.soundness.proofs.fields.levels_ok.Given as goal

abbrev pub invariant-loop-k : goal.invariant-loop-k
invariant-loop-k l =
    every (remembered_ok l.t l.h) (upto 0 17) ≡ fold (along (remembered_ok l.t l.h)) l.ok (upto l.k 17)
