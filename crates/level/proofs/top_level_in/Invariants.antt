use lib.Dec.{leb}
use Rattle.laws.specs.Steps.{highest}
use Rattle.level.specs.Ladder.{wave_rank, top_level_in}
use mathlib.Core.Path.{◌≡◌}
use Rattle.level.proofs.top_level_in.Given as goal

abbrev pub invariant-loop-k : goal.invariant-loop-k
invariant-loop-k l =
    top_level_in l.w ≡ highest (λ j. leb (wave_rank j) l.w) l.k 0
