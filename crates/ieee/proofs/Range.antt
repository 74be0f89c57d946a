-- The test of a range and its fact, both ways. Assumes nothing.
use mathlib.Core.Path.{◌≡◌}
use mathlib.Core.Bool.{true}
use denote.Floats.{passes, is_true}
use lib.Ieee.{Float, le}
use Rattle.laws.proofs.Picks.{and_first, and_second, and_yes}
use Rattle.ieee.specs.Range.{In, inside}

pub from-inside : (lo hi x : Float) → inside lo hi x ≡ true → In lo hi x
unfolding inside
from-inside lo hi x e = record { low = passes _ (and_first (le lo x) _ e); high = passes _ (and_second (le lo x) _ e) }

pub to_inside : (lo hi x : Float) → In lo hi x → inside lo hi x ≡ true
unfolding inside
to_inside lo hi x i = and_yes (le lo x) (le x hi) (is_true _ i.low) (is_true _ i.high)
