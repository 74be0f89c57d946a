-- A level's mean power lies from -8 to 0 dB. Assumes nothing.
use Rattle.std.proofs.Common.{ℕ, zero, suc, ◌<◌, Bool, ◌&&◌, T, eqb, List, [], ◌∷◌, length, get_or, arith}
use lib.Ieee.{Float, nan, le, lt, neg, of_int, of_bits}
use lib.Ieee.Fits.{and_l, and_r}
use Rattle.ieee.specs.Range.{In, w32}
use Rattle.laws.proofs.Tables.{passes}
use Rattle.laws.proofs.Picks.{either}
use Rattle.level.specs.Ladder.{air_means, air_means_td, air_mean, air_mean_td}
use Rattle.levels.specs.Usable.{air_db}

abbrev low : Float
low = neg (w32 8)

abbrev inside : Float → Bool
inside x = le low x && le x (w32 0)

at : (xs : List Float) (k : ℕ) → k < length xs → T (passes inside xs) → T (inside (get_or xs k nan))
at [] k h t = absurd (omega (arith, h))
at (x ∷ xs) zero h t = and_l (inside x) (passes inside xs) t
at (x ∷ xs) (suc k) h t = at xs k (omega (arith, h)) (and_r (inside x) (passes inside xs) t)

both : (x : Float) → T (inside x) → In low (w32 0) x
both x t = record { low = and_l (le low x) (le x (w32 0)) t; high = and_r (le low x) (le x (w32 0)) t }

pub air-in : (power l : ℕ) → l < 17 → In (neg (w32 8)) (w32 0) (air_db power l)
unfolding air_db air_mean air_mean_td le lt neg of_int of_bits
air-in power l h =
    either (In low (w32 0)) (eqb power 1) _ _ (both _ (at air_means l h tt)) (either (In low (w32 0)) (eqb power 2) _ _ (both _ (at air_means_td l h tt)) (record { low = tt; high = tt }))
