-- The ranges of what a long ack's bytes stand for: one computed test each over all bytes. `le` is false of what is not a number.
-- Assumes nothing.
use mathlib.Core.Path.{◌≡◌, refl, sym, subst}
use mathlib.Core.Bool.{true, ◌&&◌, ◌||◌}
use Prim.Native.Nat.{ℕ, ◌≤◌, ◌<◌}
use borrow.Author.Tests.{leb-true}
use lib.Dec.{T, leb}
use lib.Ieee.{Float, binary32, span, climb, size, odd, units, round, neg, sum, add, sub, div, lt, eq, le, of_int, is_nan}
use lib.Ieee.Fits.{and_l, and_r}
use Rattle.laws.specs.Span.{from, upto, every}
use Rattle.laws.proofs.Span.{every-all}
use Rattle.ieee.specs.Range.{In, w32}
use Rattle.report.specs.Report.{snr_from_q, spread_of, slot_of}

both : (lo hi x : Float) → (le lo x && le x hi) ≡ true → In lo hi x
both lo hi x e = let t : T (le lo x && le x hi) = subst T (sym e) tt in record { low = and_l (le lo x) (le x hi) t; high = and_r (le lo x) (le x hi) t }

-- -24 to 231 dB
pub snr-in : (q : ℕ) → q < 256 → In (neg (w32 24)) (w32 231) (snr_from_q q)
unfolding snr_from_q every upto from span climb size odd units round neg sum add sub lt eq le of_int
snr-in q h = both _ _ _ (every-all (λ (x : ℕ). le (neg (w32 24)) (snr_from_q x) && le (snr_from_q x) (w32 231)) 256 refl q h)

-- not a number, or 0 to 63.5
pub spread-in : (x : ℕ) → x < 256 → (is_nan (spread_of x) || (le (w32 0) (spread_of x) && le (spread_of x) (div binary32 (w32 127) (w32 2)))) ≡ true
unfolding spread_of every upto from span climb size odd units round div lt eq le of_int is_nan
spread-in x h = every-all (λ (y : ℕ). is_nan (spread_of y) || (le (w32 0) (spread_of y) && le (spread_of y) (div binary32 (w32 127) (w32 2)))) 256 refl x h

-- 0 to 2
pub slot-in : (s : ℕ) → s < 4 → slot_of s ≤ 2
unfolding every upto from
slot-in s h = leb-true _ _ (every-all (λ (x : ℕ). leb (slot_of x) 2) 4 refl s h)
