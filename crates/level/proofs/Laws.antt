-- Rules of the ladder's tables, each one test over the whole table. Assumes nothing.
use mathlib.Core.Path.{◌≡◌, refl, sym}
use mathlib.Core.Bool.{Bool, true, false, beq}
use Prim.Native.Nat.{ℕ, ◌<◌}
use lib.Dec.{ltb, leb, ltb→lt}
use Rattle.laws.specs.Span.{from, upto, every}
use Rattle.laws.proofs.Span.{every-all}
use Rattle.laws.proofs.Tables.{entry}
use Rattle.level.specs.Ladder.{waves, wave_rank, long_frame, ofdm}

-- a wave is one of six
pub wave-lt : (l : ℕ) → wave_rank l < 6
unfolding wave_rank
wave-lt l = ltb→lt _ 6 (entry (λ w. ltb w 6) waves 0 l tt tt)

-- levels 0 to 4 use short frames, the rest long
agree : (a b : Bool) → beq a b ≡ true → a ≡ b
agree true true e = refl
agree true false e = sym e
agree false true e = e
agree false false e = refl

pub long-from-5 : (l : ℕ) → l < 17 → long_frame l ≡ leb 5 l
unfolding long_frame every upto from
long-from-5 l h = agree (long_frame l) (leb 5 l) (every-all (λ (k : ℕ). beq (long_frame k) (leb 5 k)) 17 refl l h)

-- MFSK has short frames, OFDM long ones
pub long-is-ofdm : (l : ℕ) → l < 17 → long_frame l ≡ ofdm (wave_rank l)
unfolding long_frame wave_rank every upto from
long-is-ofdm l h = agree (long_frame l) (ofdm (wave_rank l)) (every-all (λ (k : ℕ). beq (long_frame k) (ofdm (wave_rank k))) 17 refl l h)
