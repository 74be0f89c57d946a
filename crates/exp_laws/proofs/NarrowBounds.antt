-- `narrow` of a finite value is its rounding to binary32: it grows with the value, and keeps a range whose ends an f32 holds. Assumes nothing.
use mathlib.Core.Path.{refl}
use Prim.Native.Nat.{◌*◌}
use native.Mathlib.Omega.{arith}
use mathlib.Core.Bool.{true, false}
use lib.Dec.{T}
use lib.Ieee.{Float, nan, inf, fin, binary32, up, le, fits}
use lib.Ieee.Fits.{down_pos}
use lib.Ieee.Scale.{finite}
use lib.Ieee.Positive.{den, den_pos}
use Rattle.ieee.specs.Range.{In}
use Rattle.ieee.proofs.Value.{P, N, le→Le}
use Rattle.ieee.proofs.Rounds.{Rounds, plus-of, minus-of, rounds-mono}
use Rattle.ieee.proofs.Representable.{rounds-le, rounds-ge}
use Rattle.ieee.proofs.Mono.{null}
use Rattle.ieee.proofs.Bounds.{in-finite}
use Rattle.exp.specs.Narrow.{narrow}

pub narrow-rounds : (x : Float) → T (finite x) → Rounds binary32 (narrow x) (P x) (N x) (den x)
unfolding narrow
narrow-rounds nan f = absurd f
narrow-rounds (inf s) f = absurd f
narrow-rounds (fin true m e) f = minus-of binary32 _ _ _ _ (m * up e) (omega arith) refl
narrow-rounds (fin false m e) f = plus-of binary32 _ _ _ _ (m * up e) (omega arith) refl

pub narrow-mono : (x y : Float) → T (finite x) → T (finite y) → T (le x y) → T (le (narrow x) (narrow y))
narrow-mono x y X Y h = rounds-mono binary32 (narrow x) (narrow y) (P x) (N x) (den x) (P y) (N y) (den y) (den_pos x) (den_pos y) (narrow-rounds x X) (narrow-rounds y Y) (le→Le x y X Y h)

-- it keeps a range whose ends an f32 holds
pub narrow-in : (lo hi x : Float) → T (finite lo) → T (finite hi) → T (fits binary32 lo) → T (fits binary32 hi) → In lo hi x → In lo hi (narrow x)
narrow-in lo hi x A B F G i =
    let X = in-finite A B i in
    record {
      low = rounds-ge binary32 (narrow x) lo (P x) (N x) (den x) (den_pos x) A F (narrow-rounds x X) (le→Le lo x A X i.low);
      high = rounds-le binary32 (narrow x) hi (P x) (N x) (den x) (den_pos x) B G (narrow-rounds x X) (le→Le x hi X B i.high);
    }

-- and a value that is not negative stays so
pub narrow-ge : (y : Float) → T (le null y) → T (le null (narrow y))
unfolding le narrow
narrow-ge nan h = absurd h
narrow-ge (inf true) h = absurd h
narrow-ge (inf false) h = tt
narrow-ge (fin s m e) h =
    rounds-ge binary32 (narrow (fin s m e)) null (P (fin s m e)) (N (fin s m e)) (den (fin s m e)) (down_pos e) tt (unfold fits in tt) (narrow-rounds (fin s m e) tt) (le→Le null (fin s m e) tt tt h)
