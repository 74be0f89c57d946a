-- What lies in a range, added, subtracted, multiplied and divided, lies in the range that the ends give. Assumes nothing.
use lib.Dec.{T}
use mathlib.Core.Bool.{not}
use lib.Ieee.{Float, Format, le, add, sub, div, is_nan}
use lib.Ieee.Scale.{finite}
use lib.Ieee.Positive.{positive, between}
use Rattle.ieee.specs.Range.{In}
use Rattle.ieee.proofs.Value.{finite-between, finite-no-nan, le_trans}
use Rattle.ieee.proofs.Mono.{null, add-mono, sub-mono, div_mono, div-anti}

pub in-finite : {lo hi x : Float} → T (finite lo) → T (finite hi) → In lo hi x → T (finite x)
in-finite {lo} {hi} {x} p q i = finite-between lo x hi p q i.low i.high

pub in-no-nan : {lo hi x : Float} → T (finite lo) → T (finite hi) → In lo hi x → T (not (is_nan x))
in-no-nan {lo} {hi} {x} p q i = finite-no-nan x (in-finite p q i)

-- a wider range
pub in-wider : {lo hi x : Float} (lo' hi' : Float) → T (le lo' lo) → T (le hi hi') → In lo hi x → In lo' hi' x
in-wider {lo} {hi} {x} lo' hi' p q i = record { low = le_trans lo' lo x p i.low; high = le_trans x hi hi' i.high q }

module _ (f : Format) (lo hi lo' hi' x y : Float) (A : T (finite lo)) (B : T (finite hi)) (C : T (finite lo')) (D : T (finite hi')) (i : In lo hi x) (j : In lo' hi' y) where
  pub add-in : In (add f lo lo') (add f hi hi') (add f x y)
  add-in =
      let X = in-finite A B i in
      let Y = in-finite C D j in
      record { low = add-mono f lo x lo' y A X C Y i.low j.low; high = add-mono f x hi y hi' X B Y D i.high j.high }

  pub sub_in : In (sub f lo hi') (sub f hi lo') (sub f x y)
  sub_in =
      let X = in-finite A B i in
      let Y = in-finite C D j in
      record { low = sub-mono f lo x hi' y A X D Y i.low j.high; high = sub-mono f x hi y lo' X B Y C i.high j.low }

  -- of a dividend that is not negative, by a divisor above zero
  pub div-in : T (le null lo) → T (positive lo') → T (positive hi') → In (div f lo hi') (div f hi lo') (div f x y)
  div-in p q q' =
      let X = in-finite A B i in
      let Y = between lo' y hi' q q' j.low j.high in
      let hi-ge = le_trans null lo hi p (le_trans lo x hi i.low i.high) in
      record {
        low = le_trans (div f lo hi') (div f lo y) (div f x y) (div-anti f lo y hi' A Y q' p j.high) (div_mono f lo x y A X Y i.low);
        high = le_trans (div f x y) (div f hi y) (div f hi lo') (div_mono f x hi y X B Y i.high) (div-anti f hi lo' y B q Y hi-ge j.low);
      }
