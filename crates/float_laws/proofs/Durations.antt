-- The duration of a burst grows with its bits, and how far it goes. Assumes nothing.
use Prim.Native.Nat.{ℕ, ◌≤◌, ◌^◌, zero-le}
use native.Mathlib.Nat.{le_trans}
use lib.Dec.{T, lit≤}
use lib.Ieee.{Float, binary64, le, add, div, of_int}
use lib.Ieee.Scale.{finite}
use lib.Ieee.Positive.{positive, between}
use Rattle.ieee.specs.Range.{In, w64}
use Rattle.ieee.proofs.Value.{le_refl, finite-no-nan}
use Rattle.ieee.proofs.Mono.{whole-mono, add-mono, add-mono-right, div_mono}
use Rattle.ieee.proofs.Bounds.{add-in, div-in, in-finite}
use Rattle.float.specs.Gear.{duration, data_seconds}

-- a whole number of at most 64 bits
pub whole_in : (n m : ℕ) → n ≤ m → In (w64 0) (w64 m) (w64 n)
whole_in n m h = record { low = whole-mono binary64 0 n zero-le; high = whole-mono binary64 n m h }

whole-finite : (n : ℕ) → n ≤ 2 ^ 64 → T (finite (w64 n))
whole-finite n h = in-finite {lo = w64 0} {hi = w64 (2 ^ 64)} {x = w64 n} (unfold of_int in tt) (unfold of_int in tt) (whole_in n (2 ^ 64) h)

-- for every finite pre and every rate above zero, up to an infinity
pub duration-mono : (pre rate : Float) → T (finite pre) → T (positive rate) → (a b : ℕ) → a ≤ b → b ≤ 2 ^ 64 → T (le (duration pre rate a) (duration pre rate b))
duration-mono pre rate F R a b h k =
    add-mono-right binary64 pre (div binary64 (w64 a) rate) (div binary64 (w64 b) rate) F
    (div_mono binary64 (w64 a) (w64 b) rate (whole-finite a (le_trans h k)) (whole-finite b k) R (whole-mono binary64 a b h))

-- in a profile's ranges, document 01: pre_s from 0 to 60, rate from 1 to 100,000, max_bits up to 2 ^ 32
module _ (pre rate : Float) (i : In (w64 0) (w64 60) pre) (j : In (w64 1) (w64 100000) rate) where
  pub duration-in : (bits : ℕ) → bits ≤ 2 ^ 32 → In (w64 0) (w64 4294967356) (duration pre rate bits)
  unfolding of_int add div le
  duration-in bits h =
      add-in binary64 (w64 0) (w64 60) (w64 0) (w64 (2 ^ 32)) pre (div binary64 (w64 bits) rate) tt tt tt tt i
      (div-in binary64 (w64 0) (w64 (2 ^ 32)) (w64 1) (w64 100000) (w64 bits) rate tt tt tt tt (whole_in bits (2 ^ 32) h) j tt tt tt)

  duration-finite : (bits : ℕ) → bits ≤ 2 ^ 32 → T (finite (duration pre rate bits))
  duration-finite bits h = in-finite {lo = w64 0} {hi = w64 4294967356} {x = duration pre rate bits} (unfold of_int in tt) (unfold of_int in tt) (duration-in bits h)

  -- with a cue of at most 10 s
  pub with-cue-mono : (cue : Float) → In (w64 0) (w64 10) cue → (a b : ℕ) → a ≤ b → b ≤ 2 ^ 32 → T (le (data_seconds pre rate a cue) (data_seconds pre rate b cue))
  unfolding of_int
  with-cue-mono cue k a b h l =
      let p = in-finite {lo = w64 0} {hi = w64 60} {x = pre} tt tt i in
      let c = in-finite {lo = w64 0} {hi = w64 10} {x = cue} tt tt k in
      add-mono binary64 (duration pre rate a) (duration pre rate b) cue cue (duration-finite a (le_trans h l)) (duration-finite b l) c c
      (duration-mono pre rate p (between (w64 1) rate (w64 100000) tt tt j.low j.high) a b h (le_trans l (lit≤ tt))) (le_refl cue (finite-no-nan cue c))
