-- In a profile whose numbers are in range no count of frames passes 34,001,000, so the bits of a burst fit. Assumes nothing.
use Rattle.std.proofs.Common.{◌≡◌, ℕ, ◌+◌, ◌*◌, ◌/◌, ◌^◌, ◌<◌, ◌≤◌, Bool, true, false, not, T, [], ◌∷◌, sym, refl, subst, le_trans, mul-le-mul_right, mul-le-mul_left, arith}
use native.Mathlib.Nat.{div-le_of_le-mul}
use lib.Ieee.{Float, nan, inf, fin, binary64, up, down, le, lt, add, div, neg, of_int, of_bits, to_unsigned, fits}
use lib.Ieee.Fits.{div-fits}
use Rattle.ieee.specs.Range.{In, w64}
use Rattle.float.specs.Gear.{cue_seconds}
use Rattle.float.specs.Floor.{count_of}
use Rattle.ieee.proofs.Value.{le→Le}
use Rattle.float.proofs.whole.FloorLaws.{count-large, count-one}
use Rattle.float_laws.proofs.Durations.{whole_in}
use Rattle.float_laws.proofs.Intervals.{var, plus, over, none, more, within}
use Rattle.float_laws.proofs.GearRanges.{frames-in}
use Rattle.config.specs.declared.Profile.{Profile}
use Rattle.config.specs.Durations.{slot_at}
use Rattle.config.specs.Ranged.{Ranged}
use Rattle.levels.specs.declared.rates.Pace.{Pace}
use Rattle.levels.specs.Rates.{pace_at, frames_per_burst, pace_s}
use Rattle.levels.specs.RatesCode.{Paced}

abbrev pub largest : ℕ
largest = 34001000

cut : (a d : ℕ) → a * 1 + 0 * d ≤ largest * d + 0 * 1 → a / d ≤ largest
cut a d h = div-le_of_le-mul d (omega arith)

cut-le : (x : Float) → T (le x (w64 largest)) → to_unsigned 64 x ≤ largest
unfolding le of_int to_unsigned
cut-le nan h = absurd h
cut-le (inf true) h = omega arith
cut-le (inf false) h = absurd h
cut-le (fin true m e) h = omega arith
cut-le (fin false m e) h = omega (arith, cut (m * up e) (down e) (le→Le (fin false m e) (w64 largest) tt tt h))

-- the count of a fraction that an f64 holds, in that range
pub count-le : (x : Float) → T (fits binary64 x) → In (neg (w64 66000000)) (w64 largest) x → count_of x ≤ largest
unfolding of_int neg
count-le x F i = go (le (w64 1) x) (λ t. count-large x F t) (λ t. count-one x (subst (λ (b : Bool). T (not b)) (sym t) tt))
  where
    go : (b : Bool) → (T b → to_unsigned 64 x ≡ count_of x) → (b ≡ false → 1 ≡ count_of x) → count_of x ≤ largest
    go true f g = subst (λ (n : ℕ). n ≤ largest) (f tt) (cut-le x i.high)
    go false f g = subst (λ (n : ℕ). n ≤ largest) (g refl) (omega arith)

-- a cue of at most 10 s, or none
pub cue-in : (s : Float) → In (w64 0) (w64 10) s → (cue : Bool) → In (w64 0) (w64 10) (cue_seconds cue s)
unfolding of_int of_bits le lt
cue-in s k true = k
cue-in s k false = record { low = tt; high = tt }

-- level l's numbers are in range
pub paced : (p : Profile) → Ranged p → (l : ℕ) → l < 17 → Paced (pace_at p l)
unfolding slot_at
paced p k l h =
    let at = k.air.level l h in
    record { usual = k.lengths.usual; pre = at.pre; rate = at.rate; cue = k.air.cue; slot = at.slot.1 }

-- a burst of at most two slots
module _ (q : Pace) (k : Paced q) where
  data-in : (bits : ℕ) (cue : Bool) → bits ≤ 32768 → In (w64 0) (w64 33000) (pace_s q bits cue)
  unfolding of_int le lt add div
  data-in bits cue b =
      within ((w64 0, w64 60) ∷ (w64 0, w64 32768) ∷ (w64 1, w64 100000) ∷ (w64 0, w64 10) ∷ []) (q.pre_s ∷ w64 bits ∷ q.rate ∷ cue_seconds cue q.cue_s ∷ [])
      (plus binary64 (plus binary64 (var 0) (over binary64 (var 1) (var 2))) (var 3)) (w64 0) (w64 33000)
      (more k.pre (more (whole_in bits 32768 b) (more k.rate (more (cue-in q.cue_s k.cue cue) none)))) tt

  -- the frames of a burst
  pub frames-le : (cue : Bool) → count_of (frames_per_burst q.usual (pace_s q q.slot cue) (pace_s q (2 * q.slot) cue)) ≤ largest
  unfolding frames_per_burst
  frames-le cue =
      let one = pace_s q q.slot cue in
      let two = pace_s q (2 * q.slot) cue in
      count-le (frames_per_burst q.usual one two) (div-fits binary64 _ _)
      (frames-in q.usual one two k.usual (data-in q.slot cue (omega (arith, k.slot))) (data-in (2 * q.slot) cue (omega (arith, k.slot))))

-- and their bits
pub bits_fit : (n slot : ℕ) → n ≤ largest → slot ≤ 16384 → n * slot < 2 ^ 64
bits_fit n slot h k = omega (arith, le_trans (mul-le-mul_right slot h) (mul-le-mul_left largest k))
