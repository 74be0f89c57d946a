-- Counted from the top or from the bottom, the number of slots is the same: a longer burst is never shorter on air. Assumes nothing.
-- Fewer pieces fit where more do (`fits-fewer`). The way up stops at the first r whose successor does not fit. So nothing above r fits,
-- and the way down comes to r.
use mathlib.Core.Path.{◌≡◌, refl, sym, ap, ◌∙◌}
use mathlib.Core.Bool.{true, false, false≢true}
use Prim.Native.Nat.{ℕ, zero, suc, ◌+◌, ◌-◌, ◌*◌, ◌≤◌, ◌<◌}
use native.Mathlib.Nat.{mul-le-mul}
use native.Mathlib.Omega.{arith}
use lib.Dec.{leb, ltb}
use borrow.Author.Tests.{ltb-true, ltb-false, lt-ltb, le-ltb, leb-true, le-leb}
use Rattle.laws.proofs.Picks.{test, by, and_yes, and_first, and_second}
use Rattle.limits.specs.Limits.{max_slots, max_bits, max_burst_bits}
use Rattle.plan.specs.declared.Choice.{Choice}
use Rattle.plan.specs.Planning.{fits}
use Rattle.plan.specs.PlanningCode.{NeverShorter, cap_of, one_more_fits, room_counted, most_of, fits_with, room_down}

module _ (c : Choice) (b : ℕ) where
  -- ---- turns of the way down

  pub down-found : (r : ℕ) → 0 < r → fits_with c b r ≡ true → room_down c b r ≡ r
  unfolding room_down
  down-found zero h e = absurd (omega arith)
  down-found (suc r) h e = rw e

  pub down-less : (r : ℕ) → 0 < r → fits_with c b r ≡ false → room_down c b r ≡ room_down c b (r - 1)
  unfolding room_down
  down-less zero h e = absurd (omega arith)
  down-less (suc r) h e = rw e (ap (room_down c b) (let q : r ≡ suc r - 1 = omega arith in q))

  pub down-none : (r : ℕ) → r ≤ 0 → room_down c b r ≡ 0
  unfolding room_down
  down-none zero h = refl
  down-none (suc r) h = absurd (omega arith)

  module _ (longer : NeverShorter c) (slot : c.slot ≤ max_bits) (few : b ≤ max_burst_bits) where
    -- fewer pieces fit where more do
    fits-fewer : (i j : ℕ) → i ≤ j → j ≤ max_slots → fits_with c b j ≡ true → fits_with c b i ≡ true
    unfolding fits_with
    fits-fewer i j h m e =
        let less : b + i * c.slot ≤ b + j * c.slot = omega (arith, mul-le-mul h (let r : c.slot ≤ c.slot = omega arith in r)) in
        let bits = leb-true (b + j * c.slot) c.max_bits (and_second (fits c (b + j * c.slot)) _ e) in
        and_yes _ _
        (longer _ _ less (omega (arith, few, mul-le-mul m slot)) (and_first _ (leb (b + j * c.slot) c.max_bits) e))
        (le-leb (b + i * c.slot) c.max_bits (omega (arith, less, bits)))

    -- where one more than r does not fit, the way down from above comes to r
    down-past : (r d : ℕ) → fits_with c b (suc r) ≡ false → r + d ≤ max_slots → room_down c b (r + d) ≡ room_down c b r
    down-past r zero e h = ap (room_down c b) (let q : r + zero ≡ r = omega arith in q)
    down-past r (suc d) e h =
        let none : fits_with c b (r + suc d) ≡ false =
        test (fits_with c b (r + suc d)) (λ t. absurd (false≢true (sym e ∙ fits-fewer (suc r) (r + suc d) (omega arith) h t))) (λ t. t) in
        down-less (r + suc d) (omega arith) none
        ∙ ap (room_down c b) (let q : r + suc d - 1 ≡ r + d = omega arith in q)
        ∙ down-past r d e (omega arith)

    -- r pieces fit; none is not tested
    abbrev Fits : ℕ → Type 0
    Fits zero = Unit {0}
    Fits (suc r) = fits_with c b (suc r) ≡ true

    down-here : (r : ℕ) → Fits r → room_down c b r ≡ r
    down-here zero f = down-none 0 (omega arith)
    down-here (suc r) f = down-found (suc r) (omega arith) f

    module _ (n stored : ℕ) where
      abbrev most : ℕ
      most = most_of c n stored

      more-is : (r : ℕ) → r < most → one_more_fits c n stored b r ≡ fits_with c b (suc r)
      unfolding one_more_fits fits_with
      more-is r h = rw (lt-ltb (n + r) (cap_of c) (omega arith), lt-ltb (stored + r) max_slots (omega arith))

      more-none : (r : ℕ) → most ≤ r → one_more_fits c n stored b r ≡ false
      unfolding one_more_fits
      more-none r h =
          test (ltb (n + r) (cap_of c))
          (λ e. rw (e, le-ltb (stored + r) max_slots (omega (arith, ltb-true (n + r) (cap_of c) e))) refl)
          (λ e. rw e refl)

      -- the way up from r, that fits, comes to where the way down from the most comes
      up-down : (k r : ℕ) → r ≤ most → most ≤ k + r → Fits r → room_counted c n stored b k r ≡ room_down c b most
      unfolding room_counted
      up-down zero r h l f = sym (ap (room_down c b) (let q : most ≡ r = omega arith in q) ∙ down-here r f)
      up-down (suc k) r h l f =
          test (ltb r most)
          (λ e.
          let g = ltb-true r most e in
          by (λ (x : ℕ). x ≡ room_down c b most) (one_more_fits c n stored b r)
          (λ d. up-down k (suc r) (omega arith) (omega arith) (sym (more-is r g) ∙ d))
          (λ d.
          sym
          (ap (room_down c b) (let q : most ≡ r + (most - r) = omega arith in q)
          ∙ down-past r (most - r) (sym (more-is r g) ∙ d) (omega arith)
          ∙ down-here r f)))
          (λ e.
          let g : most ≡ r = omega (arith, ltb-false r most e) in
          rw (more-none r (omega arith)) (sym (ap (room_down c b) g ∙ down-here r f)))

      -- THE NUMBER FOUND IS THE SAME
      pub room-same : room_down c b most ≡ room_counted c n stored b max_slots 0
      room-same = sym (up-down max_slots 0 (omega arith) (omega arith) tt)
