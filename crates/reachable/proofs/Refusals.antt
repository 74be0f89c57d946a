-- What each refusal is by its tests, and what is known where there is none. Assumes nothing.
use Prim.Native.Nat.{ℕ, ◌≤◌, ◌<◌}
use mathlib.Core.Path.{◌≡◌, refl, sym, ◌∙◌}
use mathlib.Core.Bool.{Bool, true, false, not}
use mathlib.Core.List.{List, [], ◌∷◌}
use native.Mathlib.Omega.{arith}
use lib.Dec.{leb, ltb}
use borrow.Author.Tests.{ltb-false, leb-true, le-leb, lt-leb, ne_eqb}
use Rattle.laws.specs.Tests.{all}
use Rattle.laws.proofs.Picks.{test}
use Rattle.laws.proofs.Tests.{all-at}
use Rattle.config.specs.declared.Marks.{Marks}
use Rattle.config.specs.declared.Profile.{Profile}
use Rattle.config.specs.Ranges.{marks_ok, in_range, in_order}
use Rattle.config.proofs.ranges.Ranged.{ranged}
use Rattle.report.specs.declared.ChanClass.{ChanClass}
use Rattle.levels.specs.Usable.{heeded}
use Rattle.gear.specs.Goodput.{marks_of}
use Rattle.reachable.specs.Reachable.{Reached, chosen_by, chosen_under, reachable}
use Rattle.reachable.specs.declared.Refusal.{Refusal}
use Rattle.reachable.specs.declared.Refusal.TheVariants.{OutOfRange, ShortOverLong, LowOverHigh}
use Rattle.reachable.specs.Reachable.{number_of, listing, listing_unless_refused, order_refusal, range_refusal, profile_refusal}
use Rattle.reachable.specs.declared.Listing.{Listing}

-- ---- `level_for`'s own arguments

module _ (m : Marks) (power top low high : ℕ) (r : Bool) (e : r ≡ marks_ok m) where
  pub range-bad : r ≡ false → 1 ≡ range_refusal m power top low high
  unfolding range_refusal all
  range-bad h = rw (sym e ∙ h) refl

  module _ (h : r ≡ true) where
    pub range-power : 2 < power → 1 ≡ range_refusal m power top low high
    unfolding range_refusal all
    range-power a = rw (sym e ∙ h, lt-leb power 2 a) refl

    pub range-top : power ≤ 2 → 16 < top → 1 ≡ range_refusal m power top low high
    unfolding range_refusal all
    range-top a b = rw (sym e ∙ h, le-leb power 2 a, lt-leb top 16 b) refl

    pub range-good : (x : ℕ) → power ≤ 2 → top ≤ 16 → x ≡ order_refusal low high → x ≡ range_refusal m power top low high
    unfolding range_refusal all
    range-good x a b k = rw (sym e ∙ h, le-leb power 2 a, le-leb top 16 b) k

-- ---- a whole profile

module _ (p : Profile) (low high : ℕ) (r : Bool) (e : r ≡ in_range p) where
  pub profile-out : not r ≡ true → 1 ≡ profile_refusal p low high
  unfolding profile_refusal
  profile-out h = rw (rw e at h) refl

  module _ (s : Bool) (d : s ≡ in_order p) (h : not r ≡ false) where
    pub profile-order : not s ≡ true → 2 ≡ profile_refusal p low high
    unfolding profile_refusal
    profile-order k = rw (rw e at h) (rw (rw d at k) refl)

    pub profile-good : (x : ℕ) → not s ≡ false → x ≡ order_refusal low high → x ≡ profile_refusal p low high
    unfolding profile_refusal
    profile-good x k z = rw (rw e at h) (rw (rw d at k) z)

-- ---- where there is no refusal

pub order-none : (low high : ℕ) → order_refusal low high ≡ 0 → low ≤ high
unfolding order_refusal
order-none low high h = test (ltb high low) (λ t. absurd (omega (arith, rw t at h))) (λ t. ltb-false high low t)

pub range_none : (m : Marks) (power top low high : ℕ) → range_refusal m power top low high ≡ 0 → (top < 17) × (low ≤ high)
unfolding range_refusal
range_none m power top low high h =
    test (all (marks_ok m ∷ leb power 2 ∷ leb top 16 ∷ []))
    (λ t. (omega (arith, leb-true top 16 (all-at (marks_ok m ∷ leb power 2 ∷ leb top 16 ∷ []) 2 t)), order-none low high (rw t at h)))
    (λ t. absurd (omega (arith, rw t at h)))

pub profile-none : (p : Profile) (low high : ℕ) → profile_refusal p low high ≡ 0 → (p.max_level < 17) × (low ≤ high)
unfolding profile_refusal
profile-none p low high h =
    test (in_range p)
    (λ t. test (in_order p)
    (λ s. (omega (arith, (ranged p t).top), order-none low high (rw s at (rw t at h))))
    (λ s. absurd (omega (arith, rw s at (rw t at h)))))
    (λ t. absurd (omega (arith, rw t at h)))

-- ---- a refusal has a number

pub number-some : (r : Refusal) → number_of r ≡ 0 → ⊥
number-some OutOfRange e = omega arith
number-some ShortOverLong e = omega arith
number-some LowOverHigh e = omega arith

-- ---- the answer, with n for the refusal k

module _ (n k : ℕ) (e : n ≡ k) (xs : List Reached) (r : Listing) where
  pub answer-yes : n ≡ 0 → r ≡ listing 0 xs → r ≡ listing_unless_refused k xs
  unfolding listing_unless_refused
  answer-yes z h = rw (sym e ∙ z) h

  pub answer-no : (n ≡ 0 → ⊥) → r ≡ listing n [] → r ≡ listing_unless_refused k xs
  unfolding listing_unless_refused
  answer-no z h = rw (← e) (rw (ne_eqb n 0 z) h)

-- a call under a profile: its thresholds, and the class that is heeded
pub under : (p : Profile) (c h : ChanClass) (m : Marks) (low high : ℕ) (r : Listing) → m ≡ marks_of p → h ≡ heeded p.pick_family c
    → r ≡ listing 0 (reachable (chosen_by m p.power h p.max_level) low high) → r ≡ listing 0 (reachable (chosen_under p c) low high)
under p c h m low high r a b e = e ∙ (λ i. listing 0 (reachable (chosen_by (a i) p.power (b i) p.max_level) low high))
