-- Both calls answer as document 02 asks, and the call on a profile is that on its numbers. Assumes nothing.
use Prim.Native.Nat.{ℕ, ◌≤◌, ◌<◌}
use mathlib.Core.Path.{◌≡◌, refl, sym, ap, ◌∙◌, subst}
use mathlib.Core.Bool.{true}
use mathlib.Core.List.{List, [], ◌∷◌, map}
use native.Mathlib.Omega.{arith}
use lib.ListN.{length, take, length-map}
use lib.Seq.{take_at}
use borrow.Author.Tests.{le-leb, ne_eqb}
use Rattle.laws.proofs.Tests.{all-at, all_none, all_more}
use Rattle.laws.proofs.Picks.{by}
use Rattle.config.specs.declared.Marks.{Marks}
use Rattle.config.specs.declared.Profile.{Profile}
use Rattle.report.specs.Report.{snr_from_q}
use Rattle.config.specs.Ranges.{marks_ok, in_range, in_order}
use Rattle.config.proofs.ranges.Ranged.{ranged}
use Rattle.levels.specs.Usable.{heeded}
use Rattle.levels.proofs.usable.Laws.{level-for-lt}
use Rattle.gear.specs.Goodput.{marks_of}
use Rattle.reachable.specs.Reachable.{Reached, reachable, chosen_by, chosen_under, places}
use Rattle.reachable.specs.Reachable.{listing, listing_unless_refused, range_refusal, profile_refusal, listing_by, listing_under}
use Rattle.reachable.specs.Claim.{Lists, pairs, entries, Answered, ByClaim, UnderClaim, AgreeClaim}
use Rattle.reachable.proofs.Laws.{lists}
use Rattle.reachable.proofs.Refusals.{range_none, profile-none}

-- ---- what is read is what was listed

pairs-map : (xs : List Reached) → pairs (map (λ (x : Reached). x.level) xs) (map (λ (x : Reached). x.q) xs) ≡ xs
pairs-map [] = refl
pairs-map (x ∷ xs) = ap (λ (ys : List Reached). x ∷ ys) (pairs-map xs)

read : (f : Reached → ℕ) (xs : List Reached) → take (length xs) (places (map f xs)) ≡ map f xs
read f xs = take_at (map f xs) _ (length xs) (length-map xs f)

pub entries-listing : (k : ℕ) (xs : List Reached) → entries (listing k xs) ≡ xs
unfolding listing
entries-listing k xs = (λ i. pairs (read (λ (x : Reached). x.level) xs i) (read (λ (x : Reached). x.q) xs i)) ∙ pairs-map xs

-- ---- an answer over any choice

module _ (f : ℕ → ℕ) (low high k : ℕ) (h : high ≤ 255) (b : k ≡ 0 → (q : ℕ) → f q < 17) where
  number_of : (listing_unless_refused k (reachable f low high)).refusal ≡ k
  unfolding listing_unless_refused listing
  number_of = refl

  listed_of : k ≡ 0 → entries (listing_unless_refused k (reachable f low high)) ≡ reachable f low high
  unfolding listing_unless_refused
  listed_of e = rw e (entries-listing 0 (reachable f low high))

  none_of : (k ≡ 0 → ⊥) → entries (listing_unless_refused k (reachable f low high)) ≡ []
  unfolding listing_unless_refused
  none_of e = rw (ne_eqb k 0 e) (entries-listing k [])

  pub answered : Answered f low high k (listing_unless_refused k (reachable f low high))
  answered =
      record {
        number = number_of;
        listed = λ e. subst (Lists f low high) (sym (listed_of e)) (lists f low high h (b e));
        none = none_of;
      }

-- ---- the two calls

pub by-claim : ByClaim
unfolding listing_by
by-claim m power c top low high h =
    answered (chosen_by m power c top) low high (range_refusal m power top low high) (omega arith)
    (λ e q. level-for-lt m power c top (snr_from_q q) (range_none m power top low high e).0)

pub under-claim : UnderClaim
unfolding listing_under
under-claim p c low high h =
    answered (chosen_under p c) low high (profile_refusal p low high) (omega arith)
    (λ e q. level-for-lt (marks_of p) p.power (heeded p.pick_family c) p.max_level (snr_from_q q) (profile-none p low high e).0)

-- ---- the two agree

marks-ok : (p : Profile) → in_range p ≡ true → marks_ok (marks_of p) ≡ true
unfolding in_range marks_of
marks-ok p e = by (λ (m : Marks). marks_ok m ≡ true) p.eff_snr (λ z. all-at _ 5 e) (λ z. all-at _ 4 e)

same-refusal : (p : Profile) (low high : ℕ) → in_range p ≡ true → in_order p ≡ true
    → profile_refusal p low high ≡ range_refusal (marks_of p) p.power p.max_level low high
unfolding profile_refusal range_refusal
same-refusal p low high e d =
    let r = ranged p e in
    let t = all_more _ _ (le-leb p.max_level 16 r.top) all_none in
    let k = all_more _ _ (marks-ok p e) (all_more _ _ (le-leb p.power 2 r.power) t) in
    rw (e, d, k) refl

pub agree : AgreeClaim
unfolding listing_under listing_by
agree p c low high e d = ap (λ (k : ℕ). listing_unless_refused k (reachable (chosen_under p c) low high)) (same-refusal p low high e d)
