-- Which levels `level_for` can choose for a report known only within a range (document 02, Change 12). Definitions only.
use Rattle.std.specs.Prelude.{ℕ, ◌+◌, ◌-◌, not, cond, List, [], ◌∷◌, ◌++◌, map, leb, ltb, eqb, length, replicate}
use Rattle.laws.specs.Tests.{all}
use Rattle.laws.specs.Span.{upto, first}
use Rattle.config.specs.declared.Marks.{Marks}
use Rattle.config.specs.declared.Profile.{Profile}
use Rattle.report.specs.Report.{snr_from_q}
use Rattle.report.specs.declared.ChanClass.{ChanClass}
use Rattle.config.specs.Ranges.{marks_ok, in_range, in_order}
use Rattle.levels.specs.Usable.{level_for, heeded}
use Rattle.gear.specs.Goodput.{marks_of}
use Rattle.reachable.specs.declared.Listing.{Listing}
use Rattle.reachable.specs.declared.Refusal.{Refusal}
use Rattle.reachable.specs.declared.Refusal.TheVariants.{OutOfRange, ShortOverLong, LowOverHigh}

-- "a byte q meaning q - 24 dB": what `level_for` chooses for it
abbrev pub chosen_by : Marks → ℕ → ChanClass → ℕ → ℕ → ℕ
chosen_by m power c top q = level_for m power c top (snr_from_q q)

-- no byte: no q of the range gives the level
abbrev pub no_q : ℕ
no_q = 256

-- "the lowest q that gives it", of the range low to high
unfoldable pub lowest_of : (ℕ → ℕ) → ℕ → ℕ → ℕ → ℕ
lowest_of f low high l = first (λ q. eqb (f q) l) no_q (upto low (high + 1))

-- a level, and its lowest q
pub record Reached : Type 0 where
  pub level : ℕ
  pub q : ℕ

-- of the levels `ls` those that have a lowest q, with it
unfoldable pub given : (ℕ → ℕ) → List ℕ → List Reached
given lowest [] = []
given lowest (l ∷ ls) = cond (ltb (lowest l) no_q) (record { level = l; q = lowest l } ∷ given lowest ls) (given lowest ls)

-- "the levels that it can choose for some q in the range. Each level comes once, ascending"
abbrev pub reachable : (ℕ → ℕ) → ℕ → ℕ → List Reached
reachable f low high = given (lowest_of f low high) (upto 0 17)

-- ---- the answer: the listing in the first n of 17 places, 0 in the others

abbrev pub places : List ℕ → List ℕ
places xs = xs ++ replicate (17 - length xs) 0

unfoldable pub listing : ℕ → List Reached → Listing
listing refusal xs =
    let levels = map (λ (x : Reached). x.level) xs in
    let qs = map (λ (x : Reached). x.q) xs in
    record { refusal = refusal; n = length xs; level = places levels; q = places qs }

-- nothing is listed where the call is refused
unfoldable pub listing_unless_refused : ℕ → List Reached → Listing
listing_unless_refused refusal xs = listing refusal (cond (eqb refusal 0) xs [])

-- a refusal's number
abbrev pub number_of : Refusal → ℕ
number_of OutOfRange = 1
number_of ShortOverLong = 2
number_of LowOverHigh = 19

-- "It refuses a lowest q above the highest with 19"
unfoldable pub order_refusal : ℕ → ℕ → ℕ
order_refusal low high = cond (ltb high low) 19 0

-- ---- the call on `level_for`'s own arguments: "refused by 1 outside document 01's ranges"

unfoldable pub range_refusal : Marks → ℕ → ℕ → ℕ → ℕ → ℕ
range_refusal m power top low high = cond (not (all (marks_ok m ∷ leb power 2 ∷ leb top 16 ∷ []))) 1 (order_refusal low high)

unfoldable pub listing_by : Marks → ℕ → ChanClass → ℕ → ℕ → ℕ → Listing
listing_by m power c top low high = listing_unless_refused (range_refusal m power top low high) (reachable (chosen_by m power c top) low high)

-- ---- the call on a whole profile: 19 "after 1 and 2"

unfoldable pub profile_refusal : Profile → ℕ → ℕ → ℕ
profile_refusal p low high = cond (not (in_range p)) 1 (cond (not (in_order p)) 2 (order_refusal low high))

-- what a sender under the profile would choose: thresholds and margin by eff_snr, the class heeded with pick_family
abbrev pub chosen_under : Profile → ChanClass → ℕ → ℕ
chosen_under p c = chosen_by (marks_of p) p.power (heeded p.pick_family c) p.max_level

unfoldable pub listing_under : Profile → ChanClass → ℕ → ℕ → Listing
listing_under p c low high = listing_unless_refused (profile_refusal p low high) (reachable (chosen_under p c) low high)
