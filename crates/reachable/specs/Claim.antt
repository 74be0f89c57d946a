-- What the listing is, said of any choice of a level by a byte, so for both threshold sets, every margin, class and top, and all
-- power tables at once ("One proof covers both threshold sets and all power tables"). proofs/Laws.antt and proofs/Answers.antt prove it.
-- Definitions only.
use Rattle.std.specs.Prelude.{ℕ, ◌+◌, ◌<◌, ◌≤◌, ◌≡◌, List, [], ◌∷◌, ◌⊎◌, true, take}
use Rattle.config.specs.declared.Marks.{Marks}
use Rattle.config.specs.declared.Profile.{Profile}
use Rattle.report.specs.declared.ChanClass.{ChanClass}
use Rattle.config.specs.Ranges.{in_range, in_order}
use Rattle.levels.specs.Usable.{heeded}
use Rattle.gear.specs.Goodput.{marks_of}
use Rattle.reachable.specs.declared.Listing.{Listing}
use Rattle.reachable.specs.Reachable.{Reached, reachable, chosen_by, chosen_under, range_refusal, profile_refusal}
use Rattle.reachable.specs.Reachable.{listing_by, listing_under}

-- an entry stands in a listing
abbrev pub Listed : Reached → List Reached → Type 0
Listed x [] = ⊥
Listed x (y ∷ ys) = (x ≡ y) ⊎ Listed x ys

-- each level is above the one before, and the first is a or above
abbrev pub Ascends : ℕ → List Reached → Type 0
Ascends a [] = Unit {0}
Ascends a (x ∷ xs) = (a ≤ x.level) × Ascends (x.level + 1) xs

-- q is the lowest of low to high for which f chooses level l
pub record Lowest (f : ℕ → ℕ) (low high l q : ℕ) : Type 0 where
  pub inside : (low ≤ q) × (q ≤ high)
  pub gives : f q ≡ l
  pub lowest : (k : ℕ) → low ≤ k → k < q → f k ≡ l → ⊥

-- xs is the listing that document 02 asks for, of a choice f over low to high
pub record Lists (f : ℕ → ℕ) (low high : ℕ) (xs : List Reached) : Type 0 where
  -- what is listed can be chosen, and stands there "with the lowest q that gives it"
  pub gives : (x : Reached) → Listed x xs → Lowest f low high x.level x.q
  -- what can be chosen is listed, so "A level is left out exactly when no q in the range gives it"
  pub listed : (q : ℕ) → low ≤ q → q ≤ high → (k : ℕ) × Listed (record { level = f q; q = k }) xs
  -- "Each level comes once, ascending"
  pub ascends : Ascends 0 xs

-- for every choice among the 17 levels, and every range of bytes
abbrev pub ListsClaim : Type 0
ListsClaim = (f : ℕ → ℕ) (low high : ℕ) → high ≤ 255 → ((q : ℕ) → f q < 17) → Lists f low high (reachable f low high)

-- ---- of the two calls

-- what a caller reads: the first n places
abbrev pub pairs : List ℕ → List ℕ → List Reached
pairs [] qs = []
pairs (l ∷ ls) [] = []
pairs (l ∷ ls) (q ∷ qs) = record { level = l; q = q } ∷ pairs ls qs

abbrev pub entries : Listing → List Reached
entries r = pairs (take r.n r.level) (take r.n r.q)

-- an answer bears its number; where that is 0 it holds document 02's listing, and else no level
pub record Answered (f : ℕ → ℕ) (low high refusal : ℕ) (r : Listing) : Type 0 where
  pub number : r.refusal ≡ refusal
  pub listed : refusal ≡ 0 → Lists f low high (entries r)
  pub none : (refusal ≡ 0 → ⊥) → entries r ≡ []

-- on `level_for`'s own arguments
abbrev pub ByClaim : Type 0
ByClaim =
    (m : Marks) (power : ℕ) (c : ChanClass) (top low high : ℕ) → high ≤ 255
    → Answered (chosen_by m power c top) low high (range_refusal m power top low high) (listing_by m power c top low high)

-- on a whole profile
abbrev pub UnderClaim : Type 0
UnderClaim = (p : Profile) (c : ChanClass) (low high : ℕ) → high ≤ 255
    → Answered (chosen_under p c) low high (profile_refusal p low high) (listing_under p c low high)

-- the second gives what the first gives of the profile's numbers, where neither 1 nor 2 refuses the profile
abbrev pub AgreeClaim : Type 0
AgreeClaim =
    (p : Profile) (c : ChanClass) (low high : ℕ) → in_range p ≡ true → in_order p ≡ true
    → listing_under p c low high ≡ listing_by (marks_of p) p.power (heeded p.pick_family c) p.max_level low high
