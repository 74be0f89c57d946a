-- Laws of `all`: a test of the list, from the list's; and back. Assumes nothing.
use mathlib.Core.Path.{◌≡◌, refl}
use mathlib.Core.Bool.{Bool, true}
use mathlib.Core.List.{List, [], ◌∷◌}
use Prim.Native.Nat.{ℕ, zero, suc}
use lib.ListN.{get_or}
use Rattle.laws.specs.Tests.{all}
use Rattle.laws.proofs.Picks.{and_first, and_second, and_yes}

-- the k-th test passes
pub all-at : (bs : List Bool) (k : ℕ) → all bs ≡ true → get_or bs k true ≡ true
unfolding all
all-at [] k e = refl
all-at (b ∷ []) zero e = e
all-at (b ∷ []) (suc k) e = refl
all-at (b ∷ c ∷ bs) zero e = and_first b (all (c ∷ bs)) e
all-at (b ∷ c ∷ bs) (suc k) e = all-at (c ∷ bs) k (and_second b (all (c ∷ bs)) e)

pub all_none : all [] ≡ true
unfolding all
all_none = refl

pub all_more : (b : Bool) (bs : List Bool) → b ≡ true → all bs ≡ true → all (b ∷ bs) ≡ true
unfolding all
all_more b [] p q = p
all_more b (c ∷ bs) p q = and_yes b (all (c ∷ bs)) p q
