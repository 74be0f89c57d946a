-- Rust's `a..b` as a list, and what iterators do with it. Definitions only.
use Rattle.std.specs.Prelude.{Bool, true, cond, ◌&&◌, List, [], ◌∷◌, ℕ, zero, suc, ◌+◌, ◌-◌}

-- m numbers from a on
unfoldable pub from : ℕ → ℕ → List ℕ
from a zero = []
from a (suc m) = a ∷ from (a + 1) m

-- a..b
unfoldable pub upto : ℕ → ℕ → List ℕ
unfolding from
upto a b = from a (b - a)

-- `.fold(x, f)`
unfoldable pub fold : {A : Type 0} → (A → ℕ → A) → A → List ℕ → A
fold f x [] = x
fold f x (k ∷ ks) = fold f (f x k) ks

-- `.all(p)`
unfoldable pub every : (ℕ → Bool) → List ℕ → Bool
every p [] = true
every p (k ∷ ks) = p k && every p ks

-- `.find(p).unwrap_or(a)`
unfoldable pub first : (ℕ → Bool) → ℕ → List ℕ → ℕ
first p a [] = a
first p a (k ∷ ks) = cond (p k) k (first p a ks)

-- `.filter(p).count()`
unfoldable pub count : (ℕ → Bool) → List ℕ → ℕ
count p [] = 0
count p (k ∷ ks) = cond (p k) (count p ks + 1) (count p ks)

-- `.filter(p).take(n).last().unwrap_or(a)`
unfoldable pub last_of : (ℕ → Bool) → ℕ → ℕ → List ℕ → ℕ
last_of p n a [] = a
last_of p zero a (k ∷ ks) = a
last_of p (suc n) a (k ∷ ks) = cond (p k) (last_of p n k ks) (last_of p (suc n) a ks)
