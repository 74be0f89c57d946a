-- Loops over the numbers from 0. Definitions only.
use Rattle.std.specs.Prelude.{Bool, cond, ℕ, zero, suc}

-- f at 0, at 1, .., at n - 1, one after the other
unfoldable pub steps : {A : Type 0} → (ℕ → A → A) → ℕ → A → A
steps f zero a = a
steps f (suc k) a = f k (steps f k a)

-- the highest number below n that passes the test, or a: `(0..n).rev().find(p).unwrap_or(a)`
unfoldable pub highest : (ℕ → Bool) → ℕ → ℕ → ℕ
highest p zero a = a
highest p (suc k) a = cond (p k) k (highest p k a)
