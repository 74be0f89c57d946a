-- Laws of `steps` and `highest`: where a loop begins, a turn of it, and what it keeps.
-- Assumes nothing.
use mathlib.Core.Path.{◌≡◌, refl, ap, ◌∙◌}
use mathlib.Core.Bool.{Bool, true, false}
use Prim.Native.Nat.{ℕ, zero, suc, ◌+◌, ◌-◌, ◌<◌, ◌≤◌}
use native.Mathlib.Omega.{arith}
use native.Mathlib.Nat.{not-suc-le-zero}
use native.Mathlib.Numerals.{add-one, sub-one}
use Rattle.laws.specs.Steps.{steps, highest}
use Rattle.laws.proofs.Picks.{either}

-- where the loop begins
pub steps-none : {A : Type 0} (f : ℕ → A → A) (a : A) → a ≡ steps f 0 a
unfolding steps
steps-none f a = refl

-- one turn more
pub steps-more : {A : Type 0} (f : ℕ → A → A) (k : ℕ) (a x y : A) → x ≡ steps f k a → y ≡ f k x → y ≡ steps f (k + 1) a
unfolding steps
steps-more f k a x y p q = rw add-one (q ∙ ap (f k) p)

-- what each turn keeps holds at the end
pub steps-keep : {A : Type 0} (P : A → Type 0) (f : ℕ → A → A) (n : ℕ) (a : A) → ((k : ℕ) (x : A) → P x → P (f k x)) → P a → P (steps f n a)
unfolding steps
steps-keep P f zero a h p = p
steps-keep P f (suc n) a h p = h n (steps f n a) (steps-keep P f n a h p)

pub highest-none : (p : ℕ → Bool) (a : ℕ) → a ≡ highest p 0 a
unfolding highest
highest-none p a = refl

-- a loop that goes down from k: the test passes at k - 1, or it does not
pub highest-hit : (p : ℕ → Bool) (k a : ℕ) → 0 < k → p (k - 1) ≡ true → highest p k a ≡ k - 1
unfolding highest
highest-hit p zero a h e = absurd (not-suc-le-zero h)
highest-hit p (suc k) a h e = rw sub-one (rw (rw sub-one at e) refl)

pub highest-miss : (p : ℕ → Bool) (k a : ℕ) → 0 < k → p (k - 1) ≡ false → highest p k a ≡ highest p (k - 1) a
unfolding highest
highest-miss p zero a h e = absurd (not-suc-le-zero h)
highest-miss p (suc k) a h e = rw sub-one (rw (rw sub-one at e) refl)

pub highest-lt : (p : ℕ → Bool) (n a m : ℕ) → n ≤ m → a < m → highest p n a < m
unfolding highest
highest-lt p zero a m h k = k
highest-lt p (suc n) a m h k = either (λ (x : ℕ). x < m) (p n) n (highest p n a) h (highest-lt p n a m (omega arith) k)
