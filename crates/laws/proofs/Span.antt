-- A loop over levels is a span's, and its invariant is the work that is left: a turn of the loop at k, and its end.
-- Assumes nothing.
use mathlib.Core.Path.{◌≡◌, refl, sym, subst, ◌∙◌}
use mathlib.Core.Bool.{Bool, true, false}
use mathlib.Core.List.{List, [], ◌∷◌}
use Prim.Native.Nat.{ℕ, zero, suc, ◌+◌, ◌-◌, ◌<◌, ◌≤◌}
use native.Mathlib.Omega.{arith}
use borrow.Author.Tests.{eqb-true, eqb-false}
use lib.Dec.{eqb}
use Rattle.laws.specs.Span.{from, upto, fold, every, first, count, last_of}
use Rattle.laws.proofs.Picks.{either, test, and_first, and_second, and_yes}

pub upto-more : (a b : ℕ) → a < b → upto a b ≡ a ∷ upto (a + 1) b
unfolding upto from
upto-more a b h = let e : b - a ≡ suc (b - (a + 1)) = omega arith in rw e refl

pub upto-none : (a b : ℕ) → b ≤ a → upto a b ≡ []
unfolding upto from
upto-none a b h = let e : b - a ≡ 0 = omega arith in rw e refl

-- none is left to take
pub last_none : (p : ℕ → Bool) (a : ℕ) (l : List ℕ) → last_of p 0 a l ≡ a
unfolding last_of
last_none p a [] = refl
last_none p a (x ∷ xs) = refl

-- ---- a turn of the loop at k, and its end. The lists are a..n
module _ (k n : ℕ) where
  pub fold_more : {A : Type 0} (f : A → ℕ → A) (x : A) → k < n → fold f x (upto k n) ≡ fold f (f x k) (upto (k + 1) n)
  unfolding fold
  fold_more f x h = rw (upto-more k n h) refl

  pub fold_end : {A : Type 0} (f : A → ℕ → A) (x : A) → n ≤ k → fold f x (upto k n) ≡ x
  unfolding fold
  fold_end f x h = rw (upto-none k n h) refl

  pub every-pass : (p : ℕ → Bool) → k < n → p k ≡ true → every p (upto k n) ≡ every p (upto (k + 1) n)
  unfolding every
  every-pass p h e = rw (upto-more k n h) (rw e refl)

  pub every-fail : (p : ℕ → Bool) → k < n → p k ≡ false → every p (upto k n) ≡ false
  unfolding every
  every-fail p h e = rw (upto-more k n h) (rw e refl)

  pub every-end : (p : ℕ → Bool) → n ≤ k → every p (upto k n) ≡ true
  unfolding every
  every-end p h = rw (upto-none k n h) refl

  pub first-hit : (p : ℕ → Bool) (a : ℕ) → k < n → p k ≡ true → first p a (upto k n) ≡ k
  unfolding first
  first-hit p a h e = rw (upto-more k n h) (rw e refl)

  pub first-miss : (p : ℕ → Bool) (a : ℕ) → k < n → p k ≡ false → first p a (upto k n) ≡ first p a (upto (k + 1) n)
  unfolding first
  first-miss p a h e = rw (upto-more k n h) (rw e refl)

  pub first-end : (p : ℕ → Bool) (a : ℕ) → n ≤ k → first p a (upto k n) ≡ a
  unfolding first
  first-end p a h = rw (upto-none k n h) refl

  pub count-hit : (p : ℕ → Bool) → k < n → p k ≡ true → count p (upto k n) ≡ count p (upto (k + 1) n) + 1
  unfolding count
  count-hit p h e = rw (upto-more k n h) (rw e refl)

  pub count-miss : (p : ℕ → Bool) → k < n → p k ≡ false → count p (upto k n) ≡ count p (upto (k + 1) n)
  unfolding count
  count-miss p h e = rw (upto-more k n h) (rw e refl)

  pub count-end : (p : ℕ → Bool) → n ≤ k → count p (upto k n) ≡ 0
  unfolding count
  count-end p h = rw (upto-none k n h) refl

  pub last-pass : (p : ℕ → Bool) (m a : ℕ) → k < n → 0 < m → p k ≡ true → last_of p m a (upto k n) ≡ last_of p (m - 1) k (upto (k + 1) n)
  unfolding last_of
  last-pass p m a h z e = let s : m ≡ suc (m - 1) = omega arith in rw (upto-more k n h) (subst (λ (x : ℕ). last_of p x a (k ∷ upto (k + 1) n) ≡ last_of p (m - 1) k (upto (k + 1) n)) (sym s) (rw e refl))

  pub last-miss : (p : ℕ → Bool) (m a : ℕ) → k < n → p k ≡ false → last_of p m a (upto k n) ≡ last_of p m a (upto (k + 1) n)
  unfolding last_of
  last-miss p zero a h e = rw (upto-more k n h) (sym (last_none p a (upto (k + 1) n)))
  last-miss p (suc m) a h e = rw (upto-more k n h) (rw e refl)

  pub last_end : (p : ℕ → Bool) (m a : ℕ) → n ≤ k → last_of p m a (upto k n) ≡ a
  unfolding last_of
  last_end p m a h = rw (upto-none k n h) refl

-- what each turn keeps holds at the end
pub fold-keep : {A : Type 0} (P : A → Type 0) (f : A → ℕ → A) (x : A) (a b : ℕ) → ((k : ℕ) (y : A) → k < b → P y → P (f y k)) → P x → P (fold f x (upto a b))
unfolding fold upto from
fold-keep {A = A} P f x a b h p = go a (b - a) x (λ i. omega arith) p
  where
    go : (a m : ℕ) (x : A) → (0 < m → a + m ≤ b) → P x → P (fold f x (from a m))
    go a zero x q p = p
    go a (suc m) x q p = go (a + 1) m (f x a) (λ i. omega (arith, q (omega arith))) (h a x (omega (arith, q (omega arith))) p)

-- the invariant of a loop that is a fold, with z for the whole: a turn, and the end
pub fold-turn : {A : Type 0} (f : A → ℕ → A) (x y z : A) (k n : ℕ) → z ≡ fold f x (upto k n) → k < n → y ≡ f x k → z ≡ fold f y (upto (k + 1) n)
fold-turn f x y z k n p h q = rw q (p ∙ fold_more k n f x h)

pub fold_done : {A : Type 0} (f : A → ℕ → A) (x z : A) (k n : ℕ) → z ≡ fold f x (upto k n) → n ≤ k → z ≡ x
fold_done f x z k n p h = p ∙ fold_end k n f x h

-- no more than there are
count-from : (p : ℕ → Bool) (a m : ℕ) → count p (from a m) ≤ m
unfolding from count
count-from p a zero = omega arith
count-from p a (suc m) = either (λ (x : ℕ). x ≤ suc m) (p a) _ _ (omega (arith, count-from p (a + 1) m)) (omega (arith, count-from p (a + 1) m))

pub count-le : (p : ℕ → Bool) (a b : ℕ) → count p (upto a b) ≤ b - a
unfolding upto
count-le p a b = count-from p a (b - a)

-- the invariant of a loop that counts, with z for the whole and n counted so far
module _ (p : ℕ → Bool) (z n k m : ℕ) (i : z ≡ n + count p (upto k m)) where
  pub counted-hit : k < m → p k ≡ true → z ≡ n + 1 + count p (upto (k + 1) m)
  counted-hit h e = omega (arith, i, count-hit k m p h e)

  pub counted-miss : k < m → p k ≡ false → z ≡ n + count p (upto (k + 1) m)
  counted-miss h e = omega (arith, i, count-miss k m p h e)

  pub counted-end : m ≤ k → z ≡ n
  counted-end h = omega (arith, i, count-end k m p h)

-- what is found is below the end
first-from : (p : ℕ → Bool) (d a m n : ℕ) → a + m ≤ n → d < n → first p d (from a m) < n
unfolding from first
first-from p d a zero n h k = k
first-from p d a (suc m) n h k = either (λ (x : ℕ). x < n) (p a) a (first p d (from (a + 1) m)) (omega arith) (first-from p d (a + 1) m n (omega arith) k)

pub first-lt : (p : ℕ → Bool) (d b n : ℕ) → b ≤ n → d < n → first p d (upto 0 b) < n
unfolding upto
first-lt p d b n h k = first-from p d 0 (b - 0) n (omega arith) k

last-from : (p : ℕ → Bool) (j d a m n : ℕ) → a + m ≤ n → d < n → last_of p j d (from a m) < n
unfolding from last_of
last-from p j d a zero n h k = k
last-from p zero d a (suc m) n h k = k
last-from p (suc j) d a (suc m) n h k = either (λ (x : ℕ). x < n) (p a) (last_of p j a (from (a + 1) m)) (last_of p (suc j) d (from (a + 1) m)) (last-from p j a (a + 1) m n (omega arith) (omega arith)) (last-from p (suc j) d (a + 1) m n (omega arith) k)

pub last-lt : (p : ℕ → Bool) (j d a n : ℕ) → a ≤ n → d < n → last_of p j d (upto a n) < n
unfolding upto
last-lt p j d a n h k = last-from p j d a (n - a) n (omega arith) k

-- a test passes along a..b exactly where it passes at each number there
every-from : (p : ℕ → Bool) (a m : ℕ) → every p (from a m) ≡ true → (k : ℕ) → a ≤ k → k < a + m → p k ≡ true
unfolding from every
every-from p a zero e k h j = absurd (omega arith)
every-from p a (suc m) e k h j =
    test (eqb a k)
    (λ z. subst (λ (x : ℕ). p x ≡ true) (eqb-true a k z) (and_first (p a) _ e))
    (λ z. every-from p (a + 1) m (and_second (p a) _ e) k (omega (arith, eqb-false a k z)) (omega arith))

from-every : (p : ℕ → Bool) (a m : ℕ) → ((k : ℕ) → a ≤ k → k < a + m → p k ≡ true) → every p (from a m) ≡ true
unfolding from every
from-every p a zero f = refl
from-every p a (suc m) f = and_yes (p a) _ (f a (omega arith) (omega arith)) (from-every p (a + 1) m (λ k h j. f k (omega arith) (omega arith)))

pub every-all : (p : ℕ → Bool) (b : ℕ) → every p (upto 0 b) ≡ true → (k : ℕ) → k < b → p k ≡ true
unfolding upto
every-all p b e k h = every-from p 0 (b - 0) e k (omega arith) (omega arith)

pub all-every : (p : ℕ → Bool) (b : ℕ) → ((k : ℕ) → k < b → p k ≡ true) → every p (upto 0 b) ≡ true
unfolding upto
all-every p b f = from-every p 0 (b - 0) (λ k h j. f k (omega arith))
