-- A test along a list as a fold: what a loop computes that takes each test whatever those before it said. Assumes nothing.
use mathlib.Core.Path.{◌≡◌, refl, sym, ◌∙◌}
use mathlib.Core.Bool.{Bool, true, false, ◌&&◌, and_assoc}
use mathlib.Core.List.{List, [], ◌∷◌}
use Prim.Native.Nat.{ℕ, suc, ◌+◌, ◌-◌}
use native.Mathlib.Omega.{arith}
use lib.ListN.{length, get_or}
use Rattle.std.specs.List.{list_all}
use Rattle.std.proofs.Common.{add-zero, zero-add}
use Rattle.laws.specs.Span.{from, upto, fold, every}

-- x says whether all before k passed
abbrev pub along : (ℕ → Bool) → Bool → ℕ → Bool
along p x k = x && p k

fold_along : (p : ℕ → Bool) (x : Bool) (ks : List ℕ) → (x && every p ks) ≡ fold (along p) x ks
unfolding fold every
fold_along p true [] = refl
fold_along p false [] = refl
fold_along p x (k ∷ ks) = sym (and_assoc x (p k) (every p ks)) ∙ fold_along p (x && p k) ks

pub every-fold : (p : ℕ → Bool) (ks : List ℕ) → every p ks ≡ fold (along p) true ks
every-fold p ks = fold_along p true ks

-- a test of each element is one of each index
every-from : {A : Type 0} (p : A → Bool) (q : ℕ → Bool) (d : A) (a : ℕ) (xs : List A) → ((k : ℕ) → p (get_or xs k d) ≡ q (a + k)) → list_all p xs ≡ every q (from a (length xs))
unfolding every from
every-from p q d a [] h = refl
every-from p q d a (x ∷ xs) h =
    let one : p x ≡ q a = rw add-zero at (h 0) in
    let more : list_all p xs ≡ every q (from (a + 1) (length xs)) = every-from p q d (a + 1) xs (λ k. let e : a + 1 + k ≡ a + suc k = omega arith in rw e (h (suc k))) in
    rw (one, more) refl

pub every-index : {A : Type 0} (p : A → Bool) (q : ℕ → Bool) (d : A) (n : ℕ) (xs : List A) → length xs ≡ n → ((k : ℕ) → p (get_or xs k d) ≡ q k) → list_all p xs ≡ every q (upto 0 n)
unfolding upto
every-index p q d n xs e h = let z : n - 0 ≡ length xs = omega arith in rw z (every-from p q d 0 xs (λ k. rw zero-add (h k)))
