-- Laws of lists: parts of a mapped list, how often a number stands in a list, and lists of distinct numbers.
-- Assumes nothing.
use Prim.Native.Nat.{ℕ, zero, suc, ◌+◌, ◌≤◌}
use mathlib.Core.Path.{◌≡◌, refl, sym, ◌∙◌, subst}
use mathlib.Core.Bool.{Bool, true, false}
use mathlib.Core.List.{List, [], ◌∷◌, ◌++◌, map}
use native.Mathlib.Omega.{arith}
use lib.Dec.{eqb}
use lib.ListN.{take, drop, take-append-drop}
use borrow.Author.Tests.{ne_eqb, eq-eqb, eqb-true, eqb-false}
use Rattle.laws.specs.Lists.{listed, one, occurs, Distinct, AllListed}
use Rattle.laws.proofs.Picks.{test}

-- ---- a mapped list

module _ {ℓ κ} {A : Type ℓ} {B : Type κ} (f : A → B) where
  pub map-append : (xs ys : List A) → map f (xs ++ ys) ≡ map f xs ++ map f ys
  map-append [] ys = refl
  map-append (x ∷ xs) ys = rw (map-append xs ys)

  pub map-take : (n : ℕ) (xs : List A) → map f (take n xs) ≡ take n (map f xs)
  map-take zero xs = refl
  map-take (suc n) [] = refl
  map-take (suc n) (x ∷ xs) = rw (map-take n xs)

  pub map-drop : (n : ℕ) (xs : List A) → map f (drop n xs) ≡ drop n (map f xs)
  map-drop zero xs = refl
  map-drop (suc n) [] = refl
  map-drop (suc n) (x ∷ xs) = map-drop n xs

pub map-map {ℓ κ μ} : {A : Type ℓ} {B : Type κ} {C : Type μ} (g : B → C) (f : A → B) (xs : List A) → map g (map f xs) ≡ map (λ (x : A). g (f x)) xs
map-map g f [] = refl
map-map g f (x ∷ xs) = rw (map-map g f xs)

pub map-id {ℓ} : {A : Type ℓ} (xs : List A) → map (λ (x : A). x) xs ≡ xs
map-id [] = refl
map-id (x ∷ xs) = rw (map-id xs)

-- ---- how often a number stands in a list

pub one_none : (b : Bool) → one b ≡ 0 → b ≡ false
one_none true e = let z : ◌≡◌ {A = ℕ} 0 1 = omega arith in cc
one_none false e = refl

pub one-other : (o x : ℕ) → (o ≡ x → ⊥) → one (eqb o x) ≡ 0
one-other o x h = rw (ne_eqb o x h)

pub one_same : (o x : ℕ) → o ≡ x → one (eqb o x) ≡ 1
one_same o x h = rw (eq-eqb o x h)

pub occurs-append : (o : ℕ) (xs ys : List ℕ) → occurs o (xs ++ ys) ≡ occurs o xs + occurs o ys
occurs-append o [] ys = omega arith
occurs-append o (x ∷ xs) ys = let h = occurs-append o xs ys in omega arith

pub occurs-parts : (o k : ℕ) (xs : List ℕ) → occurs o (take k xs) + occurs o (drop k xs) ≡ occurs o xs
occurs-parts o k xs = sym (occurs-append o (take k xs) (drop k xs)) ∙ rw (take-append-drop k xs)

pub occurs-take : (o k : ℕ) (xs : List ℕ) → occurs o (take k xs) ≤ occurs o xs
occurs-take o k xs = let h = occurs-parts o k xs in omega arith

-- ---- listed or not

pub listed-occurs : (o : ℕ) (xs : List ℕ) → listed o xs ≡ true → 1 ≤ occurs o xs
listed-occurs o [] e = let z : ◌≡◌ {A = ℕ} 0 1 = cc in omega arith
listed-occurs o (x ∷ xs) e =
    test (eqb o x)
    (λ d. rw d (omega arith))
    (λ d. let i = listed-occurs o xs (rw d at e) in rw d (omega arith))

pub unlisted-occurs : (o : ℕ) (xs : List ℕ) → listed o xs ≡ false → occurs o xs ≡ 0
unlisted-occurs o [] e = refl
unlisted-occurs o (x ∷ xs) e =
    test (eqb o x)
    (λ d. let z : ◌≡◌ {A = Bool} true false = rw d at e in cc)
    (λ d. let i = unlisted-occurs o xs (rw d at e) in rw d (omega arith))

pub occurs-listed : (o : ℕ) (xs : List ℕ) → 1 ≤ occurs o xs → listed o xs ≡ true
occurs-listed o xs h =
    test (listed o xs) (λ e. e) (λ e. absurd (omega (arith, unlisted-occurs o xs e)))

pub occurs-unlisted : (o : ℕ) (xs : List ℕ) → occurs o xs ≡ 0 → listed o xs ≡ false
occurs-unlisted o xs h =
    test (listed o xs) (λ e. absurd (omega (arith, listed-occurs o xs e))) (λ e. e)

-- ---- distinct numbers out of a list: none stands there more often than in that list

pub distinct-occurs : (xs ys : List ℕ) → Distinct xs → AllListed xs ys → (o : ℕ) → occurs o xs ≤ occurs o ys
distinct-occurs [] ys d a o = omega arith
distinct-occurs (x ∷ xs) ys d a o =
    let i = distinct-occurs xs ys d.1 a.1 o in
    test (eqb o x)
    (λ e.
    subst (λ (z : ℕ). occurs z (x ∷ xs) ≤ occurs z ys) (sym (eqb-true o x e))
    (omega (arith, one_same x x refl, unlisted-occurs x xs d.0, listed-occurs x ys a.0)))
    (λ e. omega (arith, one-other o x (eqb-false o x e)))

module _ (ys : List ℕ) where
  -- where each stands there at most once
  pub occurs-distinct : (xs : List ℕ) → ((o : ℕ) → occurs o ys ≤ 1) → ((o : ℕ) → occurs o xs ≤ occurs o ys) → Distinct xs
  occurs-distinct [] u w = tt
  occurs-distinct (x ∷ xs) u w =
      (occurs-unlisted x xs (omega (arith, w x, u x, one_same x x refl)), occurs-distinct xs u (λ o. omega (arith, w o)))

  pub occurs-all : (xs : List ℕ) → ((o : ℕ) → occurs o xs ≤ occurs o ys) → AllListed xs ys
  occurs-all [] w = tt
  occurs-all (x ∷ xs) w = (occurs-listed x ys (omega (arith, w x, one_same x x refl)), occurs-all xs (λ o. omega (arith, w o)))
