-- A choice by a test, from what a branch of the code says of the test: `search picks` closes a return under branches.
-- Assumes nothing.
use mathlib.Core.Path.{◌≡◌, refl}
use mathlib.Core.Bool.{Bool, true, false, cond, ◌&&◌, ◌||◌, false≢true}
use borrow.Author.Rules.{rules}
use borrow.Author.Tests.{lt-ltb, le-ltb, le-leb, lt-leb, eq-eqb, ne_eqb}

-- both ways of a choice
pub by {ℓ κ} : {A : Type ℓ} (P : A → Type κ) (b : Bool) {x y : A} → (b ≡ true → P x) → (b ≡ false → P y) → P (cond b x y)
by P true f g = f refl
by P false f g = g refl

-- both ways of two choices by one test
pub by₂ {ℓ ℓ' κ} : {A : Type ℓ} {B : Type ℓ'} (P : A → B → Type κ) (b : Bool) {x y : A} {x' y' : B} → (b ≡ true → P x x') → (b ≡ false → P y y') → P (cond b x y) (cond b x' y')
by₂ P true f g = f refl
by₂ P false f g = g refl

-- by cases of a test
pub test {κ} : {C : Type κ} (b : Bool) → (b ≡ true → C) → (b ≡ false → C) → C
test true f g = f refl
test false f g = g refl

-- what holds of both holds of what is picked
pub either : {A : Type 0} (P : A → Type 0) (b : Bool) (x y : A) → P x → P y → P (cond b x y)
either P b x y p q = by P b (λ e. p) (λ e. q)

pub cond_yes : {A : Type 0} (b : Bool) (x y z : A) → b ≡ true → z ≡ x → z ≡ cond b x y
cond_yes b x y z t e = rw t e

pub cond_no : {A : Type 0} (b : Bool) (x y z : A) → b ≡ false → z ≡ y → z ≡ cond b x y
cond_no b x y z t e = rw t e

-- the outcome of a test of two parts
pub and_yes : (a b : Bool) → a ≡ true → b ≡ true → (a && b) ≡ true
and_yes a b p q = rw p q

pub and_left : (a b : Bool) → a ≡ false → (a && b) ≡ false
and_left a b p = rw p

pub and_right : (a b : Bool) → b ≡ false → (a && b) ≡ false
and_right true b q = q
and_right false b q = refl

pub or_left : (a b : Bool) → a ≡ true → (a || b) ≡ true
or_left a b p = rw p

pub or_right : (a b : Bool) → b ≡ true → (a || b) ≡ true
or_right true b q = refl
or_right false b q = q

pub or_no : (a b : Bool) → a ≡ false → b ≡ false → (a || b) ≡ false
or_no a b p q = rw p q

-- a value that is such a test
pub is-and : (a b z : Bool) → a ≡ true → z ≡ b → z ≡ (a && b)
is-and a b z p q = rw p q

pub is-not-and : (a b z : Bool) → a ≡ false → z ≡ false → z ≡ (a && b)
is-not-and a b z p q = rw p q

pub is-or : (a b z : Bool) → a ≡ true → z ≡ true → z ≡ (a || b)
is-or a b z p q = rw p q

pub is-not-or : (a b z : Bool) → a ≡ false → z ≡ b → z ≡ (a || b)
is-not-or a b z p q = rw p q

-- a test that is a call's result, by what the call ensures
pub told-yes : (b r : Bool) → r ≡ b → r ≡ true → b ≡ true
told-yes b r p q = rw (← p) q

pub told-no : (b r : Bool) → r ≡ b → r ≡ false → b ≡ false
told-no b r p q = rw (← p) q

-- what a test of two parts says of each
pub and_first : (a b : Bool) → (a && b) ≡ true → a ≡ true
and_first true b h = refl
and_first false b h = h

pub and_second : (a b : Bool) → (a && b) ≡ true → b ≡ true
and_second true b h = h
and_second false b h = absurd (false≢true h)

pub ruleset tests = (lt-ltb, le-ltb, le-leb, lt-leb, eq-eqb, ne_eqb, and_yes, and_left, and_right, or_left, or_right, or_no)

pub ruleset calls = (cond_yes, cond_no, is-and, is-not-and, is-or, is-not-or, told-yes, told-no, tests, rules)

pub ruleset picks = (cond_yes, cond_no, is-and, is-not-and, is-or, is-not-or, tests, rules)
