-- ADIF's own reading of a written record gives the fields back, whatever they are and whatever stands behind.
-- Assumes nothing.
use Prim.Native.Nat.{ℕ, zero, suc, ◌+◌, ◌/◌, ◌%◌, ◌≤◌, ◌<◌}
use mathlib.Core.Path.{◌≡◌, refl, sym, ap, ◌∙◌}
use mathlib.Core.Bool.{Bool, true, false, not, ◌&&◌}
use mathlib.Core.List.{List, [], ◌∷◌, ◌++◌, append_assoc}
use native.Mathlib.Omega.{arith}
use borrow.Author.Tests.{eq-eqb, ne_eqb, eqb-false, not-true}
use lib.Dec.{eqb}
use lib.ListN.{length}
use lib.Seq.{take-append_seam, drop-append_seam}
use Rattle.laws.proofs.Picks.{and_right, and_first, and_second}
use Rattle.adif.specs.Adif.{last_digits, numeral, digit_count, written, Field, written_all}
use Rattle.adif.specs.Reading.{before_first, after_first, number_in, alike, tag_of, data_of, tag_count, read_fields}
use Rattle.adif.proofs.Numbers.{decimal-back}

-- ---- lists that a character is not in

abbrev pub Without : ℕ → List ℕ → Type 0
Without c [] = Unit {0}
Without c (x ∷ xs) = (eqb x c ≡ false) × Without c xs

-- the same as a test, to be computed
abbrev pub lacks : ℕ → List ℕ → Bool
lacks c [] = true
lacks c (x ∷ xs) = not (eqb x c) && lacks c xs

lacks-without : (c : ℕ) (xs : List ℕ) → lacks c xs ≡ true → Without c xs
lacks-without c [] h = tt
lacks-without c (x ∷ xs) h = (not-true _ (and_first _ _ h), lacks-without c xs (and_second (not (eqb x c)) _ h))

without-cat : (c : ℕ) (xs ys : List ℕ) → Without c xs → Without c ys → Without c (xs ++ ys)
without-cat c [] ys h g = g
without-cat c (x ∷ xs) ys h g = (h.0, without-cat c xs ys h.1 g)

-- digits are at most 57
without-digits : (c k n : ℕ) → 57 < c → Without c (last_digits k n)
unfolding last_digits
without-digits c zero n h = tt
without-digits c (suc k) n h =
    without-cat c (last_digits k (n / 10)) ((48 + n % 10) ∷ []) (without-digits c k (n / 10) h) (ne_eqb (48 + n % 10) c (λ e. omega arith), tt)

without-decimal : (c n : ℕ) → 57 < c → Without c (numeral n)
unfolding numeral
without-decimal c n h = without-digits c (digit_count 9 n) n h

module _ (c : ℕ) where
  before-cat : (xs ys : List ℕ) → Without c xs → before_first c (xs ++ (c ∷ ys)) ≡ xs
  unfolding before_first
  before-cat [] ys h = rw (eq-eqb c c refl)
  before-cat (x ∷ xs) ys h = rw h.0 (ap (λ (r : List ℕ). x ∷ r) (before-cat xs ys h.1))

  behind-cat : (xs ys : List ℕ) → Without c xs → after_first c (xs ++ (c ∷ ys)) ≡ ys
  unfolding after_first
  behind-cat [] ys h = rw (eq-eqb c c refl)
  behind-cat (x ∷ xs) ys h = rw h.0 (behind-cat xs ys h.1)

  before-all : (xs : List ℕ) → Without c xs → before_first c xs ≡ xs
  unfolding before_first
  before-all [] h = refl
  before-all (x ∷ xs) h = rw h.0 (ap (λ (r : List ℕ). x ∷ r) (before-all xs h.1))

  -- a list with c is none without it
  same_not : (xs ys zs : List ℕ) → Without c ys → alike (xs ++ (c ∷ zs)) ys ≡ false
  unfolding alike
  same_not [] [] zs h = refl
  same_not [] (y ∷ ys) zs h = rw (ne_eqb c y (λ e. eqb-false y c h.0 (sym e)))
  same_not (x ∷ xs) [] zs h = refl
  same_not (x ∷ xs) (y ∷ ys) zs h = and_right (eqb x y) _ (same_not xs ys zs h.1)

-- ---- a field

-- a name with no `:` and no `>`, and a count below 10^10
pub record Plain (f : Field) : Type 0 where
  pub colon : Without 58 f.name
  pub angle : Without 62 f.name
  pub short : length f.value < 10000000000

pub plain-field : (name value : List ℕ) → lacks 58 name ≡ true → lacks 62 name ≡ true → length value < 10000000000
    → Plain (record { name = name; value = value })
plain-field name value c a s = record { colon = lacks-without 58 name c; angle = lacks-without 62 name a; short = s }

module _ (name value rest : List ℕ) where
  -- what stands behind the `<`
  inside : after_first 60 (written name value ++ rest) ≡ (name ++ (58 ∷ numeral (length value))) ++ (62 ∷ (value ++ rest))
  unfolding after_first written
  inside = simp append_assoc

  module _ (angle : Without 62 name) where
    whole : Without 62 (name ++ (58 ∷ numeral (length value)))
    whole = without-cat 62 name (58 ∷ numeral (length value)) angle (refl, without-decimal 62 (length value) (omega arith))

    tag : tag_of (written name value ++ rest) ≡ name ++ (58 ∷ numeral (length value))
    tag = ap (before_first 62) inside ∙ before-cat 62 (name ++ (58 ∷ numeral (length value))) (value ++ rest) whole

    chars : data_of (written name value ++ rest) ≡ value ++ rest
    chars = ap (after_first 62) inside ∙ behind-cat 62 (name ++ (58 ∷ numeral (length value))) (value ++ rest) whole

  count : Without 58 name → length value < 10000000000 → tag_count (name ++ (58 ∷ numeral (length value))) ≡ length value
  count colon short =
      ap (λ (d : List ℕ). number_in 0 (before_first 58 d)) (behind-cat 58 name (numeral (length value)) colon)
      ∙ ap (number_in 0) (before-all 58 (numeral (length value)) (without-decimal 58 (length value) (omega arith)))
      ∙ decimal-back (length value) short

read-field : (k : ℕ) (f : Field) (rest : List ℕ) → Plain f
    → read_fields (suc k) (written f.name f.value ++ rest) ≡ (f ∷ (read_fields k rest).0, (read_fields k rest).1)
unfolding read_fields
read-field k f rest p =
    rw (
      tag f.name f.value rest p.angle,
      chars f.name f.value rest p.angle,
      same_not 58 f.name (69 ∷ 79 ∷ 82 ∷ []) (numeral (length f.value)) (refl, (refl, (refl, tt))),
      count f.name f.value rest p.colon p.short,
      before-cat 58 f.name (numeral (length f.value)) p.colon,
      take-append_seam f.value rest,
      drop-append_seam f.value rest,
    )

-- ---- a record

abbrev pub AllPlain : List Field → Type 0
AllPlain [] = Unit {0}
AllPlain (f ∷ fs) = Plain f × AllPlain fs

read-end : (k : ℕ) (rest : List ℕ) → read_fields (suc k) (written_all [] ++ rest) ≡ ([], rest)
unfolding read_fields before_first after_first alike
read-end k rest = refl

pub fields_back : (fs : List Field) (rest : List ℕ) (k : ℕ) → AllPlain fs → length fs ≤ k
    → read_fields (suc k) (written_all fs ++ rest) ≡ (fs, rest)
fields_back [] rest k p h = read-end k rest
fields_back (f ∷ fs) rest zero p h = absurd (omega arith)
fields_back (f ∷ fs) rest (suc k) p h =
    ap (read_fields (suc (suc k))) (append_assoc (written f.name f.value) (written_all fs) rest)
    ∙ read-field (suc k) f (written_all fs ++ rest) p.0
    ∙ ap (λ (r : List Field × List ℕ). (f ∷ r.0, r.1)) (fields_back fs rest k p.1 (omega arith))
