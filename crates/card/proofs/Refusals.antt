-- What the refusals say of a file: laws that the code's proofs cite. Assumes nothing.
use Prim.Native.Nat.{ℕ, zero, suc, ◌+◌, ◌≤◌, ◌<◌}
use mathlib.Core.Path.{◌≡◌, refl, sym, ap, ◌∙◌}
use mathlib.Core.Bool.{Bool, true, false, ◌||◌, ◌&&◌}
use mathlib.Core.List.{List, [], ◌∷◌}
use native.Mathlib.Omega.{arith}
use borrow.Author.Tests.{eqb-true, leb-true, eq-eqb, ne_eqb, lt-ltb, le-ltb}
use lib.Dec.{eqb, ltb, leb}
use lib.ListN.{length, get_or}
use Rattle.std.specs.List.{list_all}
use Rattle.laws.specs.Bytes.{overwrite, part}
use Rattle.laws.specs.Span.{every, upto, from}
use Rattle.laws.proofs.Bytes.{part-cons}
use Rattle.laws.proofs.Tests.{all-at}
use Rattle.laws.proofs.Picks.{test}
use Rattle.config.specs.declared.Profile.{Profile}
use Rattle.config.specs.Ranges.{in_range, in_order}
use Rattle.card.specs.declared.Refusal.{Refusal}
use Rattle.card.specs.declared.Refusal.TheVariants.{OutOfRange, ShortOverLong, BadVersion, BadLength, HarqStretch}
use Rattle.card.specs.Card.{number_of}
use Rattle.card.specs.Card.{at, version_bad, options_ok, counts_agree, file_refusal, content_refusal, read_refusal, read_of, options_in, stretch_place}
use Rattle.card.specs.Card.{place_ok, places_ok, card_profile, card_of, write_refusal, write_of}

-- ---- a refusal has a number

pub number-some : (r : Refusal) → number_of r ≡ 0 → ⊥
number-some OutOfRange e = omega arith
number-some ShortOverLong e = omega arith
number-some BadVersion e = omega arith
number-some BadLength e = omega arith
number-some HarqStretch e = omega arith

-- ---- the version

pub version-none : (b : List ℕ) → length b ≡ 0 → false ≡ version_bad b
unfolding version_bad
version-none [] e = refl
version-none (v ∷ b) e = absurd (omega arith)

pub version-some : (b : List ℕ) → (length b ≡ 0 → ⊥) → (eqb (get_or b 0 0) 0 || ltb 15 (get_or b 0 0)) ≡ version_bad b
unfolding version_bad
version-some [] e = absurd (e refl)
version-some (v ∷ b) e = refl

-- ---- the counts

options-least : (v n : ℕ) → options_ok v n ≡ true → 142 ≤ n
options-least v n e =
    test (eqb v 1)
    (λ y. let h : eqb n 142 ≡ true = rw y at e in omega (arith, eqb-true n 142 h))
    (λ y. let h : leb 142 n ≡ true = rw y at e in leb-true 142 n h)

-- a file whose counts agree has the four sections
pub counts-long : (b : List ℕ) → counts_agree b ≡ true → 751 ≤ length b
unfolding counts_agree
counts-long b e =
    omega (arith, options-least (get_or b 0 0) (at 2 b 607) (all-at _ 3 e), eqb-true (length b) (609 + at 2 b 607) (all-at _ 4 e))

pub counts-short : (b : List ℕ) → length b < 751 → false ≡ counts_agree b
counts-short b h = test (counts_agree b) (λ e. absurd (omega (arith, counts-long b e))) (λ e. sym e)

-- ---- the places

places-from : (os : List ℕ) (n i : ℕ) → 127 + i + n ≤ length os → every (place_ok os) (from i n) ≡ list_all (λ (v : ℕ). leb v 1) (part os (127 + i) n)
unfolding every from
places-from os zero i h = refl
places-from os (suc n) i h =
    let e : 127 + (i + 1) ≡ 127 + i + 1 = omega arith in
    ap (λ (b : Bool). place_ok os i && b) (places-from os n (i + 1) (omega arith)
    ∙ ap (λ (j : ℕ). list_all (λ (v : ℕ). leb v 1) (part os j n)) e)
    ∙ sym (ap (list_all (λ (v : ℕ). leb v 1)) (part-cons os (127 + i) n (omega arith)))

pub places-listed : (os : List ℕ) → 142 ≤ length os → list_all (λ (v : ℕ). leb v 1) (part os 127 15) ≡ places_ok os
unfolding places_ok upto
places-listed os h = sym (places-from os 15 0 h)

-- ---- the file and then the profile

pub read-file : (b : List ℕ) (before : Profile) (r : ℕ) → r ≡ file_refusal b → (r ≡ 0 → ⊥) → (r, before, false) ≡ read_of b before
unfolding read_refusal read_of
read-file b before r e n = rw (← e) (rw (ne_eqb r 0 n) (rw (ne_eqb r 0 n) refl))

module _ (b : List ℕ) (before : Profile) (f r : ℕ) (file : f ≡ file_refusal b) (good : f ≡ 0)
    (e : r ≡ content_refusal (get_or b 0 0) (options_in b) (card_profile b)) where
  whole : read_refusal b ≡ r
  unfolding read_refusal
  whole = rw (← file, eq-eqb f 0 good) (sym e)

  pub read-refused : (r ≡ 0 → ⊥) → (r, before, false) ≡ read_of b before
  unfolding read_of
  read-refused n = rw (whole, ne_eqb r 0 n) refl

  pub read-good : r ≡ 0 → (0, card_profile b, eqb (stretch_place (options_in b)) 1) ≡ read_of b before
  unfolding read_of
  read-good n = rw (whole, eq-eqb r 0 n) (λ j. (sym n j, card_profile b, eqb (stretch_place (options_in b)) 1))

-- ---- writing

module _ (p : Profile) (out : List ℕ) where
  pub write-range : in_range p ≡ false → (1, out) ≡ write_of p out
  unfolding write_of write_refusal
  write-range e = rw e refl

  module _ (a : in_range p ≡ true) where
    pub write-order : in_order p ≡ false → (2, out) ≡ write_of p out
    unfolding write_of write_refusal
    write-order e = rw (a, e) refl

    module _ (b : in_order p ≡ true) where
      pub write-short : length out < 751 → (14, out) ≡ write_of p out
      unfolding write_of write_refusal
      write-short h = rw (a, b, lt-ltb (length out) 751 h) refl

      pub write-good : 751 ≤ length out → (q : List ℕ) → q ≡ overwrite out 0 (card_of p) → (0, q) ≡ write_of p out
      unfolding write_of write_refusal
      write-good h q e = rw (a, b, le-ltb (length out) 751 h) (λ j. (0, e j))
