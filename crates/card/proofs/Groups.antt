-- Groups of numbers in a section, read back: rows by their kind, then those of levels, waves and thresholds. Assumes nothing.
use Prim.Native.Nat.{ℕ, ◌+◌}
use mathlib.Core.Path.{◌≡◌, refl, sym, ap, ◌∙◌}
use mathlib.Core.List.{List, [], ◌++◌, map, append_assoc, append-nil}
use native.Mathlib.Omega.{arith}
use lib.Dec.{lit<}
use lib.ListN.{length, get_or, length-append, length-map}
use lib.Ieee.{Float, binary32, binary64, of_bits}
use Rattle.laws.specs.Little.{le}
use Rattle.laws.proofs.Little.{num-le4}
use Rattle.config.specs.declared.Air.{Air}
use Rattle.config.specs.declared.Marks.{Marks}
use Rattle.card.specs.Card.{numbers_at, packed, bits32, bits64, levels_of, waves_of, marks_bytes, card_single}
use Rattle.card.specs.Claims.{Floats, Numbers, TypedAir, TypedMarks}
use Rattle.card.proofs.Pack.{row-long, length-packed}
use Rattle.card.proofs.Back.{num-le8, at_back, row_back, double-back, double-small, single-back, single-small, floats-back}
use Rattle.card.proofs.Back.{floats-small}

-- ---- rows by their kind, after xs and before rest

module _ (xs rest : List ℕ) (i n : ℕ) (h : length xs ≡ i) where
  pub numbers-row : (vs : List ℕ) → Numbers n vs → numbers_at 4 n (xs ++ (packed 4 vs ++ rest)) i ≡ vs
  numbers-row vs t = row_back 4 vs xs rest i n h t.0 (λ j. num-le4 (get_or vs j 0) (t.1 j))

  pub doubles-row : (vs : List Float) → Floats binary64 n vs
      → map (of_bits binary64) (numbers_at 8 n (xs ++ (packed 8 (map bits64 vs) ++ rest)) i) ≡ vs
  doubles-row vs t =
      ap (map (of_bits binary64)) (row_back 8 (map bits64 vs) xs rest i n h (length-map vs bits64 ∙ t.0)
      (λ j. num-le8 _ (floats-small binary64 bits64 18446744073709551616 (lit< tt) vs (λ m. double-small _ (t.1 m)) j)))
      ∙ floats-back binary64 bits64 vs (λ m. double-back _ (t.1 m))

  pub singles-row : (vs : List Float) → Floats binary32 n vs
      → map (of_bits binary32) (numbers_at 4 n (xs ++ (packed 4 (map bits32 vs) ++ rest)) i) ≡ vs
  singles-row vs t =
      ap (map (of_bits binary32)) (row_back 4 (map bits32 vs) xs rest i n h (length-map vs bits32 ∙ t.0)
      (λ j. num-le4 _ (floats-small binary32 bits32 4294967296 (lit< tt) vs (λ m. single-small _ (t.1 m)) j)))
      ∙ floats-back binary32 bits32 vs (λ m. single-back _ (t.1 m))

-- ---- the levels

module _ (a : Air) where
  A : List ℕ
  A = packed 4 a.slot_bits

  B : List ℕ
  B = packed 8 (map bits64 a.pre_s)

  C : List ℕ
  C = packed 8 (map bits64 a.rate)

  D : List ℕ
  D = packed 4 a.max_bits

  abbrev after_two : levels_of a ≡ (A ++ B) ++ (C ++ D)
  unfolding levels_of A B C D
  after_two = sym (append_assoc A B (C ++ D))

  abbrev after-three : levels_of a ≡ ((A ++ B) ++ C) ++ (D ++ [])
  after-three = after_two ∙ sym (append_assoc (A ++ B) C D) ∙ ap (λ (r : List ℕ). ((A ++ B) ++ C) ++ r) (sym (append-nil D))

  module _ (t : TypedAir a) where
    long_a : length A ≡ 68
    unfolding A
    long_a = length-packed 4 a.slot_bits ∙ omega (arith, t.slots.0)

    long_b : length B ≡ 136
    unfolding B
    long_b = row-long bits64 8 17 a.pre_s t.pre.0

    long_c : length C ≡ 136
    unfolding C
    long_c = row-long bits64 8 17 a.rate t.rate.0

    pub slots-back : numbers_at 4 17 (levels_of a) 0 ≡ a.slot_bits
    unfolding levels_of
    slots-back = numbers-row [] _ 0 17 refl a.slot_bits t.slots

    pub pre-back : map (of_bits binary64) (numbers_at 8 17 (levels_of a) 68) ≡ a.pre_s
    unfolding levels_of A B C D
    pre-back = doubles-row A (C ++ D) 68 17 long_a a.pre_s t.pre

    pub rate-back : map (of_bits binary64) (numbers_at 8 17 (levels_of a) 204) ≡ a.rate
    unfolding A B C D
    rate-back =
        ap (λ (l : List ℕ). map (of_bits binary64) (numbers_at 8 17 l 204)) after_two
        ∙ doubles-row (A ++ B) D 204 17 (length-append A B ∙ omega (arith, long_a, long_b)) a.rate t.rate

    pub most-back : numbers_at 4 17 (levels_of a) 340 ≡ a.max_bits
    unfolding A B C D
    most-back =
        let long : length ((A ++ B) ++ C) ≡ 340 = length-append (A ++ B) C ∙ omega (arith, length-append A B, long_a, long_b, long_c) in
        ap (λ (l : List ℕ). numbers_at 4 17 l 340) after-three ∙ numbers-row ((A ++ B) ++ C) [] 340 17 long a.max_bits t.most

pub acks-back : (a : Air) → TypedAir a → map (of_bits binary64) (numbers_at 8 6 (waves_of a) 0) ≡ a.ack_s
unfolding waves_of
acks-back a t =
    ap (λ (l : List ℕ). map (of_bits binary64) (numbers_at 8 6 l 0)) (sym (append-nil (packed 8 (map bits64 a.ack_s))))
    ∙ doubles-row [] [] 0 6 refl a.ack_s t.acks

-- ---- thresholds and their margin, after xs and before rest

module _ (xs : List ℕ) (m : Marks) (rest : List ℕ) (i : ℕ) (h : length xs ≡ i) (t : TypedMarks m) where
  R : List ℕ
  R = packed 4 (map bits32 m.thresholds_db)

  long_r : length R ≡ 68
  unfolding R
  long_r = row-long bits32 4 17 m.thresholds_db t.thresholds.0

  whole : xs ++ (marks_bytes m ++ rest) ≡ xs ++ (R ++ (le 4 (bits32 m.margin_db) ++ rest))
  unfolding marks_bytes R
  whole = ap (λ (r : List ℕ). xs ++ r) (append_assoc R (le 4 (bits32 m.margin_db)) rest)

  pub marks-row : map (of_bits binary32) (numbers_at 4 17 (xs ++ (marks_bytes m ++ rest)) i) ≡ m.thresholds_db
  unfolding R
  marks-row = ap (λ (l : List ℕ). map (of_bits binary32) (numbers_at 4 17 l i)) whole ∙ singles-row xs _ i 17 h m.thresholds_db
      t.thresholds

  pub margin-back : card_single (xs ++ (marks_bytes m ++ rest)) (i + 68) ≡ m.margin_db
  margin-back =
      let v = bits32 m.margin_db in
      let long : length (xs ++ R) ≡ i + 68 = length-append xs R ∙ (λ j. h j + long_r j) in
      ap (λ (l : List ℕ). card_single l (i + 68)) (whole ∙ sym (append_assoc xs R (le 4 v ++ rest)))
      ∙ ap (of_bits binary32) (at_back 4 (xs ++ R) v rest (i + 68) long (num-le4 _ (single-small _ t.margin))) ∙ single-back _
      t.margin
