-- The sections of a written file, at their places. Assumes nothing.
use Prim.Native.Nat.{ℕ, ◌+◌}
use mathlib.Core.Path.{◌≡◌, refl, sym, ap, ◌∙◌}
use mathlib.Core.Bool.{true}
use mathlib.Core.List.{List, [], ◌∷◌, ◌++◌, append_assoc}
use native.Mathlib.Omega.{arith}
use borrow.Author.Tests.{eq-eqb}
use lib.ListN.{length, get_or, take, drop, length-append}
use lib.Seq.{drop-drop, drop_at, take_at, take_all}
use Rattle.laws.specs.Bytes.{part}
use Rattle.laws.specs.Little.{num, le}
use Rattle.laws.proofs.Tests.{all_none, all_more}
use Rattle.config.specs.declared.Marks.{Marks}
use Rattle.config.specs.declared.Profile.{Profile}
use Rattle.card.specs.Card.{at, bits32, bits64, section, levels_of, waves_of, marks_bytes, thresholds_of, doubles, whole_numbers, singles}
use Rattle.card.specs.Card.{smalls_of}
use Rattle.card.specs.Card.{on_off_places, options_of, card_of, levels_in, waves_in, thresholds_in, options_in, options_ok, counts_agree}
use Rattle.card.specs.Claims.{TypedMarks, TypedProfile}
use Rattle.card.proofs.Pack.{length-packed, row-long}
use Rattle.card.proofs.Back.{at_back}

-- a section after the bytes before it
module _ (pre : List ℕ) (m : ℕ) (tail : List ℕ) (i : ℕ) (h : length pre ≡ i) where
  section-at : (n : ℕ) → part (pre ++ (le 2 m ++ tail)) (i + 2) n ≡ take n tail
  section-at n = ap (take n) (sym (drop-drop 2 i (pre ++ (le 2 m ++ tail))) ∙ ap (drop 2) (drop_at pre (le 2 m ++ tail) i h))

  count_at : num (le 2 m) ≡ m → at 2 (pre ++ (le 2 m ++ tail)) i ≡ m
  count_at e = at_back 2 pre m tail i h e

pub marks-long : (m : Marks) → TypedMarks m → length (marks_bytes m) ≡ 72
unfolding marks_bytes
marks-long m t = simp length-append (omega (arith, row-long bits32 4 17 m.thresholds_db t.thresholds.0))

-- ---- a written file

module _ (p : Profile) (t : TypedProfile p) where
  levels-long : length (levels_of p.air) ≡ 408
  unfolding levels_of
  levels-long =
      simp length-append (omega (
        arith,
        length-packed 4 p.air.slot_bits,
        row-long bits64 8 17 p.air.pre_s t.air.pre.0,
        row-long bits64 8 17 p.air.rate t.air.rate.0,
        length-packed 4 p.air.max_bits,
        t.air.slots.0,
        t.air.most.0,
      ))

  waves-long : length (waves_of p.air) ≡ 48
  unfolding waves_of
  waves-long = row-long bits64 8 6 p.air.ack_s t.air.acks.0

  thresholds-long : length (thresholds_of p) ≡ 144
  unfolding thresholds_of
  thresholds-long = simp length-append (omega (arith, marks-long p.plain t.plain, marks-long p.eff t.eff))

  options-long : length (options_of p) ≡ 142
  unfolding options_of smalls_of on_off_places
  options-long =
      simp length-append (omega (
        arith,
        row-long bits64 8 8 (doubles p) t.doubles.0,
        length-packed 4 (whole_numbers p),
        row-long bits32 4 4 (singles p) t.singles.0,
        t.wholes.0,
      ))

  -- what stands before each section
  abbrev pre₂ : List ℕ
  pre₂ = 1 ∷ section (levels_of p.air)

  abbrev pre₃ : List ℕ
  pre₃ = pre₂ ++ section (waves_of p.air)

  abbrev pre₄ : List ℕ
  pre₄ = pre₃ ++ section (thresholds_of p)

  long₂ : length pre₂ ≡ 411
  long₂ = omega (arith, levels-long)

  long₃ : length pre₃ ≡ 461
  long₃ = length-append pre₂ (section (waves_of p.air)) ∙ omega (arith, long₂, waves-long)

  long₄ : length pre₄ ≡ 607
  long₄ = length-append pre₃ (section (thresholds_of p)) ∙ omega (arith, long₃, thresholds-long)

  by₃ : card_of p ≡ pre₃ ++ (section (thresholds_of p) ++ section (options_of p))
  unfolding card_of
  by₃ = sym (append_assoc pre₂ (section (waves_of p.air)) (section (thresholds_of p) ++ section (options_of p)))

  by₄ : card_of p ≡ pre₄ ++ section (options_of p)
  by₄ = by₃ ∙ sym (append_assoc pre₃ (section (thresholds_of p)) (section (options_of p)))

  pub levels-back : levels_in (card_of p) ≡ levels_of p.air
  unfolding card_of
  levels-back = take_at (levels_of p.air) _ 408 levels-long

  pub waves-back : waves_in (card_of p) ≡ waves_of p.air
  unfolding card_of
  waves-back = section-at pre₂ (length (waves_of p.air))
      (waves_of p.air ++ (section (thresholds_of p) ++ section (options_of p))) 411 long₂ 48 ∙ take_at (waves_of p.air) _ 48 waves-long

  pub thresholds-back : thresholds_in (card_of p) ≡ thresholds_of p
  thresholds-back =
      ap thresholds_in by₃ ∙ section-at pre₃ (length (thresholds_of p)) (thresholds_of p ++ section (options_of p)) 461 long₃ 144 ∙ take_at
      (thresholds_of p) _ 144 thresholds-long

  pub options-back : options_in (card_of p) ≡ options_of p
  options-back = ap options_in by₄ ∙ section-at pre₄ (length (options_of p)) (options_of p) 607 long₄ 142 ∙ take_all 142 (options_of p)
      (omega (arith, options-long))

  pub card-long : length (card_of p) ≡ 751
  card-long = ap length by₄ ∙ length-append pre₄ (section (options_of p)) ∙ omega (arith, long₄, options-long)

  -- ---- the counts

  spelled : (n k : ℕ) → n ≡ k → num (le 2 k) ≡ k → num (le 2 n) ≡ n
  spelled n k e h = ap (λ (m : ℕ). num (le 2 m)) e ∙ h ∙ sym e

  count₁ : at 2 (card_of p) 1 ≡ 408
  unfolding card_of num
  count₁ = count_at (1 ∷ []) (length (levels_of p.air))
      (levels_of p.air ++ (section (waves_of p.air) ++ (section (thresholds_of p) ++ section (options_of p)))) 1 refl
      (spelled _ 408 levels-long refl) ∙ levels-long

  count₂ : at 2 (card_of p) 411 ≡ 48
  unfolding card_of num
  count₂ = count_at pre₂ (length (waves_of p.air)) _ 411 long₂ (spelled _ 48 waves-long refl) ∙ waves-long

  count₃ : at 2 (card_of p) 461 ≡ 144
  unfolding num
  count₃ = ap (λ (b : List ℕ). at 2 b 461) by₃ ∙ count_at pre₃ (length (thresholds_of p)) _ 461 long₃
      (spelled _ 144 thresholds-long refl) ∙ thresholds-long

  count₄ : at 2 (card_of p) 607 ≡ 142
  unfolding num
  count₄ = ap (λ (b : List ℕ). at 2 b 607) by₄ ∙ count_at pre₄ (length (options_of p)) _ 607 long₄ (spelled _ 142 options-long refl)
      ∙ options-long

  version : get_or (card_of p) 0 0 ≡ 1
  unfolding card_of
  version = refl

  pub card-counts : counts_agree (card_of p) ≡ true
  unfolding counts_agree
  card-counts =
      all_more _ _ (eq-eqb _ _ count₁) (all_more _ _ (eq-eqb _ _ count₂) (all_more _ _ (eq-eqb _ _ count₃)
      (all_more _ _ (λ j. options_ok (version j) (count₄ j))
      (all_more _ _ (eq-eqb (length (card_of p)) (609 + at 2 (card_of p) 607) (omega (arith, card-long, count₄))) all_none))))
