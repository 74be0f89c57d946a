-- Change 3's claim that a profile written and then read comes back. Each group of the options is read back as a row (`doubles-back`,
-- `wholes-back`, `singles-back`, `place-back`); with the other sections' groups these give the profile field by field (`profile-in`). A
-- written file is not refused, since its profile was not (`card-read`). Assumes nothing.
use Prim.Native.Nat.{ℕ, ◌+◌, ◌≤◌}
use mathlib.Core.Path.{◌≡◌, refl, sym, ap, ◌∙◌}
use mathlib.Core.Bool.{Bool, true, false, cond, not}
use mathlib.Core.List.{List, [], ◌++◌, map, append_assoc, append-nil}
use native.Mathlib.Omega.{arith}
use borrow.Author.Tests.{ltb-false}
use lib.Dec.{eqb, leb, ltb}
use lib.ListN.{length, get_or, take, drop, length-append, get_or-map}
use lib.Seq.{drop-drop, drop_at, get_or-drop, take_all}
use lib.Ieee.{nan, binary32, binary64, of_bits}
use Rattle.laws.specs.Bytes.{overwrite}
use Rattle.laws.specs.Little.{num}
use Rattle.laws.proofs.Bytes.{part_in}
use Rattle.laws.proofs.Span.{all-every}
use Rattle.config.specs.declared.Profile.{Profile}
use Rattle.config.specs.Ranges.{in_range, in_order}
use Rattle.card.specs.Card.{at, numbers_at, packed, bits32, bits64, flag_byte, levels_of, waves_of, marks_bytes, thresholds_of, doubles, whole_numbers}
use Rattle.card.specs.Card.{singles}
use Rattle.card.specs.Card.{smalls_of, on_off_places, options_of, card_of, card_bytes, place_at, card_flag, place_ok, air_in, marks_in, codes_in}
use Rattle.card.specs.Card.{lengths_in, holds_in, profile_in, card_profile, version_bad, places_ok, file_refusal, stretch_place, content_refusal, read_of, options_in}
use Rattle.card.specs.Card.{write_refusal, write_of}
use Rattle.card.specs.Claims.{TypedProfile, RoundTrip}
use Rattle.card.proofs.Pack.{length-packed, row-long}
use Rattle.card.proofs.Back.{num-le8}
use Rattle.card.proofs.Refusals.{read-good, write-good}
use Rattle.card.proofs.Sections.{levels-back, waves-back, thresholds-back, options-back, card-long, card-counts, marks-long}
use Rattle.card.proofs.Groups.{numbers-row, doubles-row, singles-row, slots-back, pre-back, rate-back, most-back, acks-back}
use Rattle.card.proofs.Groups.{marks-row, margin-back}

bit-back : (b : Bool) → eqb (flag_byte b) 1 ≡ b
bit-back true = refl
bit-back false = refl

bit-small : (b : Bool) → leb (flag_byte b) 1 ≡ true
bit-small true = refl
bit-small false = refl

module _ (p : Profile) (t : TypedProfile p) where
  -- ---- the options

  A : List ℕ
  A = packed 8 (map bits64 (doubles p))

  B : List ℕ
  B = packed 4 (whole_numbers p)

  C : List ℕ
  C = packed 4 (map bits32 (singles p))

  D : List ℕ
  D = smalls_of p ++ map flag_byte (on_off_places p)

  long_a : length A ≡ 64
  unfolding A
  long_a = row-long bits64 8 8 (doubles p) t.doubles.0

  long_b : length B ≡ 36
  unfolding B
  long_b = length-packed 4 (whole_numbers p) ∙ omega (arith, t.wholes.0)

  long_c : length C ≡ 16
  unfolding C
  long_c = row-long bits32 4 4 (singles p) t.singles.0

  abbrev after_two : options_of p ≡ (A ++ B) ++ (C ++ D)
  unfolding options_of A B C D
  after_two = sym (append_assoc A B (C ++ D))

  long-two : length (A ++ B) ≡ 100
  long-two = length-append A B ∙ omega (arith, long_a, long_b)

  doubles-back : map (of_bits binary64) (numbers_at 8 8 (options_of p) 0) ≡ doubles p
  unfolding options_of
  doubles-back = doubles-row [] _ 0 8 refl (doubles p) t.doubles

  wholes-back : numbers_at 4 9 (options_of p) 64 ≡ whole_numbers p
  unfolding options_of A B C D
  wholes-back = numbers-row A (C ++ D) 64 9 long_a (whole_numbers p) t.wholes

  singles-back : map (of_bits binary32) (numbers_at 4 4 (options_of p) 100) ≡ singles p
  unfolding A B C D
  singles-back =
      ap (λ (l : List ℕ). map (of_bits binary32) (numbers_at 4 4 l 100)) after_two
      ∙ singles-row (A ++ B) D 100 4 long-two (singles p) t.singles

  -- what stands behind the rows
  behind : drop 116 (options_of p) ≡ D
  behind =
      let long : length ((A ++ B) ++ C) ≡ 116 = length-append (A ++ B) C ∙ omega (arith, long-two, long_c) in
      ap (drop 116) (after_two ∙ sym (append_assoc (A ++ B) C D)) ∙ drop_at ((A ++ B) ++ C) D 116 long

  byte-behind : (i : ℕ) → get_or (options_of p) (116 + i) 0 ≡ get_or D i 0
  byte-behind i = sym (get_or-drop 116 (options_of p) i 0) ∙ ap (λ (l : List ℕ). get_or l i 0) behind

  top_back : get_or (options_of p) 116 0 ≡ p.max_level
  unfolding D smalls_of
  top_back = byte-behind 0

  skip-back : get_or (options_of p) 117 0 ≡ p.skip_slices_from
  unfolding D smalls_of
  skip-back = byte-behind 1

  power-back : get_or (options_of p) 118 0 ≡ p.power
  unfolding D smalls_of
  power-back = byte-behind 2

  pin-back : at 8 (options_of p) 119 ≡ p.pin_level.level
  unfolding D smalls_of
  pin-back =
      ap (λ (l : List ℕ). num (take 8 l)) (sym (drop-drop 3 116 (options_of p)) ∙ ap (drop 3) behind) ∙ num-le8 _ t.pin

  behind-smalls : drop 127 (options_of p) ≡ map flag_byte (on_off_places p)
  unfolding D smalls_of
  behind-smalls = sym (drop-drop 11 116 (options_of p)) ∙ ap (drop 11) behind

  place-back : (i : ℕ) → place_at (options_of p) i ≡ flag_byte (get_or (on_off_places p) i false)
  place-back i =
      sym (get_or-drop 127 (options_of p) i 0) ∙ ap (λ (l : List ℕ). get_or l i 0) behind-smalls ∙ get_or-map flag_byte (on_off_places p) i false

  flag-back : (i : ℕ) → card_flag (options_of p) i ≡ get_or (on_off_places p) i false
  flag-back i = ap (λ (n : ℕ). eqb n 1) (place-back i) ∙ bit-back (get_or (on_off_places p) i false)

  places-good : places_ok (options_of p) ≡ true
  unfolding places_ok
  places-good = all-every (place_ok (options_of p)) 15 (λ k h. ap (λ (n : ℕ). leb n 1) (place-back k) ∙ bit-small (get_or (on_off_places p) k false))

  -- ---- the thresholds

  plain_back : marks_in (thresholds_of p) 0 ≡ p.plain
  unfolding marks_in thresholds_of
  plain_back = λ j. record {
    thresholds_db = marks-row [] p.plain (marks_bytes p.eff) 0 refl t.plain j;
    margin_db = margin-back [] p.plain (marks_bytes p.eff) 0 refl t.plain j;
  }

  closed : thresholds_of p ≡ marks_bytes p.plain ++ (marks_bytes p.eff ++ [])
  unfolding thresholds_of
  closed = ap (λ (r : List ℕ). marks_bytes p.plain ++ r) (sym (append-nil (marks_bytes p.eff)))

  eff-back : marks_in (thresholds_of p) 72 ≡ p.eff
  unfolding marks_in
  eff-back = ap (λ (l : List ℕ). marks_in l 72) closed ∙ (λ j. record {
    thresholds_db = marks-row (marks_bytes p.plain) p.eff [] 72 (marks-long p.plain t.plain) t.eff j;
    margin_db = margin-back (marks_bytes p.plain) p.eff [] 72 (marks-long p.plain t.plain) t.eff j;
  })

  -- ---- the profile

  profile-in : profile_in (levels_of p.air) (waves_of p.air) (thresholds_of p) (options_of p) ≡ p
  unfolding profile_in air_in codes_in lengths_in holds_in numbers_at doubles whole_numbers singles on_off_places
  profile-in = λ j. record {
    air = record {
      slot_bits = slots-back p.air t.air j;
      pre_s = pre-back p.air t.air j;
      rate = rate-back p.air t.air j;
      max_bits = most-back p.air t.air j;
      ack_s = acks-back p.air t.air j;
      cue_s = get_or (doubles-back j) 0 nan;
    };
    short_bytes = get_or (wholes-back j) 0 0;
    long_bytes = get_or (wholes-back j) 1 0;
    codes = record { mother = get_or (wholes-back j) 2 0; ends = drop 3 (wholes-back j) };
    lengths = record {
      max_burst_s = get_or (doubles-back j) 1 nan;
      max_burst_long_s = get_or (doubles-back j) 2 nan;
      burst_overhead = get_or (doubles-back j) 3 nan;
      turnaround_s = get_or (doubles-back j) 4 nan;
      burst_adapt = flag-back 3 j;
      burst_steady_db = get_or (singles-back j) 0 nan;
      burst_climb_db = record { set = flag-back 0 j; db = get_or (singles-back j) 1 nan };
    };
    hold_times = record {
      fail_hold_s = get_or (doubles-back j) 5 nan;
      fail_hold_max_s = get_or (doubles-back j) 6 nan;
      loss_hold_s = get_or (doubles-back j) 7 nan;
    };
    plain = plain_back j;
    eff = eff-back j;
    eff_snr = flag-back 4 j;
    cue_below_db = get_or (singles-back j) 2 nan;
    start_margin_db = record { set = flag-back 1 j; db = get_or (singles-back j) 3 nan };
    max_level = top_back j;
    skip_slices_from = skip-back j;
    pin_level = record { set = flag-back 2 j; level = pin-back j };
    goodput = flag-back 5 j;
    power = power-back j;
    harq = flag-back 6 j;
    pick_family = flag-back 7 j;
    smooth_target = flag-back 8 j;
    hold_by_goodput = flag-back 9 j;
    slice_slots = flag-back 10 j;
    merge_pieces = flag-back 11 j;
    cue = flag-back 12 j;
    harq_partial = flag-back 13 j;
  }

  profile-back : card_profile (card_of p) ≡ p
  profile-back = (λ j. profile_in (levels-back p t j) (waves-back p t j) (thresholds-back p t j) (options-back p t j)) ∙ profile-in

  -- ---- the file

  version-good : version_bad (card_of p) ≡ false
  unfolding version_bad card_of
  version-good = refl

  file-good : file_refusal (card_of p) ≡ 0
  unfolding file_refusal
  file-good = rw (version-good, card-counts p t) refl

  accepted : in_range p ≡ true → in_order p ≡ true → content_refusal 1 (options_of p) p ≡ 0
  unfolding content_refusal
  accepted a b = rw (places-good, a, b) refl

  -- "Writing puts 0 there"
  stretch-off : eqb (stretch_place (options_in (card_of p))) 1 ≡ false
  unfolding on_off_places
  stretch-off = ap (λ (os : List ℕ). eqb (stretch_place os) 1) (options-back p t) ∙ ap (λ (n : ℕ). eqb n 1) (place-back 14)

  card-read : (before : Profile) → in_range p ≡ true → in_order p ≡ true → read_of (card_of p) before ≡ (0, p, false)
  unfolding card_of
  card-read before a b =
      let e : 0 ≡ content_refusal 1 _ _ = sym (accepted a b) ∙ (λ j. content_refusal 1 (sym (options-back p t) j) (sym profile-back j)) in
      sym (read-good (card_of p) before 0 0 (sym file-good) refl e refl) ∙ (λ j. (0, profile-back j, stretch-off j))

-- ---- the claim

passed : (a b c : Bool) → ◌≡◌ {A = ℕ} (cond (not a) 1 (cond (not b) 2 (cond c 14 0))) 0 → (a ≡ true) × ((b ≡ true) × (c ≡ false))
passed true true false e = (refl, (refl, refl))
passed true true true e = absurd (omega (arith, e))
passed true false c e = absurd (omega (arith, e))
passed false b c e = absurd (omega (arith, e))

written : (p : Profile) (out : List ℕ) → (write_of p out).0 ≡ 0
    → (in_range p ≡ true) × ((in_order p ≡ true) × (ltb (length out) card_bytes ≡ false))
unfolding write_of write_refusal
written p out e = passed (in_range p) (in_order p) (ltb (length out) card_bytes) e

pub round_trip : RoundTrip
round_trip p before out t e =
    let g = written p out e in
    let long = card-long p t in
    let h : 751 ≤ length out = omega (arith, ltb-false (length out) 751 g.1.1) in
    let w = write-good p out g.0 g.1.0 h (overwrite out 0 (card_of p)) refl in
    let file = part_in out 0 (card_of p) 751 (omega (arith, long)) (omega (arith, long)) ∙ take_all 751 (card_of p) (omega (arith, long)) in
    ap (λ (x : ℕ × List ℕ). read_of (take card_bytes x.1) before) (sym w)
    ∙ ap (λ (l : List ℕ). read_of l before) file
    ∙ card-read p t before g.0 g.1.0
