-- Change 11's two claims on a card. A file of version 1 that has harq_stretch on and the same file with it off differ in byte 750 alone. Their
-- options are the same 141 bytes and then that one (`on-is`, `off-is`), from which no field of the profile is read (`profile-front`); the
-- place is on or off in both. So both are judged alike (`same-refusal`). Assumes nothing.
use Prim.Native.Nat.{ℕ, zero, suc, ◌+◌, ◌*◌, ◌≤◌, ◌<◌}
use mathlib.Core.Path.{◌≡◌, refl, sym, ap, ◌∙◌}
use mathlib.Core.Bool.{Bool, true, false, cond, not, ◌&&◌, ◌||◌, false≢true}
use mathlib.Core.List.{List, [], ◌∷◌, ◌++◌}
use native.Mathlib.Omega.{arith}
use borrow.Author.Tests.{eqb-true, eqb-false, ltb-true, ltb-false}
use lib.Dec.{eqb, ltb, leb}
use lib.ListN.{length, get_or, take, drop, length-drop, length-take, get_or-append, get_or-eq_default}
use lib.Seq.{drop-append-le, take-append-le, get_or-append_seam, get_or-set_same}
use lib.Ieee.{binary32, binary64, of_bits}
use Rattle.laws.specs.Bytes.{part}
use Rattle.laws.specs.Little.{num}
use Rattle.laws.specs.Span.{every, upto}
use Rattle.laws.specs.Tests.{all}
use Rattle.laws.proofs.Bytes.{length_over, length_part, get_d-over-before, part-before, part-suc, set-over}
use Rattle.laws.proofs.Picks.{test, and_yes, and_first, and_second, or_left}
use Rattle.laws.proofs.Span.{every-all, all-every}
use Rattle.config.specs.Ranges.{in_range, in_order}
use Rattle.card.specs.Card.{at, numbers_at, place_at, place_ok, places_ok, air_in, codes_in, lengths_in, holds_in, profile_in, card_profile, options_in, options_ok}
use Rattle.card.specs.Card.{levels_in, waves_in, thresholds_in, version_bad, counts_agree, file_refusal, stretch_place, stretch_later, content_refusal}
use Rattle.card.specs.Card.{read_refusal, read_of}
use Rattle.card.specs.Claims.{turned_off, ReadOff, ToldAlone}
use Rattle.card.proofs.Refusals.{version-some, counts-long}

-- tests that are alike hold alike of all
every-same : (p q : ℕ → Bool) (n : ℕ) → ((k : ℕ) → k < n → p k ≡ q k) → every p (upto 0 n) ≡ every q (upto 0 n)
every-same p q n e =
    test (every p (upto 0 n))
    (λ t. t ∙ sym (all-every q n (λ k h. sym (e k h) ∙ every-all p n t k h)))
    (λ t.
    test (every q (upto 0 n))
    (λ u. absurd (false≢true (sym t ∙ all-every p n (λ k h. e k h ∙ every-all q n u k h))))
    (λ u. t ∙ sym u))

-- ---- what no field is read from

module _ (ls ws ts xs ys : List ℕ) (h : length xs ≡ 141) where
  at_front : (k i : ℕ) → i + k ≤ 141 → at k (xs ++ ys) i ≡ at k xs i
  at_front k i l =
      ap num (ap (take k) (drop-append-le i xs ys (omega (arith, h))) ∙ take-append-le k (drop i xs) ys (simp length-drop (omega (arith, h))))

  byte-front : (i : ℕ) → i < 141 → get_or (xs ++ ys) i 0 ≡ get_or xs i 0
  byte-front i l = get_or-append xs ys 0 i (omega (arith, h))

  flag-front : (i : ℕ) → i < 14 → eqb (place_at (xs ++ ys) i) 1 ≡ eqb (place_at xs i) 1
  flag-front i l = ap (λ (n : ℕ). eqb n 1) (byte-front (127 + i) (omega arith))

  row-front : (n i : ℕ) → i + 4 * n ≤ 141 → numbers_at 4 n (xs ++ ys) i ≡ numbers_at 4 n xs i
  unfolding numbers_at
  row-front zero i l = refl
  row-front (suc n) i l = λ j. at_front 4 i (omega arith) j ∷ row-front n (i + 4) (omega arith) j

  profile-front : profile_in ls ws ts (xs ++ ys) ≡ profile_in ls ws ts xs
  unfolding profile_in air_in codes_in lengths_in holds_in
  profile-front = λ j. record {
    air = record {
      slot_bits = numbers_at 4 17 ls 0;
      pre_s = (air_in ls ws xs).pre_s;
      rate = (air_in ls ws xs).rate;
      max_bits = numbers_at 4 17 ls 340;
      ack_s = (air_in ls ws xs).ack_s;
      cue_s = of_bits binary64 (at_front 8 0 (omega arith) j);
    };
    short_bytes = at_front 4 64 (omega arith) j;
    long_bytes = at_front 4 68 (omega arith) j;
    codes = record { mother = at_front 4 72 (omega arith) j; ends = row-front 6 76 (omega arith) j };
    lengths = record {
      max_burst_s = of_bits binary64 (at_front 8 8 (omega arith) j);
      max_burst_long_s = of_bits binary64 (at_front 8 16 (omega arith) j);
      burst_overhead = of_bits binary64 (at_front 8 24 (omega arith) j);
      turnaround_s = of_bits binary64 (at_front 8 32 (omega arith) j);
      burst_adapt = flag-front 3 (omega arith) j;
      burst_steady_db = of_bits binary32 (at_front 4 100 (omega arith) j);
      burst_climb_db = record { set = flag-front 0 (omega arith) j; db = of_bits binary32 (at_front 4 104 (omega arith) j) };
    };
    hold_times = record {
      fail_hold_s = of_bits binary64 (at_front 8 40 (omega arith) j);
      fail_hold_max_s = of_bits binary64 (at_front 8 48 (omega arith) j);
      loss_hold_s = of_bits binary64 (at_front 8 56 (omega arith) j);
    };
    plain = (profile_in ls ws ts xs).plain;
    eff = (profile_in ls ws ts xs).eff;
    eff_snr = flag-front 4 (omega arith) j;
    cue_below_db = of_bits binary32 (at_front 4 108 (omega arith) j);
    start_margin_db = record { set = flag-front 1 (omega arith) j; db = of_bits binary32 (at_front 4 112 (omega arith) j) };
    max_level = byte-front 116 (omega arith) j;
    skip_slices_from = byte-front 117 (omega arith) j;
    pin_level = record { set = flag-front 2 (omega arith) j; level = at_front 8 119 (omega arith) j };
    goodput = flag-front 5 (omega arith) j;
    power = byte-front 118 (omega arith) j;
    harq = flag-front 6 (omega arith) j;
    pick_family = flag-front 7 (omega arith) j;
    smooth_target = flag-front 8 (omega arith) j;
    hold_by_goodput = flag-front 9 (omega arith) j;
    slice_slots = flag-front 10 (omega arith) j;
    merge_pieces = flag-front 11 (omega arith) j;
    cue = flag-front 12 (omega arith) j;
    harq_partial = flag-front 13 (omega arith) j;
  }

-- ---- the two files

-- it has so many bytes that it has the place
long-on : (b : List ℕ) → stretch_place (options_in b) ≡ 1 → 751 ≤ length b
long-on b on =
    test (ltb 750 (length b))
    (λ e. omega (arith, ltb-true 750 (length b) e))
    (λ e.
    let few : length (options_in b) ≤ 141 = omega (arith, ltb-false 750 (length b) e, length-take 142 (drop 609 b), length-drop 609 b) in
    absurd (omega (arith, on, get_or-eq_default (options_in b) 0 few)))

module _ (b : List ℕ) (long : 751 ≤ length b) where
  abbrev b' : List ℕ
  b' = turned_off b

  abbrev xs : List ℕ
  xs = part b 609 141

  xs-long : length xs ≡ 141
  xs-long = length_part b 609 141 (omega arith)

  same : (i n : ℕ) → i + n ≤ 750 → part b' i n ≡ part b i n
  same i n h = part-before b 750 (0 ∷ []) i n h

  on-is : options_in b ≡ xs ++ (get_or b 750 0 ∷ [])
  on-is = part-suc b 609 141 (omega arith)

  off-long : length b' ≡ length b
  off-long = length_over b 750 (0 ∷ [])

  off-is : options_in b' ≡ xs ++ (get_or b' 750 0 ∷ [])
  off-is = part-suc b' 609 141 (omega (arith, off-long)) ∙ ap (λ (l : List ℕ). l ++ (get_or b' 750 0 ∷ [])) (same 609 141 (omega arith))

  version-same : get_or b' 0 0 ≡ get_or b 0 0
  version-same = get_d-over-before b 750 (0 ∷ []) 0 0 (omega arith)

  profile-same : card_profile b' ≡ card_profile b
  profile-same =
      (λ j. profile_in (same 3 408 (omega arith) j) (same 413 48 (omega arith) j) (same 463 144 (omega arith) j) (off-is j))
      ∙ profile-front (levels_in b) (waves_in b) (thresholds_in b) xs (get_or b' 750 0 ∷ []) xs-long
      ∙ sym (profile-front (levels_in b) (waves_in b) (thresholds_in b) xs (get_or b 750 0 ∷ []) xs-long)
      ∙ ap (profile_in (levels_in b) (waves_in b) (thresholds_in b)) (sym on-is)

  file-same : file_refusal b' ≡ file_refusal b
  unfolding file_refusal counts_agree
  file-same =
      let v = sym (version-some b' (λ z. omega (arith, off-long))) ∙ ap (λ (x : ℕ). eqb x 0 || ltb 15 x) version-same ∙ version-some b (λ z. omega arith) in
      λ j. cond (v j) 13 (cond (not (all (eqb (num (same 1 2 (omega arith) j)) 408 ∷ eqb (num (same 411 2 (omega arith) j)) 48
      ∷ eqb (num (same 461 2 (omega arith) j)) 144 ∷ options_ok (version-same j) (num (same 607 2 (omega arith) j))
      ∷ eqb (off-long j) (609 + num (same 607 2 (omega arith) j)) ∷ []))) 14 0)

  place_same : (i : ℕ) → i < 14 → place_at (options_in b') i ≡ place_at (options_in b) i
  place_same i h =
      ap (λ (l : List ℕ). place_at l i) off-is
      ∙ byte-front [] [] [] xs (get_or b' 750 0 ∷ []) xs-long (127 + i) (omega arith)
      ∙ sym (byte-front [] [] [] xs (get_or b 750 0 ∷ []) xs-long (127 + i) (omega arith))
      ∙ ap (λ (l : List ℕ). place_at l i) (sym on-is)

  off : stretch_place (options_in b') ≡ 0
  off =
      ap stretch_place off-is ∙ ap (λ (n : ℕ). get_or (xs ++ (get_or b' 750 0 ∷ [])) n 0) (sym xs-long)
      ∙ get_or-append_seam xs (get_or b' 750 0) [] 0 ∙ ap (λ (l : List ℕ). get_or l 750 0) (sym (set-over b 750 0)) ∙ get_or-set_same b 750 0 0 (omega arith)

  module _ (one : get_or b 0 0 ≡ 1) (on : stretch_place (options_in b) ≡ 1) where
    ok_same : (i : ℕ) → i < 15 → place_ok (options_in b') i ≡ place_ok (options_in b) i
    ok_same i h =
        test (ltb i 14)
        (λ e. ap (λ (n : ℕ). leb n 1) (place_same i (ltb-true i 14 e)))
        (λ e.
        let last : i ≡ 14 = omega (arith, ltb-false i 14 e) in
        ap (place_ok (options_in b')) last ∙ ap (λ (n : ℕ). leb n 1) off ∙ sym (ap (place_ok (options_in b)) last ∙ ap (λ (n : ℕ). leb n 1) on))

    places_same : places_ok (options_in b') ≡ places_ok (options_in b)
    unfolding places_ok
    places_same = every-same (place_ok (options_in b')) (place_ok (options_in b)) 15 ok_same

    content-same : content_refusal (get_or b' 0 0) (options_in b') (card_profile b') ≡ content_refusal (get_or b 0 0) (options_in b) (card_profile b)
    unfolding content_refusal
    content-same =
        ap (λ (v : ℕ). content_refusal v (options_in b') (card_profile b')) (version-same ∙ one)
        ∙ (λ j. cond (not (places_same j && in_range (profile-same j))) 1 (cond (not (in_order (profile-same j))) 2 0))
        ∙ ap (λ (v : ℕ). content_refusal v (options_in b) (card_profile b)) (sym one)

    same-refusal : read_refusal b' ≡ read_refusal b
    unfolding read_refusal
    same-refusal = λ j. cond (eqb (file-same j) 0) (content-same j) (file-same j)

-- ---- the claims

and-on : (a c : Bool) → c ≡ true → a ≡ (a && c)
and-on true c e = sym e
and-on false c e = refl

pub read_off : ReadOff
unfolding read_of
read_off b before one on =
    let l = long-on b on in
    let r = sym (same-refusal b l one on) in
    λ j. (r j, cond (eqb (r j) 0) (sym (profile-same b l) j) before, (sym (and-on (eqb (read_refusal b) 0) _ (ap (λ (n : ℕ). eqb n 1) on)) ∙ ap (λ (n : ℕ). eqb n 0) r) j)

-- what a number of 0 says of the tests before it
file-none : (v c : Bool) → ◌≡◌ {A = ℕ} (cond v 13 (cond (not c) 14 0)) 0 → (v ≡ false) × (c ≡ true)
file-none true c e = absurd (omega (arith, e))
file-none false true e = (refl, refl)
file-none false false e = absurd (omega (arith, e))

content-none : (l g o : Bool) → ◌≡◌ {A = ℕ} (cond l 18 (cond (not g) 1 (cond (not o) 2 0))) 0 → l ≡ false
content-none true g o e = absurd (omega (arith, e))
content-none false g o e = refl

both-none : (f c : ℕ) → cond (eqb f 0) c f ≡ 0 → (f ≡ 0) × (c ≡ 0)
both-none f c e =
    test (eqb f 0)
    (λ t. (eqb-true f 0 t, (let h : c ≡ 0 = rw t at e in h)))
    (λ t. absurd (eqb-false f 0 t (let h : f ≡ 0 = rw t at e in h)))

taken-by : (b : List ℕ) → read_refusal b ≡ 0
    → (version_bad b ≡ false) × (counts_agree b ≡ true) × (stretch_later (get_or b 0 0) (options_in b) ≡ false)
unfolding read_refusal file_refusal content_refusal
taken-by b e =
    let w = both-none (file_refusal b) (content_refusal (get_or b 0 0) (options_in b) (card_profile b)) e in
    let f = file-none (version_bad b) (counts_agree b) w.0 in
    let os = options_in b in
    (f.0, f.1, content-none (stretch_later (get_or b 0 0) os) (places_ok os && in_range (card_profile b)) (in_order (card_profile b)) w.1)

pub told-alone : ToldAlone
unfolding read_of
told-alone b before e =
    let r = eqb-true (read_refusal b) 0 (and_first (eqb (read_refusal b) 0) _ e) in
    let on = eqb-true (stretch_place (options_in b)) 1 (and_second (eqb (read_refusal b) 0) _ e) in
    let t = taken-by b r in
    let v = get_or b 0 0 in
    let bad = version-some b (λ z. omega (arith, counts-long b t.1)) ∙ t.0 in
    let least : 1 ≤ v =
    test (eqb v 0) (λ z. absurd (false≢true (sym bad ∙ or_left (eqb v 0) (ltb 15 v) z))) (λ z. omega (arith, eqb-false v 0 z)) in
    let most : v ≤ 1 =
    test (ltb 1 v)
    (λ z. absurd (false≢true (sym t.2 ∙ and_yes (ltb 1 v) _ z (ap (λ (n : ℕ). not (eqb n 0)) on))))
    (λ z. omega (arith, ltb-false 1 v z)) in
    (r, omega arith, on)
