-- Laws of the words' definitions: a turn of each loop over a word's characters, and its end. Assumes nothing.
use Prim.Native.Nat.{ℕ, zero, suc, ◌+◌, ◌-◌, ◌*◌, ◌/◌, ◌%◌, ◌≤◌, ◌<◌}
use mathlib.Core.Path.{◌≡◌, refl, sym, ap, ap₂, ◌∙◌}
use mathlib.Core.Bool.{Bool, true, false, cond, false≢true, ◌&&◌, ◌||◌}
use mathlib.Core.List.{List, [], ◌∷◌}
use native.Mathlib.Omega.{arith}
use native.Mathlib.Nat.{zero-add, le-div_iff_mul-le, div-lt_iff_lt-mul}
use native.Mathlib.Numerals.{add-one}
use lib.Dec.{eqb, ltb, leb}
use lib.ListN.{length, get_or, set, take, drop, drop_of_length-le}
use lib.Seq.{drop-cons}
use borrow.Author.Tests.{lt-ltb, le-ltb, le-leb, lt-leb, eq-eqb, ne_eqb, leb-true}
use Rattle.laws.proofs.Picks.{test, and_yes, and_left, and_right, and_second, cond_yes, cond_no}
use Rattle.laws.specs.Bytes.{overwrite}
use Rattle.laws.proofs.Bytes.{over-take}
use Rattle.laws.proofs.Span.{first-hit, first-miss, first-end}
use Rattle.std.specs.Prelude.{Option, Some, None, option_and_then}
use Rattle.std.proofs.lemmas.Slice.Eq.{bytes_eq-Decides}
use Rattle.words.specs.Lines.{end_of}
use Rattle.words.specs.Words.{one_digit_more, spelled, same, digit_value, digits, pair_bytes, hex_count}

-- what a drop begins with
drop_more : (w : List ℕ) (i : ℕ) → i < length w → drop i w ≡ get_or w i 0 ∷ drop (i + 1) w
drop_more w i h = rw add-one (drop-cons w i 0 h)

module _ (w : List ℕ) (i : ℕ) where
  pub spelled-more : (b n m : ℕ) → i < length w → one_digit_more b n (get_or w i 0) ≡ Some m
      → spelled b n (drop i w) ≡ spelled b m (drop (i + 1) w)
  unfolding spelled
  spelled-more b n m h e = rw (drop_more w i h, e) refl

  pub spelled-stop : (b n : ℕ) → i < length w → one_digit_more b n (get_or w i 0) ≡ None → spelled b n (drop i w) ≡ None
  unfolding spelled
  spelled-stop b n h e = rw (drop_more w i h, e) refl

  pub spelled-end : (b n : ℕ) → length w ≤ i → spelled b n (drop i w) ≡ Some n
  unfolding spelled
  spelled-end b n h = rw (drop_of_length-le w h) refl

  digits_more : i < length w → digits (drop i w) ≡ (ltb (digit_value (get_or w i 0)) 16 && digits (drop (i + 1) w))
  unfolding digits
  digits_more h = rw (drop_more w i h) refl

  pub digits-end : length w ≤ i → digits (drop i w) ≡ true
  unfolding digits
  digits-end h = rw (drop_of_length-le w h) refl

  pub digits-pass : i < length w → digit_value (get_or w i 0) < 16 → digits (drop i w) ≡ digits (drop (i + 1) w)
  digits-pass h k = digits_more h ∙ rw (lt-ltb (digit_value (get_or w i 0)) 16 k) refl

  pub digits-fail : i < length w → 16 ≤ digit_value (get_or w i 0) → digits (drop i w) ≡ false
  digits-fail h k = digits_more h ∙ and_left _ _ (le-ltb (digit_value (get_or w i 0)) 16 k)

-- ---- where a word ends

module _ (line : List ℕ) (e : ℕ) where
  pub end-here : e < length line → get_or line e 0 ≡ 32 → end_of line e ≡ e
  unfolding end_of
  end-here h q = first-hit e (length line) _ _ h (eq-eqb _ _ q)

  pub end_more : e < length line → (get_or line e 0 ≡ 32 → ⊥) → end_of line e ≡ end_of line (e + 1)
  unfolding end_of
  end_more h q = first-miss e (length line) _ _ h (ne_eqb _ _ q)

  pub end-last : length line ≤ e → end_of line e ≡ length line
  unfolding end_of
  end-last h = first-end e (length line) _ _ h

-- ---- pairs of digits

pub bytes-length : (w : List ℕ) → length (pair_bytes w) ≡ length w / 2
unfolding pair_bytes
bytes-length [] = omega arith
bytes-length (h ∷ []) = omega arith
bytes-length (h ∷ l ∷ w) = let i = bytes-length w in omega arith

pub bytes-at : (w : List ℕ) (k : ℕ) → 2 * k + 1 < length w → get_or (pair_bytes w) k 0 ≡ digit_value (get_or w (2 * k) 0) % 16 * 16 + digit_value
    (get_or w (2 * k + 1) 0) % 16
unfolding pair_bytes
bytes-at [] k q = absurd (omega arith)
bytes-at (h ∷ []) k q = absurd (omega arith)
bytes-at (h ∷ l ∷ w) zero q = refl
bytes-at (h ∷ l ∷ w) (suc k) q =
    let e : 2 * suc k ≡ suc (suc (2 * k)) = omega arith in
    let g : 2 * suc k + 1 ≡ suc (suc (2 * k + 1)) = omega arith in
    bytes-at w k (omega arith) ∙ sym (ap₂ (λ (i j : ℕ). digit_value (get_or (h ∷ l ∷ w) i 0) % 16 * 16 + digit_value
    (get_or (h ∷ l ∷ w) j 0) % 16) e g)

-- there is room for the bytes of HEX
pub hex-room : (room : ℕ) (w : List ℕ) (n : ℕ) → hex_count room w ≡ Some n → length (pair_bytes w) ≤ room
unfolding hex_count
hex-room room w n h =
    test (same w (45 ∷ []))
    (λ t. omega (arith, ap length ((bytes_eq-Decides w (45 ∷ [])).0 t), bytes-length w))
    (λ f. test (((digits w && eqb (length w % 2) 0) && ltb 0 (length w)) && leb (length w / 2) room)
    (λ t. omega (
      arith,
      leb-true (length w / 2) room (and_second ((digits w && eqb (length w % 2) 0) && ltb 0 (length w))
          (leb (length w / 2) room) t),
      bytes-length w,
    ))
    (λ g. let k = rw (f, g) at h in absurd (cc)))

-- a turn of the loop that stores them
pub pairs-turn : (d w x : List ℕ) (k v : ℕ) → 2 * k + 1 < length w → v ≡ digit_value (get_or w (2 * k) 0) % 16 * 16 + digit_value
    (get_or w (2 * k + 1) 0) % 16
    → x ≡ overwrite d 0 (take k (pair_bytes w)) → set x k v ≡ overwrite d 0 (take (k + 1) (pair_bytes w))
pairs-turn d w x k v h e p =
    ap₂ (λ (y : List ℕ) (u : ℕ). set y k u) p (e ∙ sym (bytes-at w k h))
    ∙ ap (λ (j : ℕ). set (overwrite d 0 (take k (pair_bytes w))) j (get_or (pair_bytes w) k 0)) (sym (zero-add k))
    ∙ over-take d 0 (pair_bytes w) k (omega (arith, bytes-length w))
