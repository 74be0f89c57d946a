-- An accepted call takes a sound record to a sound one, whatever the frames are. Assumes nothing.
use Prim.Native.Nat.{ℕ, zero, suc, ◌+◌, ◌-◌, ◌≤◌, ◌<◌}
use mathlib.Core.Path.{◌≡◌, refl, sym, ap, ◌∙◌, subst}
use mathlib.Core.Bool.{Bool, true, false, not, cond, ◌&&◌, false≢true}
use mathlib.Core.List.{List, [], ◌∷◌}
use native.Mathlib.Omega.{arith}
use lib.Dec.{leb, eqb}
use lib.ListN.{length, take, drop, get_or, replicate, length-take, length-drop, length-replicate, get_or-append, get_or-eq_default}
use lib.Seq.{get_or-drop, get_or-take, get_or-append-add, length-take-le}
use borrow.Author.Tests.{leb-true, leb-false, eqb-true, eqb-false, not-true}
use Rattle.laws.specs.Bytes.{overwrite}
use Rattle.laws.specs.Span.{every, upto}
use Rattle.laws.proofs.Bytes.{length_over, over-eq}
use Rattle.laws.proofs.Picks.{by, test, and_second}
use Rattle.laws.proofs.Span.{every-pass, every-fail, every-end}
use Rattle.window.specs.Window.{is_kept, lead, moved, keep_at, keep_from}
use Rattle.window.proofs.Fits.{length_moved}
use Rattle.receiver.specs.declared.Receiver.{Receiver}
use Rattle.receiver.specs.declared.Listened.{Listened}
use Rattle.receiver.specs.declared.Taking.{Taking}
use Rattle.receiver.specs.Frames.{Slotted, len_of, off_of, payload_of, frame_ok, slot_ok, reach_ok}
use Rattle.receiver.specs.Taking.{none_taken, take_one, all_taken, slotted}
use Rattle.receiver.specs.Receiving.{empty_from, receiver_sound, receive_refusal, accepted, reception_of, frames_taken, fresh_receiver}
use Rattle.receiver.proofs.Calls.{sound-places, sound-first, sound_empty, sound-rest, length_taken}

-- nothing is kept from place n on
abbrev Empty : ℕ → List ℕ → Type 0
Empty n w = (i : ℕ) → n ≤ i → is_kept (get_or w i 0) ≡ false

-- ---- a frame within the reach keeps nothing past it

keep-past : (d : ℕ) (bs w : List ℕ) (i : ℕ) → d + length bs ≤ i → get_or (keep_at d bs w) i 0 ≡ get_or w i 0
unfolding keep_at
keep-past d bs [] i h = refl
keep-past zero [] (v ∷ w) i h = refl
keep-past zero (b ∷ bs) (v ∷ w) zero h = absurd (omega (arith, h))
keep-past zero (b ∷ bs) (v ∷ w) (suc i) h = keep-past zero bs w i (omega (arith, h))
keep-past (suc d) bs (v ∷ w) zero h = absurd (omega (arith, h))
keep-past (suc d) bs (v ∷ w) (suc i) h = keep-past d bs w i (omega (arith, h))

length-payload : (f : List ℕ) → length (payload_of f) ≤ len_of f
length-payload f = omega (arith, length-take (len_of f) (drop 6 f))

module _ (first : ℕ) (h : first ≤ 16777216) where
  empty-one : (x : Slotted) (y : Taking × List ℕ) → Empty (16777216 - first) y.1 → Empty (16777216 - first) (take_one first x y).1
  unfolding take_one
  empty-one x y e =
      by (λ (z : Taking × List ℕ). Empty (16777216 - first) z.1) (slot_ok y.0.least x.slot && frame_ok x.frame)
      (λ ok. by (λ (z : Taking × List ℕ). Empty (16777216 - first) z.1) (reach_ok first x.frame)
      (λ r i k.
      let f = x.frame in
      let hi : off_of f + len_of f ≤ 16777216 = leb-true (off_of f + len_of f) 16777216 (and_second (leb (off_of f + len_of f) (first + 32768)) (leb (off_of f + len_of f) 16777216) r) in
      let p : get_or (keep_from first (off_of f) (payload_of f) y.1) i 0 ≡ get_or y.1 i 0 =
      keep-past (off_of f - first) (drop (first - off_of f) (payload_of f)) y.1 i (omega (arith, length-drop (first - off_of f) (payload_of f), length-payload f, hi, k, h)) in
      ap is_kept p ∙ e i k)
      (λ r. e))
      (λ no. e)

  pub empty-all : (xs : List Slotted) (y : Taking × List ℕ) → Empty (16777216 - first) y.1 → Empty (16777216 - first) (all_taken first xs y).1
  unfolding all_taken
  empty-all [] y e = e
  empty-all (x ∷ xs) y e = empty-all xs (take_one first x y) (empty-one x y e)

-- ---- the window moves on

lead-stops : (w : List ℕ) → is_kept (get_or w (lead w) 0) ≡ false
unfolding lead
lead-stops [] = refl
lead-stops (v ∷ w) = test (is_kept v) (λ k. rw k (lead-stops w)) (λ k. rw k k)

lead_low : (n : ℕ) (w : List ℕ) → Empty n w → lead w ≤ n
unfolding lead
lead_low n [] e = omega arith
lead_low zero (v ∷ w) e = subst (λ (b : Bool). cond b (suc (lead w)) 0 ≤ 0) (sym (e 0 (omega arith))) (omega arith)
lead_low (suc n) (v ∷ w) e = by (λ (m : ℕ). m ≤ suc n) (is_kept v) (λ k. omega (arith, lead_low n w (λ i h. e (suc i) (omega (arith, h))))) (λ k. omega arith)

zeros : (n i : ℕ) → get_or {A = ℕ} (replicate n 0) i 0 ≡ 0
zeros zero i = refl
zeros (suc n) zero = refl
zeros (suc n) (suc i) = zeros n i

moved-place : (w : List ℕ) (i : ℕ) → is_kept (get_or w (lead w + i) 0) ≡ false → is_kept (get_or (moved w) i 0) ≡ false
moved-place w i e =
    let k = lead w in
    test (leb (length w - k) i)
    (λ t.
    let l : length (drop k w) + (i - (length w - k)) ≡ i = omega (arith, length-drop k w, leb-true (length w - k) i t) in
    ap is_kept (ap (λ (j : ℕ). get_or (moved w) j 0) (sym l) ∙ get_or-append-add (drop k w) (replicate k 0) (i - (length w - k)) 0 ∙ zeros k (i - (length w - k))))
    (λ t. ap is_kept (get_or-append (drop k w) (replicate k 0) 0 i (omega (arith, length-drop k w, leb-false (length w - k) i t)) ∙ get_or-drop k w i 0) ∙ e)

moved-first : (w : List ℕ) → is_kept (get_or (moved w) 0 0) ≡ false
moved-first w = moved-place w 0 (ap (λ (j : ℕ). is_kept (get_or w j 0)) (let q : lead w + 0 ≡ lead w = omega arith in q) ∙ lead-stops w)

moved-empty : (n : ℕ) (w : List ℕ) → Empty n w → Empty (n - lead w) (moved w)
moved-empty n w e i h = moved-place w i (e (lead w + i) (omega (arith, h)))

-- ---- the test of each place

every-from : (p : ℕ → Bool) (m a b : ℕ) → b ≤ a + m → ((i : ℕ) → a ≤ i → i < b → p i ≡ true) → every p (upto a b) ≡ true
every-from p zero a b h f = every-end a b p (omega (arith, h))
every-from p (suc m) a b h f =
    test (leb b a) (λ t. every-end a b p (leb-true b a t))
    (λ t. every-pass a b p (leb-false b a t) (f a (omega arith) (leb-false b a t)) ∙ every-from p m (a + 1) b (omega (arith, h)) (λ i k. f i (omega (arith, k))))

every-at : (p : ℕ → Bool) (m a b : ℕ) → b ≤ a + m → every p (upto a b) ≡ true → (i : ℕ) → a ≤ i → i < b → p i ≡ true
every-at p zero a b h e i l k = absurd (omega (arith, h, l, k))
every-at p (suc m) a b h e i l k =
    test (p a)
    (λ t. test (eqb i a) (λ q. ap p (eqb-true i a q) ∙ t)
    (λ q. let z = eqb-false i a q in every-at p m (a + 1) b (omega (arith, h)) (sym (every-pass a b p (omega (arith, l, k)) t) ∙ e) i (omega (arith, l, z)) k))
    (λ t. absurd (false≢true (sym (every-fail a b p (omega (arith, l, k)) t) ∙ e)))

empty-is : (a : List ℕ) (n : ℕ) → ((i : ℕ) → n ≤ i → i < 32768 → is_kept (get_or a i 0) ≡ false) → empty_from a n ≡ true
unfolding empty_from
empty-is a n e = every-from (λ j. not (is_kept (get_or a j 0))) 32768 n 32768 (omega arith) (λ i h k. ap not (e i h k))

is-empty : (a : List ℕ) (n : ℕ) → 32768 ≤ length a → empty_from a n ≡ true → Empty n (take 32768 a)
unfolding empty_from
is-empty a n l e i h =
    test (leb 32768 i)
    (λ t. ap is_kept (get_or-eq_default (take 32768 a) 0 {n = i} (omega (arith, length-take-le 32768 a l, leb-true 32768 i t))))
    (λ t.
    let k = leb-false 32768 i t in
    ap is_kept (get_or-take 32768 a i 0 k) ∙ not-true (is_kept (get_or a i 0)) (every-at (λ j. not (is_kept (get_or a j 0))) 32768 n 32768 (omega arith) e i h k))

-- ---- a call

over-in : (a m : List ℕ) (i : ℕ) → length m ≤ length a → i < length m → get_or (overwrite a 0 m) i 0 ≡ get_or m i 0
over-in a m i h k = ap (λ (x : List ℕ). get_or x i 0) (over-eq a 0 m (omega (arith, h))) ∙ get_or-append m (drop (0 + length m) a) 0 i k

module _ (r : Receiver) (a : List ℕ) (number : ℕ) (bytes sizes slots : List ℕ) (db : ℕ) (out : List ℕ) (s : receiver_sound r a ≡ true) where
  pub accepted-sound : receiver_sound (accepted r a number bytes sizes slots db out).0.next (accepted r a number bytes sizes slots db out).1.0 ≡ true
  accepted-sound =
      let first = r.first_missing in
      let w = (frames_taken r a number bytes sizes slots db out).1 in
      let la = sound-places r a s in
      let lf = sound-first r a s in
      let e : Empty (16777216 - first) w = empty-all first lf (slotted bytes sizes slots) (none_taken, take 32768 a) (is-empty a (16777216 - first) la (sound_empty r a s)) in
      let m : length (moved w) ≡ 32768 = length_moved w ∙ length_taken first (slotted bytes sizes slots) (none_taken, take 32768 a) ∙ length-take-le 32768 a la in
      let at : (i : ℕ) → i < 32768 → get_or (overwrite a 0 (moved w)) i 0 ≡ get_or (moved w) i 0 = λ i k. over-in a (moved w) i (omega (arith, m, la)) (omega (arith, m, k)) in
      sym (sound-rest (record { first_missing = first + lead w }) (overwrite a 0 (moved w)) (omega (arith, length_over a 0 (moved w), la)) (omega (arith, lead_low (16777216 - first) w e, lf)) true
      (leb-false 256 _ (ap is_kept (at 0 (omega arith)) ∙ moved-first w))
      (sym (empty-is (overwrite a 0 (moved w)) (16777216 - (first + lead w)) (λ i h k. ap is_kept (at i k) ∙ moved-empty (16777216 - first) w e i (omega (arith, h))))))

  -- accepted or refused
  pub keeps-sound : receiver_sound (reception_of r a number bytes sizes slots db out).0.next (reception_of r a number bytes sizes slots db out).1.0 ≡ true
  unfolding reception_of
  keeps-sound =
      by (λ (z : Listened × (List ℕ × List ℕ)). receiver_sound z.0.next z.1.0 ≡ true) (eqb (receive_refusal r a number (length out)) 0) (λ e. accepted-sound) (λ e. s)

-- a new receiver with a window of zeros
pub fresh-sound : (n : ℕ) → 32768 ≤ n → receiver_sound fresh_receiver (replicate n 0) ≡ true
fresh-sound n h =
    sym (sound-rest fresh_receiver (replicate n 0) (omega (arith, h, length-replicate {A = ℕ} n 0)) (omega arith) true
    (leb-false 256 _ (ap is_kept (zeros n 0))) (sym (empty-is (replicate n 0) 16777216 (λ i k l. ap is_kept (zeros n i)))))
