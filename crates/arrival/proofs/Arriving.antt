-- The receiver's call on frames of a burst. Assumes nothing.
use Prim.Native.Nat.{ℕ, zero, suc, ◌+◌, ◌≤◌}
use mathlib.Core.Path.{◌≡◌, refl, sym, ap, ap₂, ◌∙◌, subst}
use mathlib.Core.Logic.{◌⊎◌, inl, inr}
use mathlib.Core.Bool.{Bool, true, false, cond, not, ◌&&◌, false≢true}
use mathlib.Core.List.{List, [], ◌∷◌, ◌++◌, map}
use native.Mathlib.Omega.{arith}
use lib.Dec.{leb, ltb, eqb}
use lib.ListN.{length, take, drop, get_or, length-map, length-take}
use lib.Seq.{take-append_seam, drop-append_seam}
use borrow.Author.Tests.{leb-true, ltb-false}
use Rattle.laws.specs.Bytes.{overwrite}
use Rattle.laws.proofs.Bytes.{part_same}
use Rattle.laws.specs.Little.{num}
use Rattle.laws.proofs.Tests.{all-at}
use Rattle.laws.proofs.Picks.{by, test}
use Rattle.limits.specs.Limits.{max_number}
use Rattle.window.specs.Window as W
use Rattle.window.specs.Window.{lead, moved}
use Rattle.window.specs.WindowCode.{has}
use Rattle.window.proofs.Fits.{WindowFits, drop-lead, has-moved, length_moved}
use Rattle.receiver.specs.Frames.{Slotted, len_of, off_of, payload_of, box_bytes}
use Rattle.receiver.specs.declared.Taking.{Taking}
use Rattle.receiver.specs.Taking.{none_taken, all_taken, slotted}
use Rattle.receiver.specs.Receiving.{receiver_sound, receive_refusal}
use Rattle.receiver.specs.declared.Receiver.{Receiver}
use Rattle.receiver.proofs.Bits.{none}
use Rattle.receiver.proofs.Takes as K
use Rattle.receiver.proofs.Takes.{Carries, Took, took-all, stays_all}
use Rattle.arrival.specs.Channel.{back_to_back}
use Rattle.arrival.proofs.Sending.{AllCarry}

-- ---- what an accepted call finds

refusals : (x y z : Bool) → eqb (cond (not x) 3 (cond y 6 (cond z 10 0))) 0 ≡ true → (x ≡ true) × (y ≡ false) × (z ≡ false)
refusals true true true e = absurd (false≢true e)
refusals true true false e = absurd (false≢true e)
refusals true false true e = absurd (false≢true e)
refusals true false false e = (refl, refl, refl)
refusals false true true e = absurd (false≢true e)
refusals false true false e = absurd (false≢true e)
refusals false false true e = absurd (false≢true e)
refusals false false false e = absurd (false≢true e)

pub accepts : (r : Receiver) (a : List ℕ) (k out : ℕ) → eqb (receive_refusal r a k out) 0 ≡ true → (box_bytes ≤ length a) × (k ≤ 3) × (box_bytes ≤ out)
unfolding receive_refusal receiver_sound
accepts r a k out e =
    let h = refusals (receiver_sound r a) (ltb max_number k) (ltb out box_bytes) e in
    (leb-true box_bytes (length a) (all-at _ 0 h.0), ltb-false max_number k h.1, ltb-false out box_bytes h.2)

-- ---- the frames

abbrev pub slotted_by : (ℕ → List ℕ) → List ℕ → List Slotted
slotted_by at places = map (λ (i : ℕ). record { slot = i; frame = at i }) places

pub slotted-back : (at : ℕ → List ℕ) (places : List ℕ) → slotted (back_to_back (map at places)) (map length (map at places)) places ≡ slotted_by at places
unfolding slotted
slotted-back at [] = refl
slotted-back at (i ∷ places) =
    ap₂ (λ (f : List ℕ) (xs : List Slotted). record { slot = i; frame = f } ∷ xs) (take-append_seam (at i) (back_to_back (map at places)))
    (ap (λ (l : List ℕ). slotted l (map length (map at places)) places) (drop-append_seam (at i) (back_to_back (map at places))) ∙ slotted-back at places)

carries-none : (l : List ℕ) → Carries l []
unfolding num
carries-none l = record { whole = refl; within = omega arith; same = refl; bytes = λ i. omega arith }

pub carries-at : (l : List ℕ) (gs : List (List ℕ)) (i : ℕ) → AllCarry l gs → Carries l (get_or gs i [])
carries-at l [] i a = carries-none l
carries-at l (g ∷ gs) zero a = a.0
carries-at l (g ∷ gs) (suc i) a = carries-at l gs i a.1

sent-by : (l : List ℕ) (first : ℕ) (at : ℕ → List ℕ) → ((i : ℕ) → Carries l (at i)) → (places : List ℕ) → K.FromBurst l first at (slotted_by at places)
sent-by l first at c [] = tt
sent-by l first at c (i ∷ places) = (refl, c i, sent-by l first at c places)

-- ---- what the call makes of them

module _ (l : List ℕ) (first : ℕ) (h : first ≤ length l) (at : ℕ → List ℕ) (c : (i : ℕ) → Carries l (at i)) (places a : List ℕ) (big : box_bytes ≤ length a) (f : WindowFits (take box_bytes a) (drop first l)) where
  abbrev pub y : Taking × List ℕ
  y = all_taken first (slotted_by at places) (none_taken, take box_bytes a)

  pub took : Took l first at y
  took =
      took-all l first at h (slotted_by at places) (none_taken, take box_bytes a) (sent-by l first at c places)
      (record { length = omega (arith, length-take box_bytes a, big); fits = f; few = omega arith; small = omega arith; named = λ i b. absurd (none i b) })

  pub stays : (o : ℕ) → has first (take box_bytes a) o ≡ true → has (first + lead y.1) (moved y.1) o ≡ true
  stays o e = has-moved first y.1 o (stays_all l first at h (slotted_by at places) (none_taken, take box_bytes a) o e)

  pub window-is : take box_bytes (overwrite a 0 (moved y.1)) ≡ moved y.1
  window-is =
      let n : length (moved y.1) ≡ box_bytes = length_moved y.1 ∙ took.length in
      ap (λ (k : ℕ). take k (overwrite a 0 (moved y.1))) (sym n) ∙ part_same a 0 (moved y.1) (omega (arith, n, big))

  pub handed-is : (out : List ℕ) → box_bytes ≤ length out → take (lead y.1) (overwrite out 0 (W.handed y.1)) ≡ W.handed y.1
  handed-is out o =
      let k = drop-lead y.1 in
      let n : length (W.handed y.1) ≡ lead y.1 = omega (arith, length-map (take (lead y.1) y.1) W.kept_byte, length-take (lead y.1) y.1, k) in
      ap (λ (j : ℕ). take j (overwrite out 0 (W.handed y.1))) (sym n) ∙ part_same out 0 (W.handed y.1) (omega (arith, n, k, took.length, o))
