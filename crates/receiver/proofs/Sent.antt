-- A frame that the sender wrote is read back. Assumes nothing.
use Prim.Native.Nat.{ℕ, zero, suc, ◌+◌, ◌-◌, ◌^◌, ◌≤◌, ◌<◌}
use mathlib.Core.Path.{◌≡◌, refl, sym, ap, ap₂, ◌∙◌, subst}
use mathlib.Core.List.{List, [], ◌∷◌, ◌++◌}
use native.Mathlib.Omega.{arith}
use lib.ListN.{length, take, drop, get_or, replicate, length-append}
use lib.Seq.{take-append_seam, take-append-le, take_at, drop_at}
use Rattle.laws.specs.Little.{num, le}
use Rattle.laws.specs.Bytes.{Bytes}
use Rattle.laws.proofs.Little.{num-le4}
use Rattle.frame.specs.Crc.{crc32}
use Rattle.frame.specs.Frame.{head_of, body_of, frame_of}
use Rattle.frame.specs.V42.{fcs, number}
use Rattle.receiver.specs.Frames.{len_of, off_of, payload_of, sum_ok, head_ok, frame_ok, slot_ok}
use Rattle.receiver.proofs.Takes.{Carries}
use mathlib.Core.Bool.{true}
use borrow.Author.Tests.{eq-eqb}
use Rattle.laws.proofs.Picks.{and_yes}
use Rattle.frame.proofs.Laws.{length-body, length-frame}
use Rattle.frame.proofs.crc.Rule.{v42}
use Rattle.window.specs.Window.{keep_from}
use Rattle.receiver.specs.declared.Taking.{Taking}
use Rattle.receiver.specs.Taking.{took_slot, take_one}
use Rattle.receiver.proofs.Reading.{head-is, within}
use Rattle.receiver.proofs.Steps.{taken}

module _ (size off : ℕ) (payload : List ℕ) where
  pub length-read-back : len_of (frame_of size off payload) ≡ length payload
  unfolding frame_of
  length-read-back = refl

  pub sent-offset : off < 16777216 → off_of (frame_of size off payload) ≡ off
  unfolding frame_of num
  sent-offset h = omega (arith, h)

  pub sent-payload : payload_of (frame_of size off payload) ≡ payload
  unfolding frame_of
  sent-payload =
      let z = replicate {A = ℕ} (size - 10 - length payload) 0 in
      let c = le 4 (number (fcs (body_of size off payload))) in
      take-append-le (length payload) (payload ++ z) c (omega (arith, length-append payload z)) ∙ take-append_seam payload z

  pub sent-carries : (l : List ℕ) → Bytes payload → off < 16777216 → off + length payload ≤ length l → payload ≡ take (length payload) (drop off l) → Carries l (frame_of size off payload)
  sent-carries l b h w e =
      record {
        whole = ap length sent-payload ∙ sym length-read-back;
        within = omega (arith, length-read-back, sent-offset h, w);
        same = sent-payload ∙ e ∙ ap₂ (λ (n k : ℕ). take n (drop k l)) (sym length-read-back) (sym (sent-offset h));
        bytes = λ i. subst (λ (x : List ℕ). get_or x i 0 < 256) (sym sent-payload) (b i);
      }

sum-small : (bs : List ℕ) → Bytes bs → number (fcs bs) < 2 ^ 32
unfolding crc32
sum-small bs b = omega (arith, v42 bs b)

both : (xs ys : List ℕ) → Bytes xs → Bytes ys → Bytes (xs ++ ys)
both [] ys a b i = b i
both (x ∷ xs) ys a b zero = a 0
both (x ∷ xs) ys a b (suc i) = both xs ys (λ j. a (suc j)) b i

zeros : (n : ℕ) → Bytes (replicate n 0)
zeros zero i = omega arith
zeros (suc n) zero = omega arith
zeros (suc n) (suc i) = zeros n i

head_bytes : (off n : ℕ) → n < 256 → Bytes (head_of off n)
head_bytes off n h zero = omega arith
head_bytes off n h (suc zero) = omega arith
head_bytes off n h (suc (suc zero)) = omega arith
head_bytes off n h (suc (suc (suc zero))) = omega arith
head_bytes off n h (suc (suc (suc (suc zero)))) = omega arith
head_bytes off n h (suc (suc (suc (suc (suc zero))))) = h
head_bytes off n h (suc (suc (suc (suc (suc (suc i)))))) = omega arith

body_bytes : (size off : ℕ) (payload : List ℕ) → length payload < 256 → Bytes payload → Bytes (body_of size off payload)
body_bytes size off payload h b =
    both (head_of off (length payload) ++ payload) (replicate (size - 10 - length payload) 0)
    (both (head_of off (length payload)) payload (head_bytes off (length payload) h) b) (zeros (size - 10 - length payload))

-- the receiver is not deaf: it takes such a frame of 18 to 512 bytes with 1 to 254 of payload
module _ (size off : ℕ) (payload : List ℕ) (typed : Bytes payload) (room : length payload + 10 ≤ size) where
  sent-sum : length payload ≤ 254 → sum_ok (frame_of size off payload) ≡ true
  unfolding frame_of
  sent-sum m =
      let b = body_of size off payload in
      let c = le 4 (number (fcs b)) in
      let n : length b ≡ length (frame_of size off payload) - 4 = omega (arith, length-body size off payload room, length-frame size off payload room) in
      eq-eqb _ _ (ap (λ (x : List ℕ). number (fcs x)) (take_at b c (length (frame_of size off payload) - 4) n)
      ∙ sym (ap num (drop_at b c (length (frame_of size off payload) - 4) n) ∙ num-le4 (number (fcs b)) (sum-small b (body_bytes size off payload (omega (arith, m)) typed))))

  pub sent-ok : 18 ≤ size → size ≤ 512 → 1 ≤ length payload → length payload ≤ 254 → frame_ok (frame_of size off payload) ≡ true
  unfolding frame_of
  sent-ok h k l m =
      let f = frame_of size off payload in
      let n = length-frame size off payload room in
      and_yes (head_ok f) (sum_ok f) (head-is f (omega (arith, n, h)) (omega (arith, n, k)) refl l m (omega (arith, n, room))) (sent-sum m)

  pub sent-taken : 18 ≤ size → size ≤ 512 → 1 ≤ length payload → length payload ≤ 254 → off < 16777216 → (first slot : ℕ) (t : Taking) (w : List ℕ) → slot_ok t.least slot ≡ true
      → off + length payload ≤ first + 32768 → off + length payload ≤ 16777216
      → (took_slot t slot, keep_from first off payload w) ≡ take_one first (record { slot = slot; frame = frame_of size off payload }) (t, w)
  sent-taken h k l m o first slot t w s f g =
      let eo = sent-offset size off payload o in
      taken first (record { slot = slot; frame = frame_of size off payload }) t w s (sent-ok h k l m) _
      (within first (frame_of size off payload) off (length payload) (sym eo) (sym (length-read-back size off payload)) f g)
      (ap₂ (λ (x : ℕ) (bs : List ℕ). keep_from first x bs w) (sym eo) (sym (sent-payload size off payload)))
