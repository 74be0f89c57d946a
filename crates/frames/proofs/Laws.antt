-- Laws of the frames: a turn of the loop that writes them.
-- Assumes nothing.
use mathlib.Core.Path.{◌≡◌, sym, ap, ◌∙◌, subst}
use mathlib.Core.List.{List, ◌∷◌}
use Prim.Native.Nat.{ℕ, suc, ◌+◌, ◌-◌, ◌≤◌, ◌<◌}
use native.Mathlib.Omega.{arith}
use lib.ListN.{length, length-append}
use Rattle.laws.specs.Bytes.{overwrite, part}
use Rattle.laws.proofs.Bytes.{over-cat, length_part}
use Rattle.frame.specs.Frame.{frame_of, max_payload}
use Rattle.frame.proofs.Laws.{length-frame}
use Rattle.frames.specs.Slots.{nth_slot, slots_from}
use Rattle.frames.specs.declared.slots.Slot.{Slot}
use Rattle.frames.specs.declared.slots.Slots.{Slots}
use Rattle.frames.specs.Frames.{frames_written, SlotsFit}

slots-turn : (s : Slots) (i n : ℕ) → i < n → slots_from s i (n - i) ≡ nth_slot s i ∷ slots_from s (i + 1) (n - (i + 1))
slots-turn s i n h = ap (slots_from s i) (let e : n - i ≡ suc (n - (i + 1)) = omega arith in e)

module _ (size : ℕ) (a : List ℕ) (s : Slots) (i n : ℕ) (z : 10 ≤ size) (h : i < n) (f : SlotsFit size (length a) (slots_from s i (n - i))) where
  pub fit-turn : ((nth_slot s i).len ≤ max_payload size) × ((nth_slot s i).start + (nth_slot s i).len ≤ length a) × SlotsFit size (length a) (slots_from s (i + 1) (n - (i + 1)))
  fit-turn = subst (λ (x : List Slot). SlotsFit size (length a) x) (slots-turn s i n h) f

  abbrev one : List ℕ
  one = frame_of size (nth_slot s i).off (part a (nth_slot s i).start (nth_slot s i).len)

  frame-long : length one ≡ size
  frame-long = length-frame size (nth_slot s i).off (part a (nth_slot s i).start (nth_slot s i).len) (omega (arith, length_part a (nth_slot s i).start (nth_slot s i).len fit-turn.1, fit-turn.0))

  pub frames-long : length (frames_written size (slots_from s i (n - i)) a) ≡ size + length (frames_written size (slots_from s (i + 1) (n - (i + 1))) a)
  unfolding frames_written
  frames-long =
      ap (λ (x : List Slot). length (frames_written size x a)) (slots-turn s i n h) ∙ length-append one (frames_written size (slots_from s (i + 1) (n - (i + 1))) a)
      ∙ ap (λ (k : ℕ). k + length (frames_written size (slots_from s (i + 1) (n - (i + 1))) a)) frame-long

  pub frames-turn : (o : List ℕ) (at : ℕ) → overwrite o at (frames_written size (slots_from s i (n - i)) a) ≡ overwrite (overwrite o at one) (at + size) (frames_written size (slots_from s (i + 1) (n - (i + 1))) a)
  unfolding frames_written
  frames-turn o at =
      ap (λ (x : List Slot). overwrite o at (frames_written size x a)) (slots-turn s i n h) ∙ sym (over-cat o at one (frames_written size (slots_from s (i + 1) (n - (i + 1))) a))
      ∙ ap (λ (k : ℕ). overwrite (overwrite o at one) (at + k) (frames_written size (slots_from s (i + 1) (n - (i + 1))) a)) frame-long
