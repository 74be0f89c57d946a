-- The frames of a burst on the air. Assumes nothing.
use Prim.Native.Nat.{ℕ, zero, suc, ◌+◌, ◌-◌, ◌*◌, ◌≤◌, ◌<◌}
use mathlib.Core.Path.{◌≡◌, refl, sym, ap, ap₂, ◌∙◌, subst}
use mathlib.Core.List.{List, [], ◌∷◌, ◌++◌, map, append_assoc}
use native.Mathlib.Nat.{suc-mul, zero-mul, add_comm}
use native.Mathlib.Omega.{arith}
use lib.ListN.{length, take, drop, length-append, length-take, length-drop}
use lib.Seq.{take_at, drop_at}
use Rattle.laws.specs.Bytes.{overwrite, Bytes}
use Rattle.laws.proofs.Bytes.{over-eq}
use Rattle.laws.proofs.Little.{bytes_take, bytes_drop}
use Rattle.frame.specs.Frame.{frame_of}
use Rattle.frame.proofs.Laws.{length-frame}
use Rattle.ledger.specs.Ledger.{Frame}
use Rattle.ledger.specs.Tally.{furthest}
use Rattle.receiver.specs.Frames.{len_of, off_of, offsets}
use Rattle.receiver.proofs.Takes.{Carries}
use Rattle.receiver.proofs.Sent.{length-read-back, sent-offset, sent-carries}
use Rattle.demand.specs.Page.{Taken, WithRoom, frames_of_taken}
use Rattle.demand.proofs.Payloads.{take-drop-more}
use Rattle.arrival.specs.Channel.{cut_into}

module _ (size : ℕ) (b : List ℕ) where
  -- the bytes that a frame carries, of the bytes b by offset
  abbrev pub carried : Frame → List ℕ
  carried f = take f.len (drop f.off b)

  abbrev pub frames_by : List Frame → List (List ℕ)
  frames_by fs = map (λ (f : Frame). frame_of size f.off (carried f)) fs

  length-carried : (f : Frame) → f.off + f.len ≤ length b → length (carried f) ≡ f.len
  length-carried f h = omega (arith, length-take f.len (drop f.off b), length-drop f.off b, h)

  one-long : (f : Frame) (fs : List Frame) → WithRoom size (f ∷ fs) → Taken b (f ∷ fs) → length (frame_of size f.off (carried f)) ≡ size
  one-long f fs r t = length-frame size f.off (carried f) (omega (arith, r.0, length-carried f t.1))

  all-long : (fs : List Frame) → WithRoom size fs → Taken b fs → length (frames_of_taken size b fs) ≡ length fs * size
  all-long [] r t = sym (zero-mul size)
  all-long (f ∷ fs) r t =
      length-append (frame_of size f.off (carried f)) (frames_of_taken size b fs)
      ∙ ap₂ ◌+◌ (one-long f fs r t) (all-long fs r.1 t.2) ∙ (add_comm size (length fs * size) ∙ sym (suc-mul (length fs) size))

  cut-tail : (fs : List Frame) (rest : List ℕ) → WithRoom size fs → Taken b fs → cut_into size (length fs) (frames_of_taken size b fs ++ rest) ≡ frames_by fs
  cut-tail [] rest r t = refl
  cut-tail (f ∷ fs) rest r t =
      let x = frame_of size f.off (carried f) in
      let e = one-long f fs r t in
      let a = append_assoc x (frames_of_taken size b fs) rest in
      ap₂ ◌∷◌ (ap (take size) a ∙ take_at x (frames_of_taken size b fs ++ rest) size e)
      (ap (cut_into size (length fs)) (ap (drop size) a ∙ drop_at x (frames_of_taken size b fs ++ rest) size e) ∙ cut-tail fs rest r.1 t.2)

  -- the output, cut at the frame size, has the frames
  pub cut-frames : (fs : List Frame) (out : List ℕ) → WithRoom size fs → Taken b fs → length fs * size ≤ length out
      → cut_into size (length fs) (overwrite out 0 (frames_of_taken size b fs)) ≡ frames_by fs
  cut-frames fs out r t l =
      ap (cut_into size (length fs)) (over-eq out 0 (frames_of_taken size b fs) (omega (arith, all-long fs r t, l)))
      ∙ cut-tail fs (drop (0 + length (frames_of_taken size b fs)) out) r t

-- ---- they are read as the tally is told of them, and carry the flown bytes

abbrev pub Matches : List Frame → List (List ℕ) → Type 0
Matches [] gs = Unit {0}
Matches (f ∷ fs) [] = ⊥
Matches (f ∷ fs) (g ∷ gs) = (off_of g ≡ f.off) × (len_of g ≡ f.len) × Matches fs gs

abbrev pub AllCarry : List ℕ → List (List ℕ) → Type 0
AllCarry l [] = Unit {0}
AllCarry l (g ∷ gs) = Carries l g × AllCarry l gs

-- frames of bytes taken lie within those of them that fly: up to the furthest frame's end
pub taken-flies : (b l : List ℕ) (m : ℕ) → ((k : ℕ) → k ≤ length b → k ≤ m → k ≤ length l) → (fs : List Frame) → furthest fs ≤ m → Taken b fs → Taken l fs
taken-flies b l m g [] h t = tt
taken-flies b l m g (f ∷ fs) h t = (t.0, g (f.off + f.len) t.1 (omega (arith, h)), taken-flies b l m g fs (omega (arith, h)) t.2)

-- b are the bytes l that fly, and those that wait
module _ (size : ℕ) (b l rest : List ℕ) (is : b ≡ l ++ rest) (few : length b ≤ offsets) where
  pub sent-matches : (fs : List Frame) → Taken b fs → Matches fs (frames_by size b fs)
  sent-matches [] t = tt
  sent-matches (f ∷ fs) t = (
    sent-offset size f.off (carried size b f) (omega (arith, t.0, t.1, few)),
    length-read-back size f.off (carried size b f) ∙ length-carried size b f t.1,
    sent-matches fs t.2,
  )

  same-carried : (f : Frame) → f.off + f.len ≤ length l → carried size b f ≡ take f.len (drop f.off l)
  same-carried f h =
      ap (λ (x : List ℕ). take f.len (drop f.off x)) is
      ∙ take-drop-more f.len f.off l rest (omega (arith, length-take f.len (drop f.off l), length-drop f.off l, h))

  pub sent-carry : Bytes l → (fs : List Frame) → Taken b fs → Taken l fs → AllCarry l (frames_by size b fs)
  sent-carry y [] t u = tt
  sent-carry y (f ∷ fs) t u =
      let e = same-carried f u.1 in
      let n = length-carried size b f t.1 in (
        sent-carries size f.off (carried size b f) l (subst Bytes (sym e) (bytes_take f.len (drop f.off l) (bytes_drop f.off l y)))
            (omega (arith, t.0, t.1, few)) (omega (arith, n, u.1)) (e ∙ ap (λ (k : ℕ). take k (drop f.off l)) (sym n)),
        sent-carry y fs t.2 u.2,
      )
