-- The stores that make a frame, and its length.
-- Assumes nothing.
use mathlib.Core.Path.{◌≡◌, ap, ap₂, ◌∙◌}
use mathlib.Core.List.{List, ◌++◌}
use Prim.Native.Nat.{ℕ, ◌+◌, ◌-◌, ◌≤◌, ◌<◌}
use native.Mathlib.Nat.{min-le_left, min-le_right}
use native.Mathlib.Omega.{arith}
use lib.ListN.{length, replicate, length-append, length-replicate}
use Rattle.laws.specs.Bytes.{overwrite, part}
use Rattle.laws.proofs.Bytes.{over-cat, part_same}
use Rattle.laws.specs.Little.{le}
use Rattle.limits.specs.Limits.{longest_payload}
use Rattle.frame.specs.V42.{fcs, number}
use Rattle.frame.specs.Frame.{max_payload, head_of, body_of, frame_of}

-- a payload that is no longer than the most
pub frame-room : (size n : ℕ) → 10 ≤ size → n ≤ max_payload size → n + 10 ≤ size
frame-room size n h k = omega (arith, min-le_left (size - 10) longest_payload)

pub short : (size n : ℕ) → n ≤ max_payload size → n < 255
short size n k = omega (arith, min-le_right (size - 10) longest_payload)

pub length-body : (size off : ℕ) (payload : List ℕ) → length payload + 10 ≤ size → length (body_of size off payload) ≡ size - 4
length-body size off payload k =
    length-append (head_of off (length payload) ++ payload) (replicate (size - 10 - length payload) 0)
    ∙ ap₂ (λ (x y : ℕ). x + y) (length-append (head_of off (length payload)) payload) (length-replicate (size - 10 - length payload) 0)
    ∙ omega arith

pub length-frame : (size off : ℕ) (payload : List ℕ) → length payload + 10 ≤ size → length (frame_of size off payload) ≡ size
unfolding frame_of
length-frame size off payload k =
    length-append (body_of size off payload) (le 4 (number (fcs (body_of size off payload))))
    ∙ ap (λ (x : ℕ). x + 4) (length-body size off payload k) ∙ omega arith

module _ (o : List ℕ) (at size off : ℕ) (payload : List ℕ) (h : at + size ≤ length o) (k : length payload + 10 ≤ size) where
  -- head, payload and fill, one after the other
  pub body-made : (o1 o2 o3 : List ℕ) → o1 ≡ overwrite o at (head_of off (length payload)) → o2 ≡ overwrite o1 (at + 6) payload
      → o3 ≡ overwrite o2 (at + 6 + length payload) (replicate (size - 10 - length payload) 0)
      → o3 ≡ overwrite o at (body_of size off payload)
  body-made o1 o2 o3 e1 e2 e3 =
      let hp = head_of off (length payload) ++ payload in
      let e2' : o2 ≡ overwrite o at hp = e2 ∙ ap (λ (x : List ℕ). overwrite x (at + 6) payload) e1
      ∙ over-cat o at (head_of off (length payload)) payload in
      let p : at + 6 + length payload ≡ at + length hp = omega (arith, length-append (head_of off (length payload)) payload) in
      e3 ∙ ap₂ (λ (x : List ℕ) (i : ℕ). overwrite x i (replicate (size - 10 - length payload) 0)) e2' p
      ∙ over-cat o at hp (replicate (size - 10 - length payload) 0)

  -- then the check sum
  pub frame_made : (o3 o4 : List ℕ) (c : ℕ) → o3 ≡ overwrite o at (body_of size off payload)
      → c ≡ number (fcs (part o3 at (at + size - 4 - at)))
      → o4 ≡ overwrite o3 (at + size - 4) (le 4 c) → o4 ≡ overwrite o at (frame_of size off payload)
  unfolding frame_of
  frame_made o3 o4 c e3 ec e4 =
      let b = body_of size off payload in
      let n : at + size - 4 - at ≡ length b = omega (arith, length-body size off payload k) in
      let p : at + size - 4 ≡ at + length b = omega (arith, length-body size off payload k) in
      let ec' : c ≡ number (fcs b) =
      ec ∙ ap₂ (λ (x : List ℕ) (m : ℕ). number (fcs (part x at m))) e3 n
      ∙ ap (λ (x : List ℕ). number (fcs x)) (part_same o at b (omega (arith, length-body size off payload k))) in
      e4 ∙ (λ i. overwrite (e3 i) (p i) (le 4 (ec' i))) ∙ over-cat o at b (le 4 (number (fcs b)))
