-- The frames of a burst, back to back (`data_burst` of sender.rs). Follows the code or serves proofs: nothing here has to be believed.
use Rattle.std.specs.Prelude.{List, [], ◌∷◌, ◌++◌, ℕ, ◌+◌, ◌≤◌}
use Rattle.laws.specs.Bytes.{part}
use Rattle.frame.specs.Frame.{frame_of, max_payload}
use Rattle.frames.specs.declared.slots.Slot.{Slot}

-- each slot's frame of `size` bytes, with the piece's bytes out of the work area
unfoldable pub frames_written : ℕ → List Slot → List ℕ → List ℕ
frames_written size [] a = []
frames_written size (x ∷ xs) a = frame_of size x.off (part a x.start x.len) ++ frames_written size xs a

-- each slot's bytes lie within n bytes, and fit a frame
abbrev pub SlotsFit : ℕ → ℕ → List Slot → Type 0
SlotsFit size n [] = Unit {0}
SlotsFit size n (x ∷ xs) = (x.len ≤ max_payload size) × (x.start + x.len ≤ n) × SlotsFit size n xs
