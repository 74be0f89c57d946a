-- What a receiver makes of a burst's frames. Definitions only.
use Rattle.std.specs.Prelude.{ℕ, ◌+◌, ◌^◌, cond, ◌&&◌, List, [], ◌∷◌, take, drop}
use Rattle.window.specs.Window.{keep_from}
use Rattle.receiver.specs.declared.Taking.{Taking}
use Rattle.receiver.specs.Frames.{Slotted, off_of, payload_of, frame_ok, slot_ok, reach_ok}

abbrev pub none_taken : Taking
none_taken = record { least = 0; bitmap = 0; wrong = 0; beyond = 0 }

abbrev pub left_out : Taking → Taking
left_out t = record { least = t.least; bitmap = t.bitmap; wrong = t.wrong + 1; beyond = t.beyond }

abbrev pub too_far : Taking → Taking
too_far t = record { least = t.least; bitmap = t.bitmap; wrong = t.wrong; beyond = t.beyond + 1 }

abbrev pub took_slot : Taking → ℕ → Taking
took_slot t s = record { least = s + 1; bitmap = t.bitmap + 2 ^ s; wrong = t.wrong; beyond = t.beyond }

module _ (first : ℕ) where
  -- one frame, with the window
  unfoldable pub take_one : Slotted → Taking × List ℕ → Taking × List ℕ
  take_one x y =
      cond (slot_ok y.0.least x.slot && frame_ok x.frame)
      (cond (reach_ok first x.frame) (took_slot y.0 x.slot, keep_from first (off_of x.frame) (payload_of x.frame) y.1) (too_far y.0, y.1))
      (left_out y.0, y.1)

  unfoldable pub all_taken : List Slotted → Taking × List ℕ → Taking × List ℕ
  all_taken [] y = y
  all_taken (x ∷ xs) y = all_taken xs (take_one x y)

-- the frames lie back to back: `sizes` are their lengths, `slots` their slot numbers. "each with its slot number"
unfoldable pub slotted : List ℕ → List ℕ → List ℕ → List Slotted
slotted bs [] ss = []
slotted bs (z ∷ zs) [] = []
slotted bs (z ∷ zs) (s ∷ ss) = record { slot = s; frame = take z bs } ∷ slotted (drop z bs) zs ss
