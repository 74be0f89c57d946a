-- The slots of a burst out of the re-cut rows, and where their bytes lie. Definitions only.
use Rattle.std.specs.Prelude.{List, [], ◌∷◌, ◌++◌, ℕ}
use Rattle.frame.specs.Frame.{frame_of}
use Rattle.ledger.specs.Ledger.{Piece, Sent, find}

-- out of re-cut rows; os and hs: offsets and bits of the held list that the burst keeps
-- the frames of a burst, of `size` bytes each, back to back: each with the bytes of its piece
abbrev pub frames_sent : ℕ → List Piece → List Sent → List ℕ
frames_sent size ps [] = []
frames_sent size ps (f ∷ fs) = frame_of size f.off (find f.off ps) ++ frames_sent size ps fs
