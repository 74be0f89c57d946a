-- How pieces lie on the offsets: what follows the code or serves proofs; nothing here has to be believed.
use Rattle.std.specs.Prelude.{ℕ, ◌+◌, ◌-◌, ◌≤◌, cond, List, [], ◌∷◌, ◌++◌, map, replicate}
use Rattle.std.proofs.Math.Option.{Option, none, some}
use Rattle.ledger.specs.Ledger.{Piece, len, end}
use Rattle.ledger.specs.Tally.{Flown}
use Rattle.ledger.specs.Cover.{ceil}

-- what of a flown byte is in flight: the byte, or nothing
abbrev pub flying_byte : Flown → Option ℕ
flying_byte f = cond f.acked none (some f.byte)

-- what the pieces have in flight at each offset from k up to n
abbrev pub flying_by_offset : ℕ → ℕ → List Piece → List (Option ℕ)
flying_by_offset k n [] = replicate (n - k) none
flying_by_offset k n (p ∷ ps) = replicate (p.off - k) none ++ (map some p.bytes ++ flying_by_offset (end p) n ps)

-- pieces of 1 to m bytes that ascend from offset k, don't overlap and end by n
abbrev pub Ascend : ℕ → ℕ → ℕ → List Piece → Type 0
Ascend m k n [] = k ≤ n
Ascend m k n (p ∷ ps) = (k ≤ p.off) × (1 ≤ len p) × (len p ≤ m) × Ascend m (end p) n ps

-- the sum of ceil (length / s): so many frames of payload s carry the pieces
abbrev pub short_frames : ℕ → List Piece → ℕ
short_frames s [] = 0
short_frames s (p ∷ ps) = ceil (len p) s + short_frames s ps
