-- The bytes that a receiver keeps, from the first missing one on: a place for each of 32,768 offsets. Definitions only.
use Rattle.std.specs.Prelude.{ℕ, zero, suc, ◌+◌, ◌-◌, ◌%◌, Bool, cond, List, [], ◌∷◌, ◌++◌, map, leb, take, drop, replicate}

-- a place holds nothing below 256, and the byte v - 256 from there on
abbrev pub is_kept : ℕ → Bool
is_kept v = leb 256 v

abbrev pub kept_byte : ℕ → ℕ
kept_byte v = v % 256

-- bytes from place d on; "a byte kept first stays"
unfoldable pub keep_at : ℕ → List ℕ → List ℕ → List ℕ
keep_at d bs [] = []
keep_at zero [] (v ∷ w) = v ∷ w
keep_at zero (b ∷ bs) (v ∷ w) = cond (is_kept v) v (256 + b) ∷ keep_at zero bs w
keep_at (suc d) bs (v ∷ w) = v ∷ keep_at d bs w

-- the bytes from offset `off` on, where the first missing one is `first`: those before it have been handed on
abbrev pub keep_from : ℕ → ℕ → List ℕ → List ℕ → List ℕ
keep_from first off bs w = keep_at (off - first) (drop (first - off) bs) w

-- how many bytes go on: those kept without a gap
unfoldable pub lead : List ℕ → ℕ
lead [] = 0
lead (v ∷ w) = cond (is_kept v) (suc (lead w)) 0

abbrev pub handed : List ℕ → List ℕ
handed w = map kept_byte (take (lead w) w)

-- and what stays: the first missing byte is the first place again
abbrev pub moved : List ℕ → List ℕ
moved w = drop (lead w) w ++ replicate (lead w) 0
