-- Numbers as bytes, low byte first. Definitions only.
use Rattle.std.specs.Prelude.{List, [], ◌∷◌, ℕ, zero, suc, ◌+◌, ◌*◌, ◌/◌, ◌%◌}
use Rattle.laws.specs.Bytes.{part}

-- the number that bytes spell
unfoldable pub num : List ℕ → ℕ
num [] = 0
num (b ∷ bs) = b + 256 * num bs

-- a number's low k bytes
abbrev pub le : ℕ → ℕ → List ℕ
le zero v = []
le (suc k) v = (v % 256) ∷ le k (v / 256)

-- the u32 at a place
unfoldable pub load : List ℕ → ℕ → ℕ
load a at = num (part a at 4)
