-- The check sum byte by byte, as `crc32` of frame.rs reckons it; proofs/crc/Rule.antt proves it equal to V.42's rule, which the
-- contracts cite.
-- Follows the code or serves proofs: nothing here has to be believed.
use Rattle.std.specs.Prelude.{List, [], ◌∷◌, ℕ, zero, suc, ◌-◌, ◌*◌, ◌/◌, ◌%◌}
use Rattle.std.specs.Int.Bits.{bit_xor}

-- the generator's coefficients from x^31 down, the first the lowest bit
abbrev pub poly : ℕ
poly = 0xEDB88320

-- one bit leaves the register; where it is 1, the generator is added
unfoldable pub shift : ℕ → ℕ
shift c = bit_xor (c / 2) (c % 2 * poly)

unfoldable pub shifts : ℕ → ℕ → ℕ
unfolding shift
shifts zero c = c
shifts (suc n) c = shifts n (shift c)

-- the register after bytes
unfoldable pub feed_bytes : ℕ → List ℕ → ℕ
unfolding shifts
feed_bytes c [] = c
feed_bytes c (b ∷ bs) = feed_bytes (shifts 8 (bit_xor c b)) bs

-- all ones at first, and the complement at the end
unfoldable pub crc32 : List ℕ → ℕ
unfolding feed_bytes
crc32 bs = 4294967295 - feed_bytes 4294967295 bs
