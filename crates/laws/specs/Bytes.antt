-- A run of bytes stored into a list, and a part of a list. Definitions only.
use Rattle.std.specs.Prelude.{List, [], ◌∷◌, ℕ, zero, suc, ◌<◌, take, drop, get_or}

-- `l` with the elements from place `at` on replaced by `bs`. The length stays: what would lie past the end is left out
unfoldable pub overwrite : List ℕ → ℕ → List ℕ → List ℕ
overwrite [] at bs = []
overwrite (x ∷ l) zero [] = x ∷ l
overwrite (x ∷ l) zero (b ∷ bs) = b ∷ overwrite l zero bs
overwrite (x ∷ l) (suc at) bs = x ∷ overwrite l at bs

-- the n elements of `l` from place `at` on
abbrev pub part : List ℕ → ℕ → ℕ → List ℕ
part l at n = take n (drop at l)

-- each element is a byte
abbrev pub Bytes : List ℕ → Type 0
Bytes l = (i : ℕ) → get_or l i 0 < 256
