-- The u32 at a place is what four bytes there are worth. Assumes nothing.
use Rattle.std.specs.Prelude.{List, ℕ, ◌≡◌, refl}
use Rattle.laws.specs.Bytes.{part}
use Rattle.laws.specs.Little.{num, load}

pub load_is : (l : List ℕ) (at : ℕ) → load l at ≡ num (part l at 4)
unfolding load
load_is l at = refl
