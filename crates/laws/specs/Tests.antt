-- Several tests as one. Definitions only.
use Rattle.std.specs.Prelude.{Bool, true, ◌&&◌, List, [], ◌∷◌}

-- all of the tests pass
unfoldable pub all : List Bool → Bool
all [] = true
all (b ∷ []) = b
all (b ∷ c ∷ bs) = b && all (c ∷ bs)
