-- What proofs say of a window.
-- Follows the code or serves proofs: nothing here has to be believed.
use Rattle.std.specs.Prelude.{ℕ, ◌-◌, Bool, ◌||◌, List, ltb, get_or}
use Rattle.window.specs.Window.{is_kept}

-- offset o has been handed on or is kept
abbrev pub has : ℕ → List ℕ → ℕ → Bool
has first w o = ltb o first || is_kept (get_or w (o - first) 0)
