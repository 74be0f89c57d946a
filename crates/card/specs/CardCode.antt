-- What the writers of a card's parts ensure: nothing here has to be believed. Definitions only.
use Rattle.std.specs.Prelude.{ℕ, ◌≡◌, List, length}
use Rattle.laws.specs.Bytes.{overwrite}

-- n bytes bs were written at a place, and nothing else
abbrev pub Puts : List ℕ → List ℕ → ℕ → List ℕ → ℕ → Type 0
Puts was is i bs n = (is ≡ overwrite was i bs) × (length bs ≡ n)
