-- A quoted text as the list of its characters. Definitions only.
use mathlib.Core.List as L
use Rattle.std.specs.Prelude.{ℕ}
use Prim.Native.String.{String, [], ◌∷◌}
use Prim.Native.Char.{code}

abbrev pub text : String → L.List ℕ
text [] = L.[]
text (c ∷ s) = L.◌∷◌ (code c) (text s)
