-- A buffer of which some bytes are used, and text put behind them. Definitions only.
use Rattle.std.specs.Prelude.{cond, List, [], ◌∷◌, ◌++◌, ℕ, ◌+◌, ltb, length, set}

-- one character at the place n of the buffer t, and the place after it. A full buffer stays as it is: the character is left out
abbrev pub put : ℕ × List ℕ → ℕ → ℕ × List ℕ
put (n, t) c = (cond (ltb n (length t)) (n + 1) n, set t n c)

-- the characters of a list, one after the other: how much of the buffer is used then, and the buffer
unfoldable pub appended : ℕ × List ℕ → List ℕ → ℕ × List ℕ
appended b [] = b
appended b (c ∷ s) = appended (put b c) s

-- the text of each entry of a list, one after the other
unfoldable pub each : {A : Type 0} → (A → List ℕ) → List A → List ℕ
each f [] = []
each f (x ∷ xs) = f x ++ each f xs
