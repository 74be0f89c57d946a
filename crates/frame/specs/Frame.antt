-- frame.rs: a data frame's bytes (document 01, module 1). Definitions only.
use Rattle.std.specs.Prelude.{List, [], ◌∷◌, ◌++◌, ℕ, ◌-◌, min, length, replicate}
use Rattle.laws.specs.Little.{le}
use Rattle.limits.specs.Limits.{longest_payload}
use Rattle.frame.specs.V42.{fcs, number}

-- Frame::max_payload, and "a payload has at most 254 bytes" (document 02, Change 5): min(size - 10, 254)
abbrev pub max_payload : ℕ → ℕ
max_payload size = min (size - 10) longest_payload

-- kind 3, flags 0, the offset's low 24 bits low byte first, length
abbrev pub head_of : ℕ → ℕ → List ℕ
head_of off n = 3 ∷ 0 ∷ (le 3 off ++ (n ∷ []))

-- all but the check sum: head, payload, zero fill
abbrev pub body_of : ℕ → ℕ → List ℕ → List ℕ
body_of size off payload = (head_of off (length payload) ++ payload) ++ replicate (size - 10 - length payload) 0

-- Frame::encode of a data frame: behind the body its check sequence by V.42's rule, as a number low byte first
unfoldable pub frame_of : ℕ → ℕ → List ℕ → List ℕ
frame_of size off payload = body_of size off payload ++ le 4 (number (fcs (body_of size off payload)))
