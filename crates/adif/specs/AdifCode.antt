-- The link log: what the writer's steps leave. What follows the code or serves proofs; nothing here has to be believed.
use Rattle.std.specs.Prelude.{ℕ, ◌+◌, ◌≡◌, List, ◌++◌, length, Result, Ok, Err}
use Rattle.laws.specs.Bytes.{overwrite}
use Rattle.adif.specs.Adif.{written, date_text, time_text, number_of}
use Rattle.adif.specs.declared.Logged.{Logged}
use Rattle.adif.specs.declared.Refusal.{Refusal}

-- bs put into l at a place: what l is then, and the place behind them
abbrev pub Put : List ℕ → ℕ → List ℕ → List ℕ → ℕ → Type 0
Put l at bs l' r = (l' ≡ overwrite l at bs) × (r ≡ at + length bs)

-- the two fields of a second
abbrev pub moment : List ℕ → List ℕ → ℕ → List ℕ
moment dated timed t = written dated (date_text t) ++ written timed (time_text t)

-- ---- a refusal by its name

-- 0, or the refusal's number
abbrev pub told : {A : Type 0} → Result A Refusal → ℕ
told (Ok a) = 0
told (Err r) = number_of r

-- the answer of a call
abbrev pub answer_of : Result ℕ Refusal → Logged
answer_of (Ok n) = record { refusal = 0; len = n }
answer_of (Err r) = record { refusal = number_of r; len = 0 }
