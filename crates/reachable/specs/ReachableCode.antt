-- What the code's tests answer: nothing here has to be believed. Definitions only.
use Rattle.std.specs.Prelude.{ℕ, Result, Ok, Err}
use Rattle.reachable.specs.declared.Refusal.{Refusal}
use Rattle.reachable.specs.Reachable.{number_of}

-- 0, or the refusal's number
abbrev pub told : {A : Type 0} → Result A Refusal → ℕ
told (Ok a) = 0
told (Err r) = number_of r
