-- What an exported call leaves: what follows the code or serves proofs; nothing here has to be believed.
use Rattle.std.specs.Prelude.{cond, ℕ, eqb}

-- what lies behind a reference after a call that found t there and answers with this number and this next value
abbrev pub kept : {A : Type 0} → A → ℕ → A → A
kept t refusal next = cond (eqb refusal 0) next t
