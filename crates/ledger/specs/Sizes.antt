-- A profile's frame sizes, as the ledger needs them. Definitions only.
use Rattle.std.specs.Prelude.{ℕ}

-- What a profile fixes for the ledger: payload of a short frame, payload of a long one, and the bits below which a piece is held
pub record Sizes : Type 0 where
  pub short : ℕ
  pub long : ℕ
  pub top : ℕ
