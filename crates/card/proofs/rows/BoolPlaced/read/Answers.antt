-- `rows::bool` is read from its byte. Assumes nothing.
use Prim.Native.Nat.{ℕ}
use mathlib.Core.Path.{sym, ap}
use native.Mathlib.Omega.{arith}
use lib.Dec.{eqb}
use Rattle.card.proofs.Row.{byte_at}
use Rattle.card.proofs.rows.BoolPlaced.read.Goals as goal

pub returns : goal.returns
returns c = ap (λ (n : ℕ). eqb n 1) (sym (byte_at c.args.a.now c.args.at (omega arith)))
