-- `verdicts::is_early` meets its contract.
use mathlib.Core.Path.{sym, ap, ◌∙◌}
use Prim.Native.Nat.{ℕ}
use lib.Dec.{leb}
use Rattle.verdicts.proofs.Passed.{early}
use Rattle.verdicts.proofs.is_early.Goals as goal

pub returns-in-Err : goal.returns-in-Err
returns-in-Err c = ap (λ (k : ℕ). leb k 3) c.from.ensures ∙ sym (early _ _ c.in-Err.is)
