-- `text::hexadecimal` meets its contract.
use mathlib.Core.Path.{sym, ap, ◌∙◌}
use Prim.Native.Nat.{ℕ}
use native.Mathlib.Omega.{arith}
use Rattle.text.specs.Digits.{hex_digits}
use Rattle.text.proofs.Digits.{hex-none, hex-more}
use Rattle.text.proofs.Laws.{appends, told, ◌⨾◌, nothing}
use Rattle.text.proofs.+hexadecimal.Goals as goal

pub returns-then-k-eq0 : goal.returns-then-k-eq0
returns-then-k-eq0 t c = told (nothing _) (sym (ap (λ (k : ℕ). hex_digits k c.args.x) c.if-k-eq0.true ∙ hex-none _))

pub returns : goal.returns
returns t c = told (appends c.hexadecimal-n.ensures ⨾ appends c.digit.ensures) (sym (hex-more _ _ (omega arith)))
