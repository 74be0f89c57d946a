-- `text::float` meets its contract.
use mathlib.Core.Path.{refl, ap}
use mathlib.Core.List.{◌++◌}
use Prim.Native.Nat.{ℕ}
use Rattle.laws.proofs.Picks.{cond_yes, cond_no}
use Rattle.laws.specs.Text.{text}
use Rattle.text.specs.Digits.{hex_digits}
use Rattle.text.proofs.Laws.{appends, told, ◌⨾◌}
use Rattle.text.proofs.float.Goals as goal

pub returns-then-zero : goal.returns-then-zero
returns-then-zero c =
    let digits = λ (m : ℕ). text " 0x" ++ hex_digits c.args.k m in
    told (appends c.puts-n.ensures ⨾ appends c.hexadecimal.ensures)
    (cond_no _ _ _ _ c.if-nan.false (ap digits (cond_yes _ _ _ _ c.if-zero.true refl)))

pub returns : goal.returns
returns c =
    let digits = λ (m : ℕ). text " 0x" ++ hex_digits c.args.k m in
    told (appends c.puts-n.ensures ⨾ appends c.hexadecimal-2.ensures)
    (cond_no _ _ _ _ c.if-nan.false (ap digits (cond_no _ _ _ _ c.if-zero.false refl)))
