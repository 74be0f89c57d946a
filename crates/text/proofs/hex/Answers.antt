-- `text::hex` meets its contract.
use mathlib.Core.Path.{sym}
use Rattle.text.proofs.Digits.{hex-empty, hex-some}
use Rattle.text.proofs.Laws.{appends, told, ◌⨾◌}
use Rattle.text.proofs.hex.Goals as goal

pub returns-then-a-eq0 : goal.returns-then-a-eq0
returns-then-a-eq0 c = told (appends c.puts.ensures) (sym (hex-empty _ c.if-a-eq0.true))

pub returns : goal.returns
returns c = told (appends c.puts-n.ensures ⨾ appends c.pairs.ensures) (sym (hex-some _ c.if-a-eq0.false))
