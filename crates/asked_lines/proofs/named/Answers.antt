-- `named`: by its first word. Assumes nothing.
use mathlib.Core.Path.{refl}
use Rattle.laws.proofs.Picks.{cond_yes, cond_no}
use Rattle.asked_lines.specs.AskedLines.{line_call}
use Rattle.asked_lines.proofs.named.Goals as goal

pub returns-then-r : goal.returns-then-r
unfolding line_call
returns-then-r c = rw (← c.word-r.ensures) (cond_yes _ _ _ _ c.if-r.true refl)

pub returns : goal.returns
unfolding line_call
returns c = rw (← c.word-r.ensures) (cond_no _ _ _ _ c.if-r.false c.call_of.ensures)
