-- `label_of` meets its contract.
use mathlib.Core.Path.{refl}
use Rattle.laws.proofs.Picks.{cond_yes, cond_no}
use Rattle.call_lines.proofs.label_of.Goals as goal

pub returns-then-labelled : goal.returns-then-labelled
returns-then-labelled c = cond_yes _ _ _ _ c.if-labelled.true refl

pub returns : goal.returns
returns c = cond_no _ _ _ _ c.if-labelled.false refl
