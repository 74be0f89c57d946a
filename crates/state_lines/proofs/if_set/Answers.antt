-- `state_lines::if_set` meets its contract.
use mathlib.Core.Path.{refl}
use Rattle.laws.proofs.Picks.{cond_no}
use Rattle.text.proofs.Texts.{told, nothing}
use Rattle.state_lines.proofs.if_set.Goals as goal

pub returns-else-set : goal.returns-else-set
returns-else-set c = told (nothing _) (cond_no _ _ _ _ c.if-set.false refl)
