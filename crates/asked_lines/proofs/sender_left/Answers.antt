-- `sender_left`: by whether a fresh one starts. Assumes nothing.
use mathlib.Core.Path.{refl}
use Rattle.laws.proofs.Picks.{cond_yes, cond_no}
use Rattle.asked_lines.specs.AskedLines.{sender_left}
use Rattle.asked_lines.proofs.sender_left.Goals as goal

pub returns-then-anew : goal.returns-then-anew
unfolding sender_left
returns-then-anew c = cond_yes _ _ _ _ c.if-anew.true c.fresh.ensures

pub returns : goal.returns
unfolding sender_left
returns c = cond_no _ _ _ _ c.if-anew.false refl
