-- `replied`: by the first word. Assumes nothing.
use mathlib.Core.Path.{refl}
use Rattle.laws.proofs.Picks.{cond_yes, cond_no}
use Rattle.line_steps.specs.LineSteps.{reply_as_long}
use Rattle.line_steps.proofs.replied.Goals as goal

pub returns-then-r : goal.returns-then-r
unfolding reply_as_long
returns-then-r c =
    let d = c in
    rw (← d.word-r.ensures) (cond_yes _ _ _ _ d.if-r.true c.reply_line.ensures)

pub returns : goal.returns
unfolding reply_as_long
returns c = rw (← c.word-r.ensures) (cond_no _ _ _ _ c.if-r.false refl)
