-- `receptions`: by the line's first word. Assumes nothing.
use Rattle.laws.proofs.Picks.{cond_yes, cond_no}
use Rattle.box_calls.specs.BoxCalls.{receptions_said}
use Rattle.box_calls.proofs.receptions.Goals as goal

pub returns-then-receives : goal.returns-then-receives
unfolding receptions_said
returns-then-receives c =
    rw (← c.word-receives.ensures) (cond_yes _ _ _ _ c.if-receives.true c.receive.ensures)

pub returns-then-arrives : goal.returns-then-arrives
unfolding receptions_said
returns-then-arrives c =
    rw (← c.word-receives.ensures, ← c.word-arrives.ensures)
    (cond_no _ _ _ _ c.if-receives.false (cond_yes _ _ _ _ c.if-arrives.true c.arrive.ensures))

pub returns : goal.returns
unfolding receptions_said
returns c =
    rw (← c.word-receives.ensures, ← c.word-arrives.ensures, c.wrong.ensures, c.if-receives.false, c.if-arrives.false)
