-- `show`: by whether its line ends there. Assumes nothing.
use Rattle.laws.proofs.Picks.{told-yes, told-no}
use Rattle.box_calls.specs.BoxCalls.{show_said}
use Rattle.box_calls.proofs.Laws.{said}
use Rattle.box_calls.proofs.show.Goals as goal

pub returns-then-not-done : goal.returns-then-not-done
unfolding show_said
returns-then-not-done c = rw (told-no _ _ c.done.ensures c.if-not-done.true, c.wrong.ensures)

pub returns : goal.returns
unfolding show_said
returns c =
    rw (told-yes _ _ c.done.ensures c.if-not-done.false, ← c.kept_count.ensures) (said c.state-text.ensures)
