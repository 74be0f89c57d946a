-- `messages`: by whether its line is right. Assumes nothing.
use Rattle.laws.proofs.Picks.{told-yes, told-no}
use Rattle.look_lines.specs.Looks.{messages_shown}
use Rattle.look_lines.proofs.Laws.{said}
use Rattle.look_lines.proofs.messages.Goals as goal

pub returns-then-not-done : goal.returns-then-not-done
unfolding messages_shown
returns-then-not-done c = rw (told-no _ _ c.done.ensures c.if-not-done.true, c.wrong.ensures)

pub returns : goal.returns
unfolding messages_shown
returns c = rw (told-yes _ _ c.done.ensures c.if-not-done.false) (said c.messages-text.ensures)
