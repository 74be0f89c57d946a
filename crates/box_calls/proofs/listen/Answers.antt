-- `listen`: by the line's first word. Assumes nothing.
use Rattle.laws.proofs.Picks.{cond_yes, cond_no}
use Rattle.box_calls.specs.BoxCalls.{listen_said}
use Rattle.box_calls.proofs.Laws.{window-kept, heard-kept}
use Rattle.box_calls.proofs.listen.Goals as goal

pub returns-then-heard : goal.returns-then-heard
unfolding listen_said
returns-then-heard c =
    rw (← c.word-heard.ensures) (cond_yes _ _ _ _ c.if-heard.true (window-kept c.hear.ensures))

pub returns : goal.returns
unfolding listen_said
returns c =
    rw (← c.word-heard.ensures) (cond_no _ _ _ _ c.if-heard.false (heard-kept c.other_line.ensures))
