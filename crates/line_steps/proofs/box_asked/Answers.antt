-- `box_asked`: by whether `reply` has an answer. Assumes nothing.
use borrow.Author.Tests.{lt-ltb, le-ltb}
use Rattle.line_steps.proofs.Laws.{long-by, other-by}
use Rattle.line_steps.proofs.box_asked.Goals as goal

pub returns-then-k-gt0 : goal.returns-then-k-gt0
returns-then-k-gt0 c =
    let d = c in
    long-by _ _ _ _ _ _ _ _ d.replied-k.ensures (lt-ltb _ _ c.if-k-gt0.true) c.to_ask-run.ensures

pub returns : goal.returns
returns c =
    let d = c in
    let e = d in
    other-by _ _ _ _ _ _ _ _ e.replied-k.ensures (le-ltb _ _ e.if-k-gt0.false) d.listened.ensures
