-- `piece_wrote`: by whether the line is right. Assumes nothing.
use Rattle.list_calls.specs.Answers.{piece_told}
use Rattle.list_calls.proofs.Laws.{wrote_of}
use Rattle.list_calls.proofs.answers.piece_wrote.Goals as goal

pub returns-then-not-ok : goal.returns-then-not-ok
unfolding piece_told
returns-then-not-ok c = rw c.if-not-ok.true

pub returns : goal.returns
unfolding piece_told
returns c =
    let d = c in
    rw d.if-not-ok.false (wrote_of c.piece_text-text.ensures)
