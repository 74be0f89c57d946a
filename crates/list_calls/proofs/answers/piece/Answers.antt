-- `piece`: the question, and its answer. Assumes nothing.
use Rattle.list_calls.proofs.answers.piece.Goals as goal

pub returns : goal.returns
returns c =
    let d = c in
    rw (
      ← d.whole-q.ensures,
      ← d.done-ok.ensures,
      ← c.find.ensures,
      ← d.piece-bytes.ensures,
    ) c.piece_wrote.ensures
