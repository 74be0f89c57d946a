-- `is_call`: by its parts. Assumes nothing.
use Rattle.run_lines.specs.RunLines.{is_call}
use Rattle.run_lines.proofs.is_call.Goals as goal

pub word-r-requires : goal.word-r-requires
word-r-requires c = tt

pub passed_over-requires : goal.passed_over-requires
passed_over-requires c = tt

pub done-requires : goal.done-requires
done-requires c = tt

pub returns : goal.returns
unfolding is_call
returns c =
    let d = c in
    rw (← d.word-r.ensures, ← c.passed_over.ensures, ← c.done.ensures)
