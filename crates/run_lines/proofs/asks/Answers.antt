-- `asks`: so much of the line as there is room for. Assumes nothing.
use Rattle.run_lines.specs.RunLines.{asks}
use Rattle.run_lines.proofs.Laws.{pair}
use Rattle.run_lines.proofs.asks.Goals as goal

pub least-n-requires : goal.least-n-requires
least-n-requires c = tt

pub keep-requires : goal.keep-requires
keep-requires c = tt

pub todo_of-requires : goal.todo_of-requires
todo_of-requires c = tt

pub to_ask-requires : goal.to_ask-requires
to_ask-requires c = tt

pub returns : goal.returns
unfolding asks
returns c =
    let d = c in
    let e = d in
    pair (rw (← c.todo_of.ensures, ← e.least-n.ensures.a_value, ← e.least-n.ensures.value) c.to_ask.ensures)
    d.keep.ensures
