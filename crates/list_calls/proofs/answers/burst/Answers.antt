-- `burst`: the burst, and its answer. Assumes nothing.
use borrow.Author.Rules.{rules}
use Rattle.list_calls.specs.Answers.{burst_said}
use Rattle.list_calls.proofs.Laws.{burst-left}
use Rattle.list_calls.proofs.answers.burst.Goals as goal

pub data_burst-b-requires : goal.data_burst-b-requires
data_burst-b-requires c = search rules

pub returns : goal.returns
unfolding burst_said
returns c =
    let d = c in
    let a = d.args in
    let z = c.frame_size in
    rw (← z.ensures)
    (burst-left z.result (a.n, a.t.now) c.burst_said.ensures d.data_burst-b.ensures)
