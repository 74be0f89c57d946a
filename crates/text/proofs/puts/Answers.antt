-- `text::puts` meets its contract.
use Rattle.text.proofs.Laws.{slice-turn, slice-end, by_one}
use Rattle.text.proofs.puts.Goals as goal

pub loop-c-preserved : goal.loop-c-preserved
loop-c-preserved c =
    slice-turn _ c.loop-c.c-index c.loop-c-test.true c.loop-c.invariant (by_one c.put-n.ensures)

pub returns : goal.returns
returns c = slice-end _ c.loop-c.c-index c.loop-c-test.false c.loop-c.invariant
