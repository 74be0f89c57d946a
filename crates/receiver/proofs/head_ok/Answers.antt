-- `head_ok` meets its contract: the tests of the definition.
use Rattle.laws.proofs.Picks.{is-and, picks}
use borrow.Author.Tests.{le-leb}
use Rattle.receiver.specs.Frames.{head_ok}
use Rattle.laws.specs.Tests.{all}
use Rattle.receiver.proofs.head_ok.Goals as goal

pub returns-then-n-lt18 : goal.returns-then-n-lt18
unfolding head_ok all
returns-then-n-lt18 c = search picks

pub returns : goal.returns
unfolding head_ok all
returns c = is-and _ _ _ (le-leb 18 _ c.if-n-lt18.false) (rw c.from-len.ensures)
