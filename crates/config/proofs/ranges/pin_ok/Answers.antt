use Rattle.config.specs.Ranges.{pin_ok}
use borrow.Author.Rules.{rules}
use Rattle.config.proofs.ranges.pin_ok.Goals as goal

pub returns : goal.returns
unfolding pin_ok
returns c = search rules
