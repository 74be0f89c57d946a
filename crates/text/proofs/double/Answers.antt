-- `text::double` meets its contract.
use lib.Ieee.{binary64}
use Rattle.text.specs.Words.{double_word}
use Rattle.text.proofs.Digits.{float-told}
use Rattle.text.proofs.Laws.{appends, told}
use Rattle.text.proofs.double.Goals as goal

pub returns : goal.returns
unfolding double_word
returns c = told (appends c.float.ensures) (float-told binary64 16 c.args.x 18446744073709551615 c.pattern.ensures)
