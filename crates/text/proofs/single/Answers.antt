-- `text::single` meets its contract.
use mathlib.Core.Path.{◌∙◌}
use lib.Ieee.{binary32}
use Rattle.text.specs.Words.{single_word}
use Rattle.text.proofs.Digits.{float-told}
use Rattle.text.proofs.Laws.{appends, told}
use Rattle.text.proofs.single.Goals as goal

pub returns : goal.returns
unfolding single_word
returns c = told (appends c.float.ensures) (float-told binary32 8 c.args.x 4294967295 (c.from.ensures ∙ c.pattern.ensures))
