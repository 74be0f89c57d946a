-- `text::pair` meets its contract.
use Rattle.text.proofs.Digits.{hex-pair}
use Rattle.text.proofs.Laws.{appends, told}
use Rattle.text.proofs.pair.Goals as goal

pub returns : goal.returns
returns c = told (appends c.hexadecimal.ensures) (hex-pair _ c.ranges.b.fits)
