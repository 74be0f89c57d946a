-- `reading::counts_ok`: a short file has no counts that agree. Assumes nothing.
use Rattle.laws.specs.Tests.{all}
use Rattle.card.specs.Card.{counts_agree}
use Rattle.card.proofs.Refusals.{counts-short}
use Rattle.card.proofs.reading.counts_ok.Goals as goal

pub returns-then-b-lt-CARD_BYTES : goal.returns-then-b-lt-CARD_BYTES
returns-then-b-lt-CARD_BYTES c = counts-short c.args.b.now c.if-b-lt-CARD_BYTES.true

pub returns : goal.returns
unfolding all counts_agree
returns c =
    simp (
      c.count-3.ensures.0,
      c.count-2.ensures.0,
      c.count.ensures.0,
      c.options_ok.ensures,
      c.count-n.ensures.0,
    )
