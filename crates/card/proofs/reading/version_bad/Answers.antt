-- `reading::version_bad`: no byte, or the first. Assumes nothing.
use Rattle.card.proofs.Refusals.{version-none, version-some}
use Rattle.card.proofs.reading.version_bad.Goals as goal

pub returns-then-b-eq0 : goal.returns-then-b-eq0
returns-then-b-eq0 c = version-none c.args.b.now c.if-b-eq0.true

pub returns : goal.returns
returns c = version-some c.args.b.now c.if-b-eq0.false
