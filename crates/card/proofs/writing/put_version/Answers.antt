-- `writing::put_version`: one byte. Assumes nothing.
use Rattle.card.proofs.Puts.{one_byte}
use Rattle.card.proofs.writing.put_version.Goals as goal

pub returns : goal.returns
returns c = one_byte c.args.out.now 0 1
