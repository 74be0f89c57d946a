-- `meaning::hex`: the bytes are stored where they were counted. Assumes nothing.
use Rattle.std.proofs.Common.{sym, ◌∙◌, refl}
use Rattle.words.specs.Words.{hex_into}
use Rattle.words.proofs.Laws.{hex-room}
use Rattle.words.proofs.meaning.hex.Goals as goal

pub put_pairs-requires : goal.put_pairs-requires
unfolding hex_into
put_pairs-requires c = hex-room _ _ _ (sym c.hex_count.ensures ∙ c.in_ok-n.was)

pub returns-in_err-n-clause-bytes_after : goal.returns-in_err-n-clause-bytes_after
unfolding hex_into
returns-in_err-n-clause-bytes_after c = let e = sym c.hex_count.ensures ∙ c.in_err-n.was in rw e refl

pub returns-clause-bytes_after : goal.returns-clause-bytes_after
unfolding hex_into
returns-clause-bytes_after c = let e = sym c.hex_count.ensures ∙ c.in_ok-n.was in rw e c.put_pairs.ensures
