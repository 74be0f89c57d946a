-- `writing::put_marks`: a row and one number. Assumes nothing.
use mathlib.Core.Path.{refl}
use borrow.Author.Rules.{rules}
use Rattle.card.specs.Card.{marks_bytes, bits32}
use Rattle.card.proofs.Puts.{joins, rowed}
use Rattle.card.proofs.writing.put_marks.Goals as goal

pub returns : goal.returns
unfolding marks_bytes
returns c =
    joins _ _ _ _ _ _ 68 4 (rowed _ _ _ bits32 4 c.args.m.thresholds_db 17 (search rules) c.put_row.ensures) (c.put.ensures, refl)
