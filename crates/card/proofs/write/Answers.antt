-- `write`: what was written, by its number. Assumes nothing.
use mathlib.Core.Path.{◌∙◌}
use Rattle.card.proofs.write.Goals as goal

pub returns-in-Err : goal.returns-in-Err
returns-in-Err c = (λ j. (c.number.ensures j, c.try_write.new.out)) ∙ c.in-Err.ensures
