use mathlib.Core.Path.{ap, ◌∙◌}
use Rattle.reachable.specs.Reachable.{listing}
use Rattle.reachable.proofs.Steps.{listed-noted}
use Rattle.reachable.proofs.listed.Goals as goal

pub returns : goal.returns
returns c = c.list.ensures ∙ ap (listing 0) (listed-noted _ _ c.lowest_q.ensures)
