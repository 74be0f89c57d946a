-- `state_lines::lists::row` meets its contract.
use mathlib.Core.Path.{ap₂}
use Rattle.state_lines.specs.State.{entry}
use Rattle.text.proofs.Texts.{told}
use Rattle.state_lines.proofs.lists.row.Goals as goal

pub returns : goal.returns
returns c = told c.entry.ensures (ap₂ entry c.load.ensures c.load-2.ensures)
