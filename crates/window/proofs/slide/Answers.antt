-- `slide` meets its contract.
use mathlib.Core.Path.{◌∙◌}
use Rattle.window.proofs.Turns.{slide-all}
use Rattle.window.proofs.slide.Goals as goal

pub returns : goal.returns
returns c = c.copy_within.ensures.after ∙ slide-all c.args.w.now c.args.n c.requires
