-- `clear` meets its contract.
use mathlib.Core.Path.{refl}
use Rattle.window.proofs.Turns.{clear-all}
use Rattle.window.proofs.clear.Goals as goal

pub returns : goal.returns
returns c = clear-all c.args.w.now _ c.args.n _ c.requires refl (c.fill.ensures.after (λ y h. h))
