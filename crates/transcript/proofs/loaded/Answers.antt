-- `transcript::loaded` meets its contract.
use mathlib.Core.Path.{refl}
use Rattle.laws.proofs.Picks.{cond_yes, cond_no}
use Rattle.text.proofs.Laws.{appends, told}
use Rattle.transcript.proofs.loaded.Goals as goal

pub returns-then-stretched : goal.returns-then-stretched
returns-then-stretched c =
    told (appends c.puts.ensures) (cond_yes _ _ _ _ c.if-stretched.true refl)

pub returns : goal.returns
returns c =
    told (appends c.puts-2.ensures) (cond_no _ _ _ _ c.if-stretched.false refl)
