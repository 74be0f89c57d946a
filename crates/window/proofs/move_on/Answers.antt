-- `move_on` meets its contract: the places that stay, then zeros.
use Rattle.window.proofs.Turns.{slid, stood}
use Rattle.window.proofs.Fits.{drop-lead}
use native.Mathlib.Omega.{arith}
use Rattle.window.proofs.move_on.Goals as goal

pub slide-requires : goal.slide-requires
slide-requires c =
    omega (arith, drop-lead c.args.w.now, c.requires)

pub clear-requires : goal.clear-requires
clear-requires c =
    omega (arith, drop-lead c.args.w.now, c.requires, c.slide.auto.w)

pub returns-then-n-gt0 : goal.returns-then-n-gt0
returns-then-n-gt0 c =
    slid c.args.w.now _ _ _ c.requires c.slide.auto.w c.slide.ensures c.clear.ensures

pub returns-else-n-gt0 : goal.returns-else-n-gt0
returns-else-n-gt0 c =
    stood c.args.w.now (omega (arith, c.requires))
