-- `reading::places_ok`: every place is 0 or 1. Assumes nothing.
use Prim.Native.Nat.{ℕ}
use mathlib.Core.Path.{◌∙◌}
use native.Mathlib.Omega.{arith}
use borrow.Author.Rules.{rules}
use borrow.Author.Tests.{tests}
use lib.Dec.{leb}
use Rattle.std.proofs.lemmas.Iterator.{YieldsList-from_slice}
use Rattle.std.proofs.lemmas.Iterator.Search.{all_from_yields_List}
use Rattle.laws.specs.Bytes.{part}
use Rattle.card.proofs.Refusals.{places-listed}
use Rattle.card.proofs.reading.places_ok.Goals as goal

pub returns : goal.returns
returns c =
    let os = c.args.os.now in
    all_from_yields_List (λ (v : ℕ). leb v 1) _ _ _ c.all.ensures.ran (YieldsList-from_slice (part os 127 15) cc) (λ x b q k. search (rules, tests))
    ∙ places-listed os (omega arith)
