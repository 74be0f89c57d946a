-- `adif::sign_ok` meets its contract. Assumes nothing.
use native.Mathlib.Omega.{arith}
use borrow.Author.Rules.{rules}
use borrow.Author.Tests.{tests}
use Rattle.std.proofs.lemmas.Bool.Decides.{nat_tests}
use Rattle.std.proofs.lemmas.Iterator.{YieldsList-from_slice}
use Rattle.std.proofs.lemmas.Iterator.Search.{all_from_yields_List}
use Rattle.adif.specs.Adif.{sign_char}
use Rattle.adif.proofs.Steps.{sign-none, sign-long, sign-made}
use Rattle.adif.proofs.sign_ok.Goals as goal
use Rattle.adif.proofs.sign_ok.Goals.{then-is_empty-via-then-is_empty, then-is_empty-via-else-is_empty+then-call-gt12}

pub returns-then-is_empty : goal.returns-then-is_empty
returns-then-is_empty c =
    let s = c.args.call.now in
    elim c.then-is_empty.branch [
      | then-is_empty-via-then-is_empty w ↦ sign-none s (grind (arith, nat_tests))
      | then-is_empty-via-else-is_empty+then-call-gt12 w ↦ sign-long s w.if-call-gt12.true
    ]

pub returns : goal.returns
returns c =
    let s = c.args.call.now in
    sign-made s _ (λ z. grind (arith, nat_tests)) (omega arith)
    (all_from_yields_List sign_char _ _ _ c.all.ensures.ran (YieldsList-from_slice s cc) (λ x b q k. search (rules, tests)))
