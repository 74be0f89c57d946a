-- `AckInfo::from_bytes` meets its contract.
use mathlib.Core.Bool.{Bool, true, false, cond}
use mathlib.Core.Path.{◌≡◌, refl, sym, ap, ◌∙◌}
use mathlib.Core.List.{List}
use Prim.Native.Nat.{ℕ}
use lib.Dec.{leb}
use lib.ListN.{length}
use borrow.Author.Tests.{lt-ltb, le-ltb, le-leb, lt-leb}
use Rattle.std.proofs.Common.{Some, None}
use Rattle.laws.proofs.Picks.{cond_yes, cond_no}
use Rattle.report.specs.Report.{report_at}
use Rattle.report.specs.Ack.{ack_with, ack_of}
use Rattle.report.specs.declared.ack.AckInfo.{AckInfo}
use Rattle.report.proofs.ack.AckInfo.from_bytes.Goals as goal

-- by whether the report is there
abbrev choice : List ℕ → Bool → AckInfo
choice b t = ack_with b (cond t (Some (report_at b 13)) None)

pub returns-then-b-lt13 : goal.returns-then-b-lt13
unfolding ack_of
returns-then-b-lt13 c = cond_yes _ _ _ _ (lt-ltb _ _ c.if-b-lt13.true) refl

pub returns-then-b-lt17 : goal.returns-then-b-lt17
unfolding ack_of
returns-then-b-lt17 c =
    let t = c in
    let b = t.args.b.now in
    let e : leb 17 (length b) ≡ false = lt-leb _ _ t.if-b-lt17.true in
    cond_no _ None _ _ (le-ltb _ _ t.if-b-lt13.false) (ap Some (c.with.ensures ∙ sym (ap (choice b) e)))

pub returns : goal.returns
unfolding ack_of
returns c =
    let t = c in
    let b = t.args.b.now in
    let e : leb 17 (length b) ≡ true = le-leb _ _ t.if-b-lt17.false in
    cond_no _ None _ _ (le-ltb _ _ t.if-b-lt13.false)
    (ap Some (c.with-2.ensures ∙ ap (λ r. ack_with b (Some r)) c.at.ensures ∙ sym (ap (choice b) e)))
