-- `verdicts::standing` meets its contract.
use mathlib.Core.Bool.{Bool, true, false, not, ◌&&◌}
use mathlib.Core.Path.{◌≡◌, refl, sym, ap, ◌∙◌}
use borrow.Author.Tests.{not-false}
use Rattle.laws.proofs.Picks.{cond_yes, cond_no}
use Rattle.config.specs.Ranges.{in_range, in_order}
use Rattle.config.proofs.ranges.Ranged.{ranged}
use Rattle.verdicts.specs.Verdicts.{station_ok, standing}
use Rattle.verdicts.proofs.standing.Lts as lts
use Rattle.verdicts.proofs.standing.Tie as tie
use Rattle.verdicts.proofs.standing.Reads as reads
use Rattle.verdicts.proofs.standing.Goals as goal

one : (c : lts.Else1 tie.the-claims reads.Pre reads.Post) → not (in_range c.args.p) ≡ false
one c = sym (ap not c.in_range.ensures) ∙ ap not c.if-not-in_range.false

two : (c : lts.Else2 tie.the-claims reads.Pre reads.Post) → not (in_order c.args.p) ≡ false
unfolding in_order
two c = sym (ap not c.in_order.ensures) ∙ ap not c.if-not-in_order.false

and_assoc : (x y z : Bool) → ((x && y) && z) ≡ (x && (y && z))
and_assoc true y z = refl
and_assoc false y z = refl

-- what the third test reads
tested : (c : lts.After-taken_ok tie.the-claims reads.Pre reads.Post) → let s =
    c.before.before.before.before.before.before.before.before.before in
    not ((c.messages_ok.result && c.is_sound.result) && c.taken_ok.result) ≡ not (station_ok s.args.p s.args.t s.args.a.now)
tested c =
    ap not
    (and_assoc c.messages_ok.result c.is_sound.result c.taken_ok.result
    ∙ (λ k. c.messages_ok.ensures k && (c.is_sound.ensures k && c.taken_ok.ensures k)))

pub returns-then-not-in_range : goal.returns-then-not-in_range
unfolding standing
returns-then-not-in_range c = cond_yes _ _ _ _ (sym (ap not c.in_range.ensures) ∙ ap not c.if-not-in_range.true) refl

pub returns-then-not-in_order : goal.returns-then-not-in_order
unfolding standing in_order
returns-then-not-in_order c =
    cond_no _ _ _ _ (one c.before.before.before) (cond_yes _ _ _ _ (sym (ap not c.in_order.ensures) ∙ ap not c.if-not-in_order.true) refl)

pub is_sound-requires : goal.is_sound-requires
is_sound-requires c = ranged _ (not-false _ (one c.before.before.before.before.before.before))

pub returns-then-not-messages_ok-is_sound : goal.returns-then-not-messages_ok-is_sound
unfolding standing
returns-then-not-messages_ok-is_sound c =
    cond_no _ _ _ _ (one c.before.before.before.before.before.before.before.before.before.before)
    (cond_no _ _ _ _ (two c.before.before.before.before.before.before.before.before)
    (cond_yes _ _ _ _ (sym (tested c.before.before) ∙ ap not c.if-not-messages_ok-is_sound.true) refl))

pub returns-then-k-connect : goal.returns-then-k-connect
unfolding standing
returns-then-k-connect c =
    let e = c in
    cond_no _ _ _ _ (one c.before.before.before.before.before.before.before.before.before.before.before.before.before)
    (cond_no _ _ _ _ (two c.before.before.before.before.before.before.before.before.before.before.before)
    (cond_no _ _ _ _ (sym (tested c.before.before.before.before.before) ∙ ap not e.if-not-messages_ok-is_sound.false)
    (cond_yes _ _ _ _ c.if-k-connect.true refl)))

pub returns : goal.returns
unfolding standing
returns c =
    let e = c in
    cond_no _ _ _ _ (one c.before.before.before.before.before.before.before.before.before.before.before.before.before)
    (cond_no _ _ _ _ (two c.before.before.before.before.before.before.before.before.before.before.before)
    (cond_no _ _ _ _ (sym (tested c.before.before.before.before.before) ∙ ap not e.if-not-messages_ok-is_sound.false)
    (cond_no _ _ _ _ c.if-k-connect.false refl)))
