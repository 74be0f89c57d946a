-- `verdicts::receive_verdict` meets its contract.
use mathlib.Core.Bool.{Bool, false, not, ◌&&◌}
use mathlib.Core.Path.{◌≡◌, refl, sym, ap, ap₂, ◌∙◌}
use Prim.Native.Nat.{ℕ}
use lib.Dec.{eqb, ltb}
use Rattle.laws.proofs.Picks.{cond_yes, cond_no}
use Rattle.verdicts.specs.Verdicts.{reply_verdict}
use Rattle.verdicts.proofs.Passed.{is-passed}
use Rattle.replies.specs.declared.LongAck.{LongAck}
use Rattle.refusals.specs.declared.Reply.{Reply}
use Rattle.refusals.specs.declared.Reply.TheVariants as R
use Rattle.refusals.specs.Refusals.{kind_of}
use Rattle.verdicts.proofs.receive_verdict.Goals.{in-LongAck, in_default}
use Rattle.verdicts.proofs.receive_verdict.Goals as goal

not-long : (r : Reply) → ((x : LongAck) → r ≡ R.LongAck x → ⊥) → eqb (kind_of r) 2 ≡ false
not-long (R.ConnAck x) h = refl
not-long (R.Ack x) h = refl
not-long (R.LongAck x) h = absurd (h x refl)
not-long (R.Turn x) h = refl

pub returns-then-not-time_ok : goal.returns-then-not-time_ok
unfolding reply_verdict
returns-then-not-time_ok c =
    cond_yes _ _ _ _ (is-passed _ _ _ refl c.in_ok-v.was)
    (cond_yes _ _ _ _ (sym (ap not c.time_ok.ensures) ∙ ap not c.if-not-time_ok.true) refl)

pub returns-then-not-heard_ok-reply_ok : goal.returns-then-not-heard_ok-reply_ok
unfolding reply_verdict
returns-then-not-heard_ok-reply_ok c =
    cond_yes _ _ _ _ (is-passed _ _ _ refl c.in_ok-v.was)
    (cond_no _ _ _ _ (sym (ap not c.time_ok.ensures) ∙ ap not c.if-not-time_ok.false)
    (cond_yes _ _ _ _ (sym (ap₂ (λ (x y : Bool). not (x && y)) c.heard_ok.ensures c.reply_ok.ensures) ∙ ap not
    c.if-not-heard_ok-reply_ok.true) refl))

pub returns-then-matches-n : goal.returns-then-matches-n
unfolding reply_verdict
returns-then-matches-n c =
    let long : c.match-matches.matches ≡ eqb (kind_of c.args.r) 2 = elim c.match-matches.branch [
      | in-LongAck w ↦ w.matches-is ∙ sym (ap (λ (r : Reply). eqb (kind_of r) 2) w.in-LongAck.is)
      | in_default w ↦ w.matches-is ∙ sym (not-long _ w.in_default.not-LongAck)
    ] in
    cond_yes _ _ _ _ (is-passed _ _ _ refl c.in_ok-v.was)
    (cond_no _ _ _ _ (sym (ap not c.time_ok.ensures) ∙ ap not c.if-not-time_ok.false)
    (cond_no _ _ _ _ (sym (ap₂ (λ (x y : Bool). not (x && y)) c.heard_ok.ensures c.reply_ok.ensures) ∙ ap not
    c.if-not-heard_ok-reply_ok.false) (cond_yes _ _ _ _
    (sym (ap (λ (k : Bool). k && ltb c.args.n 13) long) ∙ c.if-matches-n.true) refl)))

pub returns : goal.returns
unfolding reply_verdict
returns c =
    let long : c.match-matches.matches ≡ eqb (kind_of c.args.r) 2 = elim c.match-matches.branch [
      | in-LongAck w ↦ w.matches-is ∙ sym (ap (λ (r : Reply). eqb (kind_of r) 2) w.in-LongAck.is)
      | in_default w ↦ w.matches-is ∙ sym (not-long _ w.in_default.not-LongAck)
    ] in
    cond_yes _ _ _ _ (is-passed _ _ _ refl c.in_ok-v.was)
    (cond_no _ _ _ _ (sym (ap not c.time_ok.ensures) ∙ ap not c.if-not-time_ok.false)
    (cond_no _ _ _ _ (sym (ap₂ (λ (x y : Bool). not (x && y)) c.heard_ok.ensures c.reply_ok.ensures) ∙ ap not
    c.if-not-heard_ok-reply_ok.false) (cond_no _ _ _ _
    (sym (ap (λ (k : Bool). k && ltb c.args.n 13) long) ∙ c.if-matches-n.false) refl)))
