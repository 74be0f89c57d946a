-- `after`: by the refusal, and by whether the frames heard were taken. Assumes nothing.
use mathlib.Core.Path.{refl}
use borrow.Author.Tests.{eq-eqb, ne_eqb}
use Rattle.laws.proofs.Picks.{cond_yes, cond_no}
use Rattle.box_calls.specs.BoxCalls.{after_reception}
use Rattle.box_calls.proofs.after.Goals as goal

pub returns-then-a-ne0 : goal.returns-then-a-ne0
unfolding after_reception
returns-then-a-ne0 c = cond_no _ _ _ _ (ne_eqb _ _ c.if-a-ne0.true) refl

pub returns-then-heard : goal.returns-then-heard
unfolding after_reception
returns-then-heard c = cond_yes _ _ _ _ (eq-eqb _ _ c.if-a-ne0.false) (rw c.if-heard.true)

pub returns-else-heard : goal.returns-else-heard
unfolding after_reception
returns-else-heard c = cond_yes _ _ _ _ (eq-eqb _ _ c.if-a-ne0.false) (rw c.if-heard.false)
