-- `queuing::withdrawn` meets its contract.
use mathlib.Core.Path.{refl}
use native.Mathlib.Omega.{arith}
use borrow.Author.Tests.{eq-eqb, ne_eqb}
use Rattle.laws.proofs.Picks.{cond_yes, cond_no}
use Rattle.messages.specs.Messages.{entries_in, begun_in}
use Rattle.messages.proofs.Withdrawn.{stay-go}
use Rattle.queuing.proofs.withdrawn.Goals as goal

pub returns-then-label-eq0 : goal.returns-then-label-eq0
returns-then-label-eq0 c = cond_yes _ _ _ _ (eq-eqb _ 0 c.if-label-eq0.true) refl

pub overflow_cast-result : goal.overflow_cast-result
overflow_cast-result c =
    let m = c.args.m in
    omega (arith, c.close_gaps-n.ensures.value, (stay-go c.args.label (begun_in m) (entries_in m)).1, c.requires.m_bound)

pub returns : goal.returns
returns c =
    cond_no _ _ _ _ (ne_eqb _ 0 c.if-label-eq0.false)
    (λ j. (record { messages = c.withdraw-messages.ensures j; waiting = c.close_gaps-n.ensures.value j }, c.close_gaps-n.ensures.a_after j))
