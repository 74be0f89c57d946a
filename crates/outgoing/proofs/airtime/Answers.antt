-- `outgoing::airtime` meets its contract.
use Rattle.outgoing.specs.Outgoing.{airtime_of}
use Rattle.laws.proofs.Picks.{picks}
use borrow.Author.Tests.{ne_eqb}
use Rattle.outgoing.proofs.airtime.Goals as goal

pub returns-then-frames-eq0 : goal.returns-then-frames-eq0
unfolding airtime_of
returns-then-frames-eq0 c = search picks

pub returns-then-cued : goal.returns-then-cued
unfolding airtime_of
returns-then-cued c =
    let b = c in
    simp (
      c.saturating_add.ensures,
      c.to_millis-then-cued.ensures,
      c.if-cued.true,
      b.saturating_add-burst.ensures,
      b.to_millis.ensures,
      b.duration.ensures,
      ne_eqb _ _ b.if-frames-eq0.false,
    )

pub returns : goal.returns
unfolding airtime_of
returns c =
    let b = c in
    simp (
      c.if-cued.false,
      b.saturating_add-burst.ensures,
      b.to_millis.ensures,
      b.duration.ensures,
      ne_eqb _ _ b.if-frames-eq0.false,
    )
