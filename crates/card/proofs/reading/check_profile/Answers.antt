-- `reading::check_profile`: the place that was harq_stretch's, the flags, the ranges, then the order. Assumes nothing.
use mathlib.Core.Path.{refl}
use Rattle.laws.proofs.Picks.{told-yes, told-no}
use Rattle.config.specs.Ranges.{in_order}
use Rattle.card.specs.Card.{content_refusal}
use Rattle.card.proofs.reading.check_profile.Goals as goal

pub returns-then-stretch_later : goal.returns-then-stretch_later
unfolding content_refusal
returns-then-stretch_later c = rw (told-yes _ _ c.stretch_later.ensures c.if-stretch_later.true) refl

pub returns-then-not-places_ok : goal.returns-then-not-places_ok
unfolding content_refusal
returns-then-not-places_ok c =
    let l = c in
    rw (
      told-no _ _ l.stretch_later.ensures l.if-stretch_later.false,
      told-no _ _ c.places_ok.ensures c.if-not-places_ok.true,
    ) refl

pub returns-then-not-in_range : goal.returns-then-not-in_range
unfolding content_refusal
returns-then-not-in_range c =
    let g = c in
    let l = g in
    rw (
      told-no _ _ l.stretch_later.ensures l.if-stretch_later.false,
      told-yes _ _ g.places_ok.ensures g.if-not-places_ok.false,
      told-no _ _ c.in_range.ensures c.if-not-in_range.true,
    ) refl

pub returns-then-not-in_order : goal.returns-then-not-in_order
unfolding content_refusal in_order
returns-then-not-in_order c =
    let r = c in
    let g = r in
    let l = g in
    rw (
      told-no _ _ l.stretch_later.ensures l.if-stretch_later.false,
      told-yes _ _ g.places_ok.ensures g.if-not-places_ok.false,
      told-yes _ _ r.in_range.ensures r.if-not-in_range.false,
      told-no _ _ c.in_order.ensures c.if-not-in_order.true,
    ) refl

pub returns : goal.returns
unfolding content_refusal in_order
returns c =
    let r = c in
    let g = r in
    let l = g in
    rw (
      told-no _ _ l.stretch_later.ensures l.if-stretch_later.false,
      told-yes _ _ g.places_ok.ensures g.if-not-places_ok.false,
      told-yes _ _ r.in_range.ensures r.if-not-in_range.false,
      told-yes _ _ c.in_order.ensures c.if-not-in_order.false,
    ) refl
