-- `places_from` meets its contract: a turn reads one place more.
use Prim.Native.Nat.{◌<◌}
use mathlib.Core.Path.{◌≡◌, refl, sym, ap, ◌∙◌}
use native.Mathlib.Omega.{arith}
use lib.ListN.{length}
use Rattle.laws.specs.Bytes.{overwrite}
use lib.ListN.{length-set}
use Rattle.laws.proofs.Bytes.{over-nil}
use Rattle.box_lines.proofs.Places.{begins, reads_on, puts-on, no_word, past-frames, no_room}
use borrow.Author.Tests.{not-true, not-false}
use Rattle.box_lines.proofs.places_from.Goals as goal

pub loop-n-init : goal.loop-n-init
loop-n-init c = let s = c in (begins _ _ _ s.args.r, sym (over-nil _ _), refl)

pub shape_of-places-then-not-place : goal.shape_of-places-then-not-place
shape_of-places-then-not-place c = c.loop-n.invariant.2

pub returns-then-not-place : goal.returns-then-not-place
returns-then-not-place c =
    let l = c in
    let v = l.loop-n.invariant in
    let z = no_word _ _ _ _ _ _ _ c.whole-place.ensures v.0 (omega (arith, v.2)) (not-true _ c.if-not-place.true) in record {
      value = (λ i. record { n = z.0 i; ok = (c.done.ensures ∙ z.1) i });
      places_after = v.1 ∙ ap (overwrite _ 0) z.2;
    }

pub shape_of-places-then-place-frames : goal.shape_of-places-then-place-frames
shape_of-places-then-place-frames c = c.loop-n.invariant.2

pub returns-then-place-frames : goal.returns-then-place-frames
returns-then-place-frames c =
    let l = c in
    let v = l.loop-n.invariant in
    let z = past-frames _ _ _ _ _ _ _ c.whole-place.ensures v.0 (omega (arith, v.2)) (not-false _ c.if-not-place.false) c.if-place-frames.true in record {
      value = (λ i. record { n = z.0 i; ok = z.1 i });
      places_after = v.1 ∙ ap (overwrite _ 0) z.2;
    }

pub overflow_cast-places : goal.overflow_cast-places
overflow_cast-places c = omega (arith, c.if-place-frames.false, c.requires)

pub loop-n-preserved : goal.loop-n-preserved
loop-n-preserved c =
    let l = c in
    let v = l.loop-n.invariant in
    let e = c.whole-place.ensures in
    let h : l.loop-n.n < length l.args.places.now = omega (arith, v.2) in
    let ok = not-false _ c.if-not-place.false in
    let few = c.if-place-frames.false in
    (reads_on _ _ _ _ _ _ _ e v.0 h ok few, rw v.1 (puts-on _ _ _ _ _ _ _ e v.0 h ok few _), simp length-set v.2)

pub shape_of-places : goal.shape_of-places
shape_of-places c = c.loop-n.invariant.2

pub returns : goal.returns
returns c =
    let l = c in
    let v = l.loop-n.invariant in
    let z = no_room _ _ _ _ _ _ v.0 (omega (arith, v.2)) in
    let e : length l.loop-n.places ≡ l.loop-n.n = omega (arith, v.2) in record {
      value = (λ i. record { n = (e ∙ z.0) i; ok = (c.done-2.ensures ∙ z.1) i });
      places_after = v.1 ∙ ap (overwrite _ 0) z.2;
    }
