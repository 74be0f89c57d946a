-- `frames_at`: what is stored, with the frames ahead behind it, is what the whole gives.
-- A turn reads a place, cuts its frame, and stores it.
use mathlib.Core.Path.{sym, ap, ◌∙◌}
use mathlib.Core.List.{List}
use Prim.Native.Nat.{ℕ, ◌+◌, ◌-◌, ◌*◌, ◌<◌}
use native.Mathlib.Omega.{arith}
use lib.ListN.{drop, get_or}
use Rattle.laws.specs.Bytes.{overwrite, part}
use Rattle.box_calls.specs.BoxCalls.{frames_at}
use Rattle.box_calls.proofs.Parts.{Cut, ordered, few, length-frame, frame_is, frames-turn, frames-end, start_small}
use Rattle.box_calls.proofs.frames_at.Goals as goal

pub overflow_mul-start : goal.overflow_mul-start
overflow_mul-start c =
    let place = get_or c.args.places.now c.loop-place.place-index 0 in
    let byte : place < 256 = omega (arith, c.type_inv.places c.loop-place.place-index) in
    omega (arith, start_small place c.args.size byte c.requires.0)

pub overflow_add-start : goal.overflow_add-start
overflow_add-start c =
    let place = get_or c.args.places.now c.loop-place.place-index 0 in
    let byte : place < 256 = omega (arith, c.type_inv.places c.loop-place.place-index) in
    omega (arith, start_small place c.args.size byte c.requires.0)

pub slice_bounds-copy_in-count : goal.slice_bounds-copy_in-count
slice_bounds-copy_in-count c =
    let from = c.least-from.ensures in
    let to = c.least-to.ensures in
    let cut : Cut c.args.sent.now (get_or c.args.places.now c.loop-place.place-index 0 * c.args.size) c.args.size c.least-from.result c.least-to.result =
    record { begins = from.upper_bound; first = from.a_value; ends = to.upper_bound; last = to.a_value } in
    omega (arith, ordered cut)

pub copy_in-requires : goal.copy_in-requires
copy_in-requires c =
    let from = c.least-from.ensures in
    let to = c.least-to.ensures in
    let cut : Cut c.args.sent.now (get_or c.args.places.now c.loop-place.place-index 0 * c.args.size) c.args.size c.least-from.result c.least-to.result =
    record { begins = from.upper_bound; first = from.a_value; ends = to.upper_bound; last = to.a_value } in
    omega (arith, length-frame cut, few cut)

pub overflow_sub-used : goal.overflow_sub-used
overflow_sub-used c =
    let from = c.least-from.ensures in
    let to = c.least-to.ensures in
    let cut : Cut c.args.sent.now (get_or c.args.places.now c.loop-place.place-index 0 * c.args.size) c.args.size c.least-from.result c.least-to.result =
    record { begins = from.upper_bound; first = from.a_value; ends = to.upper_bound; last = to.a_value } in
    omega (arith, ordered cut)

pub overflow_add-used : goal.overflow_add-used
overflow_add-used c =
    let from = c.least-from.ensures in
    let to = c.least-to.ensures in
    let cut : Cut c.args.sent.now (get_or c.args.places.now c.loop-place.place-index 0 * c.args.size) c.args.size c.least-from.result c.least-to.result =
    record { begins = from.upper_bound; first = from.a_value; ends = to.upper_bound; last = to.a_value } in
    omega (arith, few cut)

pub loop-place-preserved : goal.loop-place-preserved
loop-place-preserved c =
    let from = c.least-from.ensures in
    let to = c.least-to.ensures in
    let cut : Cut c.args.sent.now (get_or c.args.places.now c.loop-place.place-index 0 * c.args.size) c.args.size c.least-from.result c.least-to.result =
    record { begins = from.upper_bound; first = from.a_value; ends = to.upper_bound; last = to.a_value } in
    let l = c.loop-place in
    let a = c.args in
    let places = a.places.now in
    let k = c.least-to.result - c.least-from.result in
    let frame = part a.sent.now c.least-from.result k in
    let stored = c.copy_in.ensures in
    let turn =
    frames-turn a.size a.sent.now places l.bytes l.used l.place-index k frame c.loop-place-test.true (frame_is cut) (length-frame cut) in
    let ahead = frames_at a.size a.sent.now (drop (l.place-index + 1) places) in (
      l.invariant.0 ∙ turn ∙ ap (λ (m : List ℕ). overwrite m (l.used + k) ahead) (sym stored),
      omega (arith, few cut),
    )

pub returns : goal.returns
returns c =
    let l = c.loop-place in
    let a = c.args in
    sym (l.invariant.0 ∙ frames-end a.size a.sent.now a.places.now l.bytes l.used l.place-index c.loop-place-test.false)
