-- `hear_frame`: by whether there is room. Assumes nothing.
use mathlib.Core.Path.{ap}
use mathlib.Core.Bool.{Bool, not}
use lib.Dec.{ltb}
use lib.ListN.{length}
use borrow.Author.Tests.{ltb-true, leb-true}
use Rattle.laws.proofs.Picks.{and_first, and_second}
use Rattle.box_calls.specs.BoxCalls.{frame_said}
use Rattle.box_calls.proofs.Laws.{no_room, room, heard-said}
use Rattle.box_calls.proofs.hear_frame.Goals as goal

pub returns-then-not-fits : goal.returns-then-not-fits
unfolding frame_said
returns-then-not-fits c =
    let a = c.args in
    let z =
    no_room a.b.heard 128 a.b.used (length a.bytes.now) (length a.h.now) c.has_room.result c.has_room.ensures
    (ap (λ (b : Bool). not b) c.if-not-fits.true) in
    rw (z, c.wrong.ensures)

pub keep_frame-next-requires : goal.keep_frame-next-requires
keep_frame-next-requires c =
    let a = c.args in
    let z =
    room a.b.heard 128 a.b.used (length a.bytes.now) (length a.h.now) c.has_room.result c.has_room.ensures
    (ap (λ (b : Bool). not b) c.if-not-fits.false) in
    (ltb-true _ _ (and_first (ltb a.b.heard 128) _ z), c.requires, leb-true _ _ (and_second (ltb a.b.heard 128) _ z))

pub returns : goal.returns
unfolding frame_said
returns c =
    let a = c.args in
    let z =
    room a.b.heard 128 a.b.used (length a.bytes.now) (length a.h.now) c.has_room.result c.has_room.ensures
    (ap (λ (b : Bool). not b) c.if-not-fits.false) in
    rw z (heard-said c.keep_frame-next.ensures c.answer-text.ensures)
