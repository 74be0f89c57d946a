-- `arriving`: the frames at these places. Assumes nothing.
use mathlib.Core.Path.{◌∙◌, ap, ap₂}
use mathlib.Core.Bool.{false}
use mathlib.Core.List.{List}
use Prim.Native.Nat.{ℕ}
use lib.ListN.{replicate}
use Rattle.laws.specs.Bytes.{overwrite}
use Rattle.laws.specs.Text.{text}
use Rattle.box_calls.specs.BoxCalls.{most_places, frames_at, taken_said, arriving_said}
use Rattle.box_calls.proofs.arriving.Goals as goal

pub returns : goal.returns
unfolding arriving_said
returns c =
    let a = c.args in
    let places = a.places.now in
    let t : ℕ × List ℕ = (a.n, a.t.now) in
    let sizes = replicate most_places a.b.size in
    let frames =
    ap₂ (λ (l : List ℕ) (size : ℕ). overwrite l 0 (frames_at size a.sent.now places)) c.frames_room-bytes.ensures
    c.min-size.ensures in
    c.taken.ensures
    ∙ ap (λ (l : List ℕ). taken_said (text "arrive") false a.b.number a.db l sizes places a.b a.most a.w.now t)
    (c.frames_at.ensures ∙ frames)
