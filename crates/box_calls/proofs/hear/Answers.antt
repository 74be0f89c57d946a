-- `hear`: by whether its line is right. Assumes nothing.
use mathlib.Core.Path.{◌≡◌, ◌∙◌, ap}
use Prim.Native.Nat.{ℕ}
use lib.ListN.{take}
use borrow.Author.Tests.{not-true, not-false}
use Rattle.laws.proofs.Picks.{cond_yes}
use Rattle.box_calls.specs.BoxCalls.{heard_said, most_bytes}
use Rattle.box_calls.proofs.Parts.{take_min, taken-few}
use Rattle.box_calls.proofs.hear.Goals as goal

pub returns-then-not-q : goal.returns-then-not-q
unfolding heard_said
returns-then-not-q c =
    let q = c.heard_words-q in
    rw (← q.ensures.value, not-true q.result.ok c.if-not-q.true, c.wrong.ensures)

pub hear_frame-requires : goal.hear_frame-requires
hear_frame-requires c =
    let n = c.heard_words-q.result.len in
    let bytes = c.heard_words-q.new.bytes in
    let frame : take c.least-len.result bytes ≡ take most_bytes (take n bytes) =
    c.least-len.ensures.a_value ∙ ap (λ (k : ℕ). take k bytes) c.min.ensures ∙ take_min n most_bytes bytes in
    taken-few most_bytes (take n bytes) frame

pub returns : goal.returns
unfolding heard_said
returns c =
    let q = c.heard_words-q in
    let n = q.result.len in
    let bytes = q.new.bytes in
    let frame : take c.least-len.result bytes ≡ take most_bytes (take n bytes) =
    c.least-len.ensures.a_value ∙ ap (λ (k : ℕ). take k bytes) c.min.ensures ∙ take_min n most_bytes bytes in
    rw (← q.ensures.value, ← q.ensures.bytes_after, ← frame)
    (cond_yes q.result.ok _ _ _ (not-false q.result.ok c.if-not-q.false) c.hear_frame.ensures)
