-- `arrive`: by whether its line is right; its places are read back from the room for them. Assumes nothing.
use mathlib.Core.Path.{◌∙◌, ap}
use mathlib.Core.List.{List}
use Prim.Native.Nat.{ℕ}
use native.Mathlib.Omega.{arith}
use lib.ListN.{length, replicate, length-replicate}
use Rattle.laws.proofs.Bytes.{length_over}
use Rattle.words.specs.Words.{decimal_of}
use Rattle.words.specs.Lines.{read_as}
use Rattle.box_lines.specs.BoxLines.{places_from}
use borrow.Author.Tests.{not-true, not-false}
use Rattle.box_calls.specs.BoxCalls.{most_places, arriving_said, arrive_said}
use Rattle.box_calls.proofs.Parts.{places-few, places_count, read_back}
use Rattle.box_calls.proofs.arrive.Goals as goal

pub returns-then-not-q : goal.returns-then-not-q
unfolding arrive_said
returns-then-not-q c =
    let q = c.places_words-q in
    rw (← q.ensures.value, not-true q.result.ok c.if-not-q.true, c.wrong.ensures)

pub arriving-requires : goal.arriving-requires
arriving-requires c =
    let all =
    ap (λ (l : List ℕ). length l) c.places_words-q.ensures.places_after ∙ length_over _ _ _ ∙ length-replicate {A = ℕ} 1024 0 in
    omega (arith, c.least-k.ensures.upper_bound, c.least-k.ensures.value, all)

pub returns : goal.returns
unfolding arrive_said
returns c =
    let q = c.places_words-q in
    let k = c.least-k in
    let a = c.args in
    let chars = a.line.now in
    let r = read_as decimal_of chars a.r in
    let t : ℕ × List ℕ = (a.n, a.t.now) in
    let all : List ℕ = (places_from most_places a.b.frames chars r).0 in
    let few = places-few most_places a.b.frames chars r in
    let back =
    read_back (replicate 1024 0) all _ q.result.n k.result (omega (arith, few, length-replicate {A = ℕ} 1024 0))
    q.ensures.places_after (places_count most_places a.b.frames chars a.r q.ensures.value) k.ensures.a_value in
    rw (← q.ensures.value, not-false q.result.ok c.if-not-q.false)
    (c.arriving.ensures ∙ ap (λ (l : List ℕ). arriving_said q.result.db l a.b a.most a.w.now a.sent.now t) back)
