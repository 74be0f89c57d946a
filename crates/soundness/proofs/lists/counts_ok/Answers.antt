use mathlib.Core.Bool.{Bool, ◌&&◌}
use mathlib.Core.Path.{sym}
use native.Mathlib.Omega.{arith}
use lib.Dec.{leb}
use borrow.Author.Tests.{leb-true}
use Rattle.laws.specs.Tests.{all}
use Rattle.laws.proofs.Picks.{and_first, and_second}
use Rattle.soundness.specs.Soundness.{counts_ok}
use Rattle.soundness.proofs.fields.Counts.{too_many}
use Rattle.soundness.proofs.lists.counts_ok.Lts as lts
use Rattle.soundness.proofs.lists.counts_ok.Reads as reads
use Rattle.soundness.proofs.lists.counts_ok.Goals as goal

abbrev first : lts.Start reads.Pre reads.Post → Bool
first e = let s = e.args.s in (leb s.at_peer.n 64 && leb s.at_peer.rest s.at_peer.n) && leb s.last_burst.n 64

pub returns-then-not-h-b : goal.returns-then-not-h-b
unfolding counts_ok all
returns-then-not-h-b c =
    let e = c in
    let s = e.args.s in
    sym (too_many s.at_peer.n s.at_peer.rest s.last_burst.n _ c.if-not-h-b.true)

pub overflow_add-result : goal.overflow_add-result
overflow_add-result c =
    let d = c in
    let e = d in
    let s = e.args.s in
    let p = d.if-not-h-b.false in
    let q = and_first (leb s.at_peer.n 64 && leb s.at_peer.rest s.at_peer.n) (leb s.last_burst.n 64) p in
    omega (
      arith,
      leb-true s.last_burst.n 64 (and_second (leb s.at_peer.n 64 && leb s.at_peer.rest s.at_peer.n) (leb s.last_burst.n 64) p),
      leb-true s.at_peer.n 64 (and_first (leb s.at_peer.n 64) (leb s.at_peer.rest s.at_peer.n) q),
      leb-true s.at_peer.rest s.at_peer.n (and_second (leb s.at_peer.n 64) (leb s.at_peer.rest s.at_peer.n) q),
    )

pub returns : goal.returns
unfolding counts_ok all
returns c =
    let d = c in
    let e = d in
    let s = e.args.s in
    let p = d.if-not-h-b.false in
    let q = and_first (leb s.at_peer.n 64 && leb s.at_peer.rest s.at_peer.n) (leb s.last_burst.n 64) p in
    let n = and_first (leb s.at_peer.n 64) (leb s.at_peer.rest s.at_peer.n) q in
    let r = and_second (leb s.at_peer.n 64) (leb s.at_peer.rest s.at_peer.n) q in
    simp (n, r)
