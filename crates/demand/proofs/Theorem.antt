-- DEMAND 3, as one page states it (specs/Page.antt): after every list of connects, queuings, short acks, long acks, turns and bursts, refused ones included,
-- whatever the replies say, from a fresh sender and a work area of any number of zeros, under any profile.
-- Assumes nothing.
use mathlib.Core.Path.{◌≡◌, refl, sym, ap, ◌∙◌}
use mathlib.Core.List.{List, [], ◌∷◌, ◌++◌}
use mathlib.Core.Bool.{true, false}
use Prim.Native.Nat.{ℕ, ◌≤◌}
use native.Mathlib.Omega.{arith}
use lib.Dec.{eqb}
use lib.ListN.{length, take, drop}
use borrow.Author.Tests.{eq-eqb, ne_eqb}
use Rattle.laws.specs.Lists.{listed}
use Rattle.ledger.specs.Ledger.{Piece, len, end, find, offs}
use Rattle.ledger.specs.CoverCode.{Ascend}
use Rattle.ledger.specs.Tally.{waits}
use Rattle.demand.specs.Lists.{Call, queues, Given}
use Rattle.demand.specs.Page.{Hold, c, s, t, DemandThree}
use Rattle.demand.specs.PageCode.{AfterCalls}
use Rattle.demand.proofs.Payloads.{take-drop-more}
use Rattle.demand.proofs.Reached.{reached}

-- what holds of the piece that is found at an offset holds of each piece
hold : (bs ys : List ℕ) (m k n : ℕ) (ps : List Piece) → Ascend m k n ps
    → ((o : ℕ) → k ≤ o → listed o (offs ps) ≡ true → find o ps ≡ take (length (find o ps)) (drop o bs)) → Hold (bs ++ ys) ps
hold bs ys m k n [] a f = tt
hold bs ys m k n (q ∷ ps) a f =
    let here : eqb q.off q.off ≡ true = eq-eqb q.off q.off refl in
    let e : find q.off (q ∷ ps) ≡ q.bytes = rw here refl in
    let g = f q.off a.0 (rw here refl) in
    let h : q.bytes ≡ take (len q) (drop q.off bs) = sym e ∙ g ∙ ap (λ (x : List ℕ). take (length x) (drop q.off bs)) e in (
      a.1,
      h ∙ sym (take-drop-more (len q) q.off bs ys (omega (arith, ap length h))),
      hold bs ys m (end q) n ps a.3
          (λ o b l.
          let x : eqb o q.off ≡ false = ne_eqb o q.off (λ e. omega (arith, a.1, e)) in
          let y : find o (q ∷ ps) ≡ find o ps = rw x refl in
          let g = f o (omega (arith, a.0)) (rw x l) in sym y ∙ g ∙ ap (λ (z : List ℕ). take (length z) (drop o bs)) y),
    )

pub demand3 : DemandThree
demand3 p six n is gs =
    let d : (i : Call) → Given i (c p n is) → AfterCalls p n is i = reached p six n is gs in
    let q = d (queues 0 0 []) (λ i. omega arith) in
    let l = q.ledger in (
      record {
        sum = l.sum;
        taken = l.taken;
        each = l.each;
        whole = l.history;
        ascend = l.order;
        earliest = l.earliest;
        newest = l.newest;
        queue = l.queue;
        withdrawn = l.withdrawn;
        waiting = l.waiting;
        covers = l.covers;
        holds = hold _ (waits (t p n is)) _ 0 (s p n is).sender.next (s p n is).sender.pieces l.ascends (λ o k h. l.holds o h);
        acked = l.acked;
        next = l.next;
        flying = l.flying;
        pieces = l.pieces;
      },
      q.sound,
      (λ i g. let r = (d i g).ledger in record { exactly = r.exactly; keeps = r.keeps }),
      q.sends,
    )
