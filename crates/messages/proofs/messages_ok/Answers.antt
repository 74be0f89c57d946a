-- `messages::messages_ok` meets its contract. The invariant: test and sum of all entries are those of the entries from row i on, and the sum so far.
use Rattle.limits.specs.Limits.{max_class}
use lib.Dec.{leb, ltb}
use mathlib.Core.Bool.{◌&&◌}
use native.Mathlib.Nat.{add-zero}
use borrow.Author.Tests.{lt-ltb, le-ltb, le-leb, lt-leb}
use Rattle.messages.specs.declared.Messages.{Messages}
use Rattle.messages.specs.Messages.{entries_in, entries_ok, messages_ok}
use Rattle.messages.proofs.Scan.{rest, ok-turn, total-turn, ok_end, total-end}
use Prim.Native.Nat.{ℕ, ◌+◌, ◌≤◌, ◌<◌}
use mathlib.Core.Path.{◌≡◌, ◌∙◌}
use native.Mathlib.Omega.{arith}
use lib.ListN.{get_or}
use Rattle.messages.proofs.messages_ok.Goals as goal

pub returns-then-m-gt-MAX_MESSAGES : goal.returns-then-m-gt-MAX_MESSAGES
unfolding messages_ok
returns-then-m-gt-MAX_MESSAGES c = simp (lt-leb _ _ c.if-m-gt-MAX_MESSAGES.true)

-- in a turn
turned : (m : Messages) (i : ℕ) → entries_ok (entries_in m) ≡ entries_ok (rest m m.n i) → i < m.n
    → entries_ok (entries_in m) ≡ (ltb 0 (get_or m.left i 0) && (leb (get_or m.class i 0) max_class && entries_ok (rest m m.n (i + 1))))
turned m i v h = v ∙ ok-turn m m.n i h

pub returns-then-l-eq0 : goal.returns-then-l-eq0
unfolding messages_ok
returns-then-l-eq0 c =
    let z : get_or c.args.m.left c.loop-i.i 0 ≤ 0 = omega arith in
    simp (le-leb _ _ c.if-m-gt-MAX_MESSAGES.false, turned c.args.m c.loop-i.i c.loop-i.invariant.1 (omega arith), le-ltb _ _ z)

pub returns-then-c-gt-MAX_CLASS : goal.returns-then-c-gt-MAX_CLASS
unfolding messages_ok
returns-then-c-gt-MAX_CLASS c =
    let z : 0 < get_or c.args.m.left c.loop-i.i 0 = omega arith in
    simp (le-leb _ _ c.if-m-gt-MAX_MESSAGES.false, turned c.args.m c.loop-i.i c.loop-i.invariant.1 (omega arith), lt-ltb _ _ z, lt-leb _ _ c.if-c-gt-MAX_CLASS.true)

pub loop-i-preserved : goal.loop-i-preserved
loop-i-preserved c =
    let a = c.args in
    let i = c.loop-i.i in
    let z : 0 < get_or a.m.left i 0 = omega arith in (
      omega (arith, c.from-sum.ensures),
      turned c.args.m c.loop-i.i c.loop-i.invariant.1 (omega arith) ∙ simp (lt-ltb _ _ z, le-leb _ _ c.if-c-gt-MAX_CLASS.false),
      omega (arith, c.from-sum.ensures, c.loop-i.invariant.2, total-turn a.m a.m.n i (omega arith)),
    )

pub returns : goal.returns
unfolding messages_ok
returns c =
    let a = c.args in
    let end : a.m.n ≤ c.loop-i.i = omega arith in
    simp (le-leb _ _ c.if-m-gt-MAX_MESSAGES.false, c.loop-i.invariant.1, c.loop-i.invariant.2, ok_end a.m a.m.n c.loop-i.i end, total-end a.m a.m.n c.loop-i.i end, add-zero)
