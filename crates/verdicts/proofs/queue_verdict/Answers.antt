-- `verdicts::queue_verdict` meets its contract.
use mathlib.Core.Bool.{cond, ◌&&◌}
use mathlib.Core.Path.{◌≡◌, refl, sym, ap, subst, ◌∙◌}
use Prim.Native.Nat.{ℕ, ◌-◌, ◌≤◌}
use native.Mathlib.Omega.{arith}
use lib.Dec.{ltb, leb, eqb}
use borrow.Author.Tests.{lt-ltb, le-ltb}
use Rattle.laws.proofs.Picks.{cond_yes, cond_no}
use Rattle.limits.specs.Limits.{max_messages}
use Rattle.std.specs.Prelude.{Result, Ok, Err, ⊤}
use Rattle.area.specs.declared.room.NoRoom.{NoRoom}
use Rattle.area.specs.declared.room.NoRoom.TheVariants as N
use Rattle.area.specs.Room.{room_number, queue_refusal}
use Rattle.refusals.specs.Refusals.{refusal_of}
use Rattle.refusals.specs.Verdict.{Verdict, QueueFull, AllTaken}
use Rattle.messages.specs.declared.Withdrawal.{Withdrawal}
use Rattle.messages.proofs.Kept.{gone-within}
use Rattle.verdicts.specs.Verdicts.{taken_by, room_verdict}
use Rattle.verdicts.proofs.Passed.{is-passed, from-err}
use Rattle.verdicts.proofs.queue_verdict.Goals as goal

-- 8 and 9 by what `queue_refusal` answers, and what comes after them
no-room : (why : NoRoom) (q : ℕ) (w : Verdict) → room_number (Err why) ≡ q → Err (refusal_of why) ≡ cond (eqb q 8) QueueFull (cond (eqb q 9) AllTaken w)
no-room N.QueueFull q w e = ap (λ (k : ℕ). cond (eqb k 8) QueueFull (cond (eqb k 9) AllTaken w)) e
no-room N.AllTaken q w e = ap (λ (k : ℕ). cond (eqb k 8) QueueFull (cond (eqb k 9) AllTaken w)) e

has-room : (x : ⊤) (q : ℕ) (w : Verdict) → room_number (Ok x) ≡ q → w ≡ cond (eqb q 8) QueueFull (cond (eqb q 9) AllTaken w)
has-room x q w e = ap (λ (k : ℕ). cond (eqb k 8) QueueFull (cond (eqb k 9) AllTaken w)) e

pub returns-then-class-gt-MAX_CLASS : goal.returns-then-class-gt-MAX_CLASS
unfolding room_verdict
returns-then-class-gt-MAX_CLASS c =
    let a = c.args in
    let ok = is-passed _ _ _ refl c.in_ok-v.was in
    cond_yes _ _ _ _ ok (cond_yes _ _ _ _ (lt-ltb _ _ c.if-class-gt-MAX_CLASS.true) refl)

pub superseded-gone-requires : goal.superseded-gone-requires
superseded-gone-requires c =
    let a = c.args in
    let ok = is-passed _ _ _ refl c.in_ok-v.was in
    (c.requires.sound_messages ok).few

-- what is withdrawn is among the messages
pub overflow_sub-c : goal.overflow_sub-c
overflow_sub-c c =
    let a = c.args in
    let ok = is-passed _ _ _ refl c.in_ok-v.was in
    let w : (c.superseded-gone.result.n ≤ a.m.n) × (c.superseded-gone.result.bytes ≤ a.c.waiting) =
    subst (λ (x : Withdrawal). (x.n ≤ a.m.n) × (x.bytes ≤ a.c.waiting)) (sym c.superseded-gone.ensures)
    (gone-within a.m a.c.waiting a.label a.n (c.requires.sound_messages ok)) in
    omega (arith, w.1)

pub overflow_add-c : goal.overflow_add-c
overflow_add-c c =
    let a = c.args in
    let ok = is-passed _ _ _ refl c.in_ok-v.was in
    omega (arith, c.requires.m_bound ok)

pub overflow_add-c-2 : goal.overflow_add-c-2
overflow_add-c-2 c =
    let a = c.args in
    let ok = is-passed _ _ _ refl c.in_ok-v.was in
    omega (arith, c.requires.m_bound ok)

pub overflow_sub-m : goal.overflow_sub-m
overflow_sub-m c =
    let a = c.args in
    let ok = is-passed _ _ _ refl c.in_ok-v.was in
    let w : (c.superseded-gone.result.n ≤ a.m.n) × (c.superseded-gone.result.bytes ≤ a.c.waiting) =
    subst (λ (x : Withdrawal). (x.n ≤ a.m.n) × (x.bytes ≤ a.c.waiting)) (sym c.superseded-gone.ensures)
    (gone-within a.m a.c.waiting a.label a.n (c.requires.sound_messages ok)) in
    omega (arith, w.0)

pub returns-in_err-queue_refusal : goal.returns-in_err-queue_refusal
unfolding room_verdict
returns-in_err-queue_refusal c =
    let a = c.args in
    let q = c.in_err-queue_refusal.ensures
    ∙ ap (λ (x : Withdrawal). queue_refusal (a.c.waiting - x.bytes) (taken_by a.c a.m) a.n) c.superseded-gone.ensures in
    from-err _ _ c.from_residual-in_err-queue_refusal.ensures.1
    ∙ cond_yes _ _ _ _ (is-passed _ _ _ refl c.in_ok-v.was)
    (cond_no _ _ _ _ (le-ltb _ _ c.if-class-gt-MAX_CLASS.false) (no-room _ _ _ q))

pub returns-then-n-m : goal.returns-then-n-m
unfolding room_verdict
returns-then-n-m c =
    let a = c.args in
    let q = sym (ap (λ (r : Result ⊤ NoRoom). room_number r) c.in_ok-queue_refusal.was) ∙ c.queue_refusal.ensures
    ∙ ap (λ (x : Withdrawal). queue_refusal (a.c.waiting - x.bytes) (taken_by a.c a.m) a.n) c.superseded-gone.ensures in
    let rows = ap (λ (x : Withdrawal). ltb 0 a.n && leb max_messages (a.m.n - x.n)) c.superseded-gone.ensures in
    cond_yes _ _ _ _ (is-passed _ _ _ refl c.in_ok-v.was)
    (cond_no _ _ _ _ (le-ltb _ _ c.if-class-gt-MAX_CLASS.false)
    (cond_yes _ _ _ _ (sym rows ∙ c.if-n-m.true) refl ∙ has-room _ _ _ q))

pub returns : goal.returns
unfolding room_verdict
returns c =
    let a = c.args in
    let q = sym (ap (λ (r : Result ⊤ NoRoom). room_number r) c.in_ok-queue_refusal.was) ∙ c.queue_refusal.ensures
    ∙ ap (λ (x : Withdrawal). queue_refusal (a.c.waiting - x.bytes) (taken_by a.c a.m) a.n) c.superseded-gone.ensures in
    let rows = ap (λ (x : Withdrawal). ltb 0 a.n && leb max_messages (a.m.n - x.n)) c.superseded-gone.ensures in
    cond_yes _ _ _ _ (is-passed _ _ _ refl c.in_ok-v.was)
    (cond_no _ _ _ _ (le-ltb _ _ c.if-class-gt-MAX_CLASS.false)
    (cond_no _ _ _ _ (sym rows ∙ c.if-n-m.false) refl ∙ has-room _ _ _ q))
