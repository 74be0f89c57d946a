-- `reception::hear_frames` meets its contract. The invariant: what is left to hear from frame i on (Turns.antt).
use Prim.Native.Nat.{ℕ, ◌+◌, ◌-◌, ◌≤◌}
use mathlib.Core.Path.{◌≡◌, refl, sym, ap, subst, ◌∙◌}
use mathlib.Core.List.{List}
use native.Mathlib.Omega.{arith}
use native.Mathlib.Nat.{add-sub_cancel_left}
use lib.ListN.{length, take, drop, get_or, length-drop}
use lib.Seq.{take_all}
use Rattle.laws.specs.Bytes.{part}
use Rattle.record.specs.declared.Sender.{Sender}
use Rattle.record.specs.Setters.{with_link}
use Rattle.replies.specs.RepliesCode.{ReplyReady}
use Rattle.reception.proofs.Laws.{State}
use Rattle.reception.proofs.Turns.{Hearing, hearing-start, tested, hearing-passed, hearing-read, hearing-noted, hearing-end}
use Rattle.reception.proofs.hear_frames.Goals as goal
use Rattle.reception.proofs.hear_frames.Goals.{then-r-i+then-q, then-r-i+else-q, else-r-i}

-- the k bytes that are read, of the payloads from this frame's on
read_part : (bs : List ℕ) (at k l n : ℕ) → k ≤ length (part bs at (length bs - at)) → k ≡ length (take k (part bs at (length bs - at)))
    → take k (part bs at (length bs - at)) ≡ take l (part bs at (length bs - at)) → l ≡ n
    → (k ≤ length (drop at bs)) × (k ≡ length (take k (drop at bs))) × (take k (drop at bs) ≡ take n (drop at bs))
read_part bs at k l n few span cut e =
    let t : part bs at (length bs - at) ≡ drop at bs = take_all (length bs - at) (drop at bs) (omega (arith, length-drop at bs)) in (
      subst (λ (y : List ℕ). k ≤ length y) t few,
      subst (λ (y : List ℕ). k ≡ length (take k y)) t span,
      subst (λ (y : List ℕ). take k y ≡ take l y) t cut ∙ ap (λ (m : ℕ). take m (drop at bs)) e,
    )

ends : (bs : List ℕ) (at k : ℕ) → at ≤ length bs → k ≤ length (part bs at (length bs - at)) → at + k ≤ length bs
ends bs at k h few =
    let t : part bs at (length bs - at) ≡ drop at bs = take_all (length bs - at) (drop at bs) (omega (arith, length-drop at bs)) in
    let e : k ≤ length (drop at bs) = subst (λ (y : List ℕ). k ≤ length y) t few in
    omega (arith, length-drop at bs)

pub loop-i-init : goal.loop-i-init
loop-i-init c = hearing-start _ _ _ _ _ _

pub overflow_add-at : goal.overflow_add-at
overflow_add-at c =
    let e = ends c.args.payloads.now c.loop-i.at c.least-k.result c.loop-i.invariant.within c.least-k.ensures.upper_bound in
    omega arith

pub hear_payload-q-requires : goal.hear_payload-q-requires
hear_payload-q-requires c =
    let q = c.requires.fact_2 in
    let ready = subst (λ (y : State). ReplyReady c.args.p y.0 y.1) (sym (c.loop-i.invariant.first c.if-q.true)) q.0 in record {
      fact_1 = c.requires.fact_1;
      fact_2 = (ready, q.1);
    }

pub overflow_add-at-else-q : goal.overflow_add-at-else-q
overflow_add-at-else-q c =
    let e = ends c.args.payloads.now c.loop-i.at c.least-k.result c.loop-i.invariant.within c.least-k.ensures.upper_bound in
    omega arith

pub overflow_add-at-in-loop-i : goal.overflow_add-at-in-loop-i
overflow_add-at-in-loop-i c =
    let e = ends c.args.payloads.now c.loop-i.at c.least-k.result c.loop-i.invariant.within c.least-k.ensures.upper_bound in
    omega arith

pub loop-i-preserved : goal.loop-i-preserved
loop-i-preserved c =
    let bs = c.args.payloads.now in
    let at = c.loop-i.at in
    let k = c.least-k.result in
    let v = c.loop-i.invariant in
    let more = c.loop-i-test.true in
    let e = c.least-k.ensures in
    let r = read_part bs at k (get_or c.args.r.len c.loop-i.i 0) (get_or c.args.r.len c.loop-i.i 0) e.upper_bound e.value e.a_value refl in
    let is_read = sym (tested _ _ _ _ _ _ _ _ _ _ _ v more r.0 r.1 r.2) in
    let payload = ap (λ (n : ℕ). take n (drop at bs)) (add-sub_cancel_left at k) in
    let next : List ℕ → Sender → Type 0 = λ y q. Hearing c.args.p c.args.h c.args.r bs c.args.s c.args.a.now y q (at + k)
    (c.loop-i.i + 1) in
    elim c.if-r-i.branch [
      | then-r-i+then-q w ↦
          hearing-read _ _ _ _ _ _ _ _ _ _ _ v more r.0 r.1 r.2 c.if-r-i.q c.if-r-i.a _ _ (is_read ∙ w.if-r-i.true) payload
          c.flags_of-f.ensures
          ((λ j. (w.q-is j, w.a-is j)) ∙ w.hear_payload-q.ensures) (ap length w.a-is ∙ w.hear_payload-q.auto.a)
      | then-r-i+else-q w ↦
          subst (λ (y : List ℕ). next y c.if-r-i.q) (sym w.a-is)
          (hearing-noted _ _ _ _ _ _ _ _ _ _ _ v more r.0 r.1 r.2 _ _ c.if-r-i.q (is_read ∙ w.if-r-i.true) payload
          c.flags_of-f.ensures w.if-q.false
          (w.q-is ∙ ap (with_link c.loop-i.q) w.unasked-q.ensures))
      | else-r-i w ↦
          subst (λ (y : List ℕ). next y c.if-r-i.q) (sym w.a-is)
          (subst (next c.loop-i.a) (sym w.q-is) (hearing-passed _ _ _ _ _ _ _ _ _ _ _ v more r.0 r.1 r.2 (is_read ∙ w.if-r-i.false)))
    ]

pub returns : goal.returns
returns c =
    let e : c.args.r.n - c.loop-i.i ≡ 0 = omega (arith, c.loop-i-test.false) in
    hearing-end _ _ _ _ _ _ _ _ _ _ c.loop-i.invariant e
