-- The loop over the frames of a reception: what is left to hear from a frame on, and what one turn does to it.
-- Assumes nothing.
use mathlib.Core.Path.{◌≡◌, refl, sym, ap, ◌∙◌}
use mathlib.Core.List.{List}
use mathlib.Core.Bool.{true, false, cond, ◌&&◌, false≢true}
use Prim.Native.Nat.{ℕ, suc, ◌+◌, ◌-◌, ◌≤◌, ◌<◌, min}
use native.Mathlib.Nat.{sub-zero}
use native.Mathlib.Omega.{arith}
use lib.Dec.{leb, eqb}
use lib.ListN.{length, take, drop, get_or, length-take, length-drop, drop_of_length-le}
use lib.Seq.{drop-drop}
use borrow.Author.Tests.{leb-true, leb-false}
use Rattle.laws.proofs.Picks.{cond_yes, cond_no, test}
use Rattle.report.specs.Ack.{ack_of}
use Rattle.config.specs.declared.Profile.{Profile}
use Rattle.record.specs.declared.Sender.{Sender}
use Rattle.record.specs.Setters.{with_link}
use Rattle.replies.specs.declared.Heard.{Heard}
use Rattle.replies.specs.declared.LongAck.{LongAck}
use Rattle.receive.specs.Accepted.{long_read}
use Rattle.reception.specs.Reception.{Decoded, decoded_from, decoded_in, is_ack_read, flags_of, frames_heard}
use Rattle.reception.specs.ReceptionCode.{read_noted}
use Rattle.reception.specs.declared.Reception.{Reception}
use Rattle.reception.proofs.Laws.{State, read-ends, long-quiet}

-- the bytes behind a payload, where it may have fewer bytes than its length says
behind : (l k : ℕ) (bs : List ℕ) → k ≡ min l (length bs) → drop l bs ≡ drop k bs
behind l k bs e =
    test (leb l (length bs))
    (λ t. let h = leb-true l (length bs) t in let q : l ≡ k = omega arith in ap (λ (n : ℕ). drop n bs) q)
    (λ t.
    let h = leb-false l (length bs) t in
    let x : length bs ≤ l = omega arith in
    let y : length bs ≤ k = omega arith in drop_of_length-le bs x ∙ sym (drop_of_length-le bs y))

module _ (p : Profile) (h : Heard) (r : Reception) (bs : List ℕ) (s : Sender) (a₀ : List ℕ) where
  pub record Hearing (a : List ℕ) (q : Sender) (at i : ℕ) : Type 0 where
    pub within : at ≤ length bs
    pub turns : i ≤ r.n
    pub long : length a ≡ length a₀
    -- while an ack is awaited nothing has changed
    pub first : q.link.awaiting ≡ true → ◌≡◌ {A = State} (q, a) (s, a₀)
    pub left : frames_heard p h (decoded_from r (r.n - i) i (drop at bs)) (q, a) ≡ frames_heard p h (decoded_in r bs) (s, a₀)

  pub hearing-start : Hearing a₀ s 0 0
  hearing-start = record { within = omega arith; turns = omega arith; long = refl; first = λ e. refl; left = rw sub-zero refl }

  pub hearing-end : (a : List ℕ) (q : Sender) (at i : ℕ) → Hearing a q at i → r.n - i ≡ 0 → (q, a) ≡ frames_heard p h (decoded_in r bs) (s, a₀)
  unfolding frames_heard
  hearing-end a q at i v e = sym (ap (λ (n : ℕ). frames_heard p h (decoded_from r n i (drop at bs)) (q, a)) e) ∙ v.left

  -- the frame at place i
  abbrev pub frame_at : ℕ → ℕ → Decoded
  frame_at at i = record { kind = get_or r.kind i 0; flags = get_or r.flags i 0; payload = take (get_or r.len i 0) (drop at bs) }

  module _ (a : List ℕ) (q : Sender) (at i k : ℕ) (v : Hearing a q at i) (more : i < r.n)
      (few : k ≤ length (drop at bs)) (span : k ≡ length (take k (drop at bs))) (cut : take k (drop at bs) ≡ take (get_or r.len i 0) (drop at bs)) where
    abbrev f : Decoded
    f = frame_at at i

    abbrev l : ℕ
    l = get_or r.len i 0

    spans : k ≡ length f.payload
    spans = span ∙ ap length cut

    pub tested : (eqb (get_or r.kind i 0) 4 && leb 13 k) ≡ is_ack_read f
    tested = ap (λ (n : ℕ). eqb (get_or r.kind i 0) 4 && leb 13 n) spans

    rest-is : drop l (drop at bs) ≡ drop (at + k) bs
    rest-is = behind l k (drop at bs) (spans ∙ length-take l (drop at bs)) ∙ drop-drop k at bs

    turn_is : frames_heard p h (decoded_from r (r.n - i) i (drop at bs)) (q, a)
        ≡ frames_heard p h (decoded_from r (r.n - (i + 1)) (i + 1) (drop (at + k) bs)) (cond (is_ack_read f) (long_read p h (flags_of f.flags) (ack_of f.payload) q a) (q, a))
    unfolding frames_heard
    turn_is =
        let e : r.n - i ≡ suc (r.n - (i + 1)) = omega arith in
        let e' : suc i ≡ i + 1 = omega arith in
        ap (λ (n : ℕ). frames_heard p h (decoded_from r n i (drop at bs)) (q, a)) e
        ∙ (λ j. frames_heard p h (decoded_from r (r.n - (i + 1)) (e' j) (rest-is j)) (cond (is_ack_read f) (long_read p h (flags_of f.flags) (ack_of f.payload) q a) (q, a)))

    -- one turn
    turned : (c : State) → c ≡ cond (is_ack_read f) (long_read p h (flags_of f.flags) (ack_of f.payload) q a) (q, a)
        → length c.1 ≡ length a → (c.0.link.awaiting ≡ true → c ≡ (s, a₀)) → Hearing c.1 c.0 (at + k) (i + 1)
    turned c e d w =
        record {
          within = omega (arith, few, length-drop at bs, v.within);
          turns = omega arith;
          long = d ∙ v.long;
          first = w;
          left = ap (frames_heard p h (decoded_from r (r.n - (i + 1)) (i + 1) (drop (at + k) bs))) e ∙ sym turn_is ∙ v.left;
        }

    -- a frame that is passed over
    pub hearing-passed : is_ack_read f ≡ false → Hearing a q (at + k) (i + 1)
    hearing-passed t = turned (q, a) (cond_no _ _ _ _ t refl) refl v.first

    -- one that is read, awaited or not
    pub hearing-read : (q' : Sender) (a' payload : List ℕ) (g : LongAck) → is_ack_read f ≡ true → payload ≡ take k (drop at bs) → g ≡ flags_of f.flags
        → (q', a') ≡ long_read p h g (ack_of payload) q a → length a' ≡ length a → Hearing a' q' (at + k) (i + 1)
    hearing-read q' a' payload g t e₁ e₂ e₃ d =
        let is : ◌≡◌ {A = State} (q', a') (long_read p h (flags_of f.flags) (ack_of f.payload) q a) =
        e₃ ∙ (λ j. long_read p h (e₂ j) (ack_of ((e₁ ∙ cut) j)) q a) in
        turned (q', a') (cond_yes _ _ _ _ t is) d
        (λ w. absurd (false≢true (sym (ap (λ (c : State). c.0.link.awaiting) is ∙ read-ends p h f q a t) ∙ w)))

    pub hearing-noted : (payload : List ℕ) (g : LongAck) (q' : Sender) → is_ack_read f ≡ true → payload ≡ take k (drop at bs) → g ≡ flags_of f.flags
        → q.link.awaiting ≡ false → q' ≡ with_link q (read_noted q.link h.time g (ack_of payload)) → Hearing a q' (at + k) (i + 1)
    hearing-noted payload g q' t e₁ e₂ w e =
        hearing-read q' a payload g t e₁ e₂ (ap (λ (x : Sender). (x, a)) e ∙ sym (long-quiet p h g (ack_of payload) q a w)) refl
