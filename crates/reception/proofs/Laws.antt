-- After a frame that is read no ack is awaited, and then frames change the link alone.
-- Assumes nothing.
use mathlib.Core.Path.{◌≡◌, refl, sym, ap, ◌∙◌, subst}
use mathlib.Core.List.{List, [], ◌∷◌}
use mathlib.Core.Bool.{true, false}
use Prim.Native.Nat.{ℕ, ◌≤◌}
use lib.Dec.{leb, eqb}
use lib.ListN.{length}
use borrow.Author.Tests.{leb-true, le-ltb}
use Rattle.std.proofs.Common.{Option, Some, None}
use Rattle.laws.proofs.Picks.{by, and_second}
use Rattle.report.specs.Ack.{info_of, ack_of}
use Rattle.report.specs.declared.ack.AckInfo.{AckInfo}
use Rattle.config.specs.declared.Profile.{Profile}
use Rattle.ledger.proofs.Sentences.{ack-ends}
use Rattle.record.specs.View.{store, store_link}
use Rattle.record.specs.declared.Link.{Link}
use Rattle.record.specs.declared.Sender.{Sender}
use Rattle.record.specs.Setters.{with_link}
use Rattle.settle.specs.AckIn.{ack_in}
use Rattle.replies.specs.Replies.{long_acked}
use Rattle.replies.specs.declared.Heard.{Heard}
use Rattle.replies.specs.declared.LongAck.{LongAck}
use Rattle.receive.specs.Accepted.{long_read}
use Rattle.reception.specs.Reception.{Decoded, is_ack_read, flags_of, frames_heard}
use Rattle.reception.specs.ReceptionCode.{read_noted}

abbrev pub State : Type 0
State = Sender × List ℕ

pub read-long : (f : Decoded) → is_ack_read f ≡ true → 13 ≤ length f.payload
read-long f e = leb-true 13 (length f.payload) (and_second (eqb f.kind 4) (leb 13 (length f.payload)) e)

pub read-info : (b : List ℕ) → 13 ≤ length b → ack_of b ≡ Some (info_of b)
unfolding ack_of
read-info b h = rw (le-ltb (length b) 13 h) refl

module _ (p : Profile) (h : Heard) where
  long-ends : (r : LongAck) (i : AckInfo) (s : Sender) (a : List ℕ) → (long_acked p h r i s a).0.link.awaiting ≡ false
  unfolding long_acked ack_in store store_link
  long-ends r i s a = by (λ (x : State). x.0.link.awaiting ≡ false) s.link.awaiting (λ e. ack-ends _ _ _ _) (λ e. e)

  -- one that is not awaited changes the link alone
  pub long-quiet : (r : LongAck) (x : Option AckInfo) (s : Sender) (a : List ℕ) → s.link.awaiting ≡ false
      → long_read p h r x s a ≡ (with_link s (read_noted s.link h.time r x), a)
  unfolding long_acked
  long-quiet r None s a e = refl
  long-quiet r (Some i) s a e = rw e refl

  pub read-ends : (f : Decoded) (s : Sender) (a : List ℕ) → is_ack_read f ≡ true
      → (long_read p h (flags_of f.flags) (ack_of f.payload) s a).0.link.awaiting ≡ false
  read-ends f s a e =
      subst (λ (x : Option AckInfo). (long_read p h (flags_of f.flags) x s a).0.link.awaiting ≡ false) (sym (read-info f.payload (read-long f e)))
      (long-ends (flags_of f.flags) (info_of f.payload) s a)

  pub noted-quiet : (k : Link) (r : LongAck) (x : Option AckInfo) → (read_noted k h.time r x).awaiting ≡ k.awaiting
  noted-quiet k r None = refl
  noted-quiet k r (Some i) = refl

  -- where none is awaited the work area stays
  pub quiet-area : (fs : List Decoded) (c : State) → c.0.link.awaiting ≡ false → (frames_heard p h fs c).1 ≡ c.1
  unfolding frames_heard
  quiet-area [] c e = refl
  quiet-area (f ∷ fs) c e =
      by (λ (d : State). (frames_heard p h fs d).1 ≡ c.1) (is_ack_read f)
      (λ t.
      let r = flags_of f.flags in
      let x = ack_of f.payload in
      ap (λ (d : State). (frames_heard p h fs d).1) (long-quiet r x c.0 c.1 e)
      ∙ quiet-area fs (with_link c.0 (read_noted c.0.link h.time r x), c.1) (noted-quiet c.0.link r x ∙ e))
      (λ t. quiet-area fs c e)
