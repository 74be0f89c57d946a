-- A REFUSED CALL CHANGES NOTHING: record, work area and output are what they were. And no call, refused or not, changes a byte of the work area past its 49,152.
-- Assumes nothing.
use mathlib.Core.Path.{◌≡◌, refl, sym, ap, ◌∙◌}
use mathlib.Core.List.{List, [], ◌∷◌, ◌++◌}
use mathlib.Core.Bool.{Bool, true, false}
use Prim.Native.Nat.{ℕ, ◌+◌, ◌≤◌}
use native.Mathlib.Omega.{arith}
use lib.Ieee.{Float}
use lib.ListN.{length, drop, length-append, length-map}
use Rattle.std.proofs.Common.{Option, Some, None}
use Rattle.laws.specs.Bytes.{overwrite}
use Rattle.laws.proofs.Bytes.{drop-over, length_part}
use Rattle.laws.proofs.Picks.{by, either}
use Rattle.harq.specs.Held.{h_max}
use Rattle.report.specs.Ack.{ack_of}
use Rattle.report.specs.declared.ack.AckInfo.{AckInfo}
use Rattle.config.specs.declared.Profile.{Profile}
use Rattle.config.specs.Ranges.{in_range, in_order}
use Rattle.config.proofs.ranges.Ranged.{ranged}
use Rattle.ledger.specs.Ledger as L
use Rattle.ledger.specs.Ledger.{Piece, size, bytes_of}
use Rattle.ledger.specs.Reply as B
use Rattle.ledger.specs.Plan.{plan_of}
use Rattle.ledger.specs.Sizes.{Sizes}
use Rattle.ledger.specs.SizesCode.{SizeRange}
use Rattle.ledger.specs.Sound.{Sound}
use Rattle.ledger.proofs.Burst.{burst-sound}
use Rattle.ledger.proofs.Kept.{ack-sound, clear-sound, queue-sound}
use Rattle.ledger.proofs.Planned.{planned-fits}
use Rattle.ledger.proofs.ShortFrames.{pieces-short_frames}
use Rattle.ledger.proofs.Stream.{length-bytes_of}
use Rattle.area.specs.Layout.{area_bytes, place, stream_bytes}
use Rattle.area.specs.Table.{table_bytes}
use Rattle.area.proofs.table.Laws.{length-table}
use Rattle.area.proofs.room.Laws.{stream-holds, not-refused}
use Rattle.record.specs.Profiles.{sizes_of}
use Rattle.record.specs.View.{view, rows_of, store_area}
use Rattle.ledger.specs.Queue.{goes, enqueue}
use Rattle.ledger.specs.Station.{take_in}
use Rattle.ledger.proofs.Queue.{length-enqueue}
use Rattle.messages.specs.Messages.{queue_in}
use Rattle.messages.proofs.Link.{shown, superseded-bytes}
use Rattle.messages.proofs.Kept.{ok-sound}
use Rattle.queuing.specs.Station.{view_station, queued_in}
use Rattle.queuing.specs.declared.Station.{Station}
use Rattle.soundness.specs.SoundnessCode.{SoundRecord}
use Rattle.record.specs.declared.Sender.{Sender}
use Rattle.record.proofs.View.{Arrays}
use Rattle.soundness.specs.Soundness.{sound_ok}
use Rattle.soundness.proofs.fields.Sound.{test-sound, sound-counted, sound-level, profile-sizes}
use Rattle.settle.specs.AckIn.{keeps, ack_in}
use Rattle.replies.specs.Replies.{short_acked, long_acked, turned}
use Rattle.replies.specs.declared.Heard.{Heard}
use Rattle.replies.specs.declared.LongAck as A
use Rattle.refusals.specs.declared.Reply.{Reply}
use Rattle.refusals.specs.declared.Reply.TheVariants.{ConnAck, Ack, LongAck, Turn}
use Rattle.outgoing.specs.Choosing.{choice}
use Rattle.outgoing.specs.Outgoing.{burst_of}
use Rattle.outgoing.proofs.Choices.{choice-ranged}
use Rattle.verdicts.specs.Verdicts.{passed, queue_verdict, receive_verdict, frames_verdict, burst_verdict}
use Rattle.verdicts.proofs.Passed.{queue-passed, receive-three, frames-passed, burst-passed}
use Rattle.receive.specs.Accepted.{long_read, accepted_reply}
use Rattle.reception.specs.Reception.{Decoded, decoded_in, is_ack_read, flags_of, frames_heard}
use Rattle.reception.specs.declared.Reception.{Reception}
use Rattle.reception.proofs.Laws.{read-ends, quiet-area}
use Rattle.sender.specs.Calls.{Answer, Bursted, queue_of, receive_of, frames_of, no_burst, burst_call}
use Rattle.sender.proofs.Accepted.{queue-refused, receive-refused, frames-refused}
use Rattle.sender.proofs.Bursting.{burst-refused}
use Rattle.limits.specs.Limits.{max_pieces}

-- ---- the verdict that comes back

module _ (p : Profile) (t : Station) (a : List ℕ) where
  pub queue-verdict : (class label : ℕ) (bs : List ℕ) → (queue_of p t a class label bs).0.verdict ≡ queue_verdict p t a class label (length bs)
  unfolding queue_of
  queue-verdict class label bs = let v = queue_verdict p t a class label (length bs) in either (λ (x : Answer × List ℕ). x.0.verdict ≡ v) (passed v) _ _ refl refl

  pub receive-verdict : (h : Heard) (r : Reply) (payload : List ℕ) → (receive_of p t a h r payload).0.verdict ≡ receive_verdict p t a h r (length payload)
  unfolding receive_of
  receive-verdict h r payload = let v = receive_verdict p t a h r (length payload) in either (λ (x : Answer × List ℕ). x.0.verdict ≡ v) (passed v) _ _ refl refl

  pub frames-verdict : (h : Heard) (r : Reception) (payloads : List ℕ) → (frames_of p t a h r payloads).0.verdict ≡ frames_verdict p t a h r.n
  unfolding frames_of
  frames-verdict h r payloads = let v = frames_verdict p t a h r.n in either (λ (x : Answer × List ℕ). x.0.verdict ≡ v) (passed v) _ _ refl refl

  pub burst-verdict : (out : List ℕ) → (burst_call p t a out).0.verdict ≡ burst_verdict p t a (length out)
  unfolding burst_call
  burst-verdict out = let v = burst_verdict p t a (length out) in either (λ (x : Bursted × (List ℕ × List ℕ)). x.0.verdict ≡ v) (passed v) _ _ refl refl

-- ---- refused

module _ (p : Profile) (t : Station) (a : List ℕ) where
  pub queue-keeps : (class label : ℕ) (bs : List ℕ) → passed (queue_verdict p t a class label (length bs)) ≡ false
      → queue_of p t a class label bs ≡ (record { verdict = queue_verdict p t a class label (length bs); next = t }, a)
  queue-keeps class label bs e = sym (queue-refused p t a class label bs (queue_verdict p t a class label (length bs)) refl e)

  pub receive-keeps : (h : Heard) (r : Reply) (payload : List ℕ) → passed (receive_verdict p t a h r (length payload)) ≡ false
      → receive_of p t a h r payload ≡ (record { verdict = receive_verdict p t a h r (length payload); next = t }, a)
  receive-keeps h r payload e = sym (receive-refused p t a h r payload (receive_verdict p t a h r (length payload)) refl e)

  pub frames-keeps : (h : Heard) (r : Reception) (payloads : List ℕ) → passed (frames_verdict p t a h r.n) ≡ false
      → frames_of p t a h r payloads ≡ (record { verdict = frames_verdict p t a h r.n; next = t }, a)
  frames-keeps h r payloads e = sym (frames-refused p t a h r payloads (frames_verdict p t a h r.n) refl e)

  pub burst-keeps : (out : List ℕ) → passed (burst_verdict p t a (length out)) ≡ false
      → burst_call p t a out ≡ (record { verdict = burst_verdict p t a (length out); outgoing = no_burst; next = t }, (a, out))
  burst-keeps out e = sym (burst-refused p t a out (burst_verdict p t a (length out)) no_burst refl refl e)

-- ---- the work area past its bytes

module _ (a : List ℕ) where
  -- what fits is stored before them
  past : (l : L.Sender) → length l.pieces ≤ max_pieces → size l.pieces + length l.waiting ≤ stream_bytes → drop area_bytes (store_area l a) ≡ drop area_bytes a
  unfolding store_area
  past l rows stream =
      let st = bytes_of l.pieces ++ l.waiting in
      let n : length (rows_of l.pieces) ≡ length l.pieces = length-map l.pieces (λ (q : Piece). record { off = q.off; len = length q.bytes }) in
      drop-over area_bytes (overwrite a 0 st) (place 0) (table_bytes (rows_of l.pieces)) (omega (arith, length-table (rows_of l.pieces), n))
      ∙ drop-over area_bytes a 0 st (omega (arith, length-append (bytes_of l.pieces) l.waiting, length-bytes_of l.pieces))

  -- a sound sender fits
  sound-past : (z : Sizes) → SizeRange z → (l : L.Sender) → Sound z l → drop area_bytes (store_area l a) ≡ drop area_bytes a
  sound-past z zr l so =
      past l (omega (arith, pieces-short_frames z.short (omega (arith, zr.least)) z.long 0 l.next l.pieces so.ascend, so.shorts))
      (omega (arith, so.bytes, so.few_waiting, stream-holds))

waiting-length : (p : Profile) (s : Sender) (a : List ℕ) → SoundRecord p s a → length (view s a).waiting ≡ s.counts.waiting
unfolding view
waiting-length p s a so = let c = sound-counted p s a so in length_part a s.counts.flying s.counts.waiting (omega (arith, c.stream, c.area))

-- an accepted reply or burst
module _ (p : Profile) (s : Sender) (a : List ℕ) (ar : Arrays s) (one : in_range p ≡ true) (two : in_order p ≡ true) (three : sound_ok p s a ≡ true) where
  abbrev z : Sizes
  z = sizes_of p

  ledger : Sound z (view s a)
  ledger = (test-sound p s a ar three).ledger

  zr : SizeRange z
  zr = profile-sizes p (ranged p one) two

  -- an ack, once it is noted
  ack-past : (r : B.Reply) (stored : Bool) (snr now : Float) (q : Sender) → view q a ≡ view s a → drop area_bytes (ack_in p r stored snr now q a).1 ≡ drop area_bytes a
  unfolding ack_in
  ack-past r stored snr now q e =
      ap (λ (l : L.Sender). drop area_bytes (store_area (L.hear_ack (h_max p.codes) r (keeps p q.gear stored) l) a)) e ∙ sound-past a z zr _ (ack-sound z r (keeps p q.gear stored) (view s a) ledger)

  abbrev Past : Sender × List ℕ → Type 0
  Past x = drop area_bytes x.1 ≡ drop area_bytes a

  long-past : (h : Heard) (r : A.LongAck) (i : Option AckInfo) → Past (long_read p h r i s a)
  unfolding long_acked view
  long-past h r None = refl
  long-past h r (Some i) = either Past s.link.awaiting _ _ (ack-past _ _ _ _ _ refl) refl

  -- the first frame that is read may settle; after it the work area stays
  frames-past : (h : Heard) (fs : List Decoded) → Past (frames_heard p h fs (s, a))
  unfolding frames_heard
  frames-past h [] = refl
  frames-past h (f ∷ fs) =
      by (λ (c : Sender × List ℕ). Past (frames_heard p h fs c)) (is_ack_read f)
      (λ e.
      let x = long_read p h (flags_of f.flags) (ack_of f.payload) s a in
      ap (drop area_bytes) (quiet-area p h fs x (read-ends p h f s a e)) ∙ long-past h (flags_of f.flags) (ack_of f.payload))
      (λ e. frames-past h fs)

  reply-past : (h : Heard) (r : Reply) (payload : List ℕ) → Past (accepted_reply p h r payload s a)
  unfolding short_acked turned view
  reply-past h (ConnAck r) payload = refl
  reply-past h (Ack r) payload = either Past s.link.awaiting _ _ (ack-past _ _ _ _ _ refl) refl
  reply-past h (LongAck r) payload = long-past h r (ack_of payload)
  reply-past h (Turn r) payload = sound-past a z zr _ (clear-sound z (view s a) ledger)

  sent-past : length p.codes.ends ≤ 6 → (out : List ℕ) → drop area_bytes (burst_of p s a out).1.0 ≡ drop area_bytes a
  unfolding burst_of
  sent-past six out =
      let fits = planned-fits z (choice p s) (view s a) ledger (choice-ranged p (ranged p one) s (sound-level p s a (test-sound p s a ar three)) six) in
      sound-past a z zr _ (burst-sound z zr (view s a) (plan_of z (choice p s) (view s a)) ledger fits)

-- of each call, refused or not: `Arrays`, and six rate ends, are what the types say
module _ (p : Profile) (t : Station) (a : List ℕ) (ar : Arrays t.sender) where
  abbrev s : Sender
  s = t.sender

  -- an accepted queuing
  queued-past : (class label : ℕ) (bs : List ℕ) → passed (queue_verdict p t a class label (length bs)) ≡ true → drop area_bytes (queued_in class label bs t a).1 ≡ drop area_bytes a
  unfolding queued_in take_in view_station view
  queued-past class label [] e = refl
  queued-past class label (b ∷ bs) e =
      let q = queue-passed p t a class label (length (b ∷ bs)) e in
      let so = test-sound p s a ar q.sound in
      let m = t.messages in
      let w = (view s a).waiting in
      let sum = (ok-sound _ _ q.listed).sum ∙ sym (waiting-length p s a so) in
      let n = length-enqueue class label (queue_in m w) (b ∷ bs) in
      let g = superseded-bytes m w sum label (b ∷ bs) in
      let r = not-refused _ _ _ q.room in
      let k : length (goes (queue_in m w)) ≡ s.counts.waiting = ap length (shown m w sum) ∙ waiting-length p s a so in
      sound-past a (sizes_of p) (profile-sizes p (ranged p q.one) q.two) _
      (queue-sound (sizes_of p) (goes (enqueue class label (b ∷ bs) (queue_in m w))) (view s a) (omega (arith, n, g, k, r.0)) (omega (arith, n, g, k, r.1)) so.ledger)

  pub queue-past : (class label : ℕ) (bs : List ℕ) → drop area_bytes (queue_of p t a class label bs).1 ≡ drop area_bytes a
  unfolding queue_of
  queue-past class label bs =
      by (λ (x : Answer × List ℕ). drop area_bytes x.1 ≡ drop area_bytes a) (passed (queue_verdict p t a class label (length bs))) (queued-past class label bs) (λ e. refl)

  pub receive-past : (h : Heard) (r : Reply) (payload : List ℕ) → drop area_bytes (receive_of p t a h r payload).1 ≡ drop area_bytes a
  unfolding receive_of
  receive-past h r payload =
      by (λ (x : Answer × List ℕ). drop area_bytes x.1 ≡ drop area_bytes a) (passed (receive_verdict p t a h r (length payload)))
      (λ e. let ok = receive-three p t a h r (length payload) e in reply-past p s a ar ok.0 ok.1 ok.2 h r payload)
      (λ e. refl)

  pub reception-past : (h : Heard) (r : Reception) (payloads : List ℕ) → drop area_bytes (frames_of p t a h r payloads).1 ≡ drop area_bytes a
  unfolding frames_of
  reception-past h r payloads =
      by (λ (x : Answer × List ℕ). drop area_bytes x.1 ≡ drop area_bytes a) (passed (frames_verdict p t a h r.n))
      (λ e. let ok = (frames-passed p t a h r.n e).stands in frames-past p s a ar ok.0 ok.1 ok.2 h (decoded_in r payloads))
      (λ e. refl)

  pub burst-past : length p.codes.ends ≤ 6 → (out : List ℕ) → drop area_bytes (burst_call p t a out).1.0 ≡ drop area_bytes a
  unfolding burst_call
  burst-past six out =
      by (λ (x : Bursted × (List ℕ × List ℕ)). drop area_bytes x.1.0 ≡ drop area_bytes a) (passed (burst_verdict p t a (length out)))
      (λ e. let ok = burst-passed p t a (length out) e in sent-past p s a ar ok.0 ok.1 ok.2 six out)
      (λ e. refl)
