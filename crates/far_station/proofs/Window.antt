-- The test against WINDOW_BYTES never stops a chunk: at most 16,256 bytes are in flight when a burst cuts its first new piece, and it
-- cuts at most 64 of at most 254 bytes.
-- Assumes nothing.
use mathlib.Core.Path.{◌≡◌, refl, sym, ap, subst}
use mathlib.Core.Bool.{true}
use mathlib.Core.List.{List, [], ◌∷◌}
use Prim.Native.Nat.{ℕ, zero, suc, ◌+◌, ◌-◌, ◌*◌, ◌≤◌, ◌<◌}
use native.Mathlib.Nat.{mul-le-mul}
use native.Mathlib.Omega.{arith}
use lib.ListN.{length, take, drop, replicate, length-take}
use borrow.Author.Tests.{lt-ltb}
use Rattle.limits.specs.Limits.{max_slots}
use Rattle.config.specs.declared.Profile.{Profile}
use Rattle.config.specs.Ranged.{Ranged}
use Rattle.config.specs.Ranges.{in_order}
use Rattle.ledger.specs.Ledger.{Sender, Plan, size, recut, old_offs, chunks, new_pieces}
use Rattle.ledger.specs.Plan.{plan_of}
use Rattle.ledger.specs.Sizes.{Sizes}
use Rattle.ledger.specs.SizesCode.{SizeRange}
use Rattle.ledger.specs.Sound.{Sound, Fits}
use Rattle.ledger.proofs.Burst.{recut-size, payload-most}
use Rattle.outgoing.specs.Choosing.{choice}
use Rattle.record.specs.Profiles.{sizes_of}
use Rattle.record.specs.View.{view}
use Rattle.queuing.specs.Station.{view_station}
use Rattle.queuing.proofs.Shown.{fresh-shows}
use Rattle.ledger.specs.Station as LS
use Rattle.invariant.proofs.Bursts.{choice-fits}
use Rattle.demand.specs.Lists.{State, fresh_start, shown}
use Rattle.demand.proofs.Steps.{Ok, sizes}
use Rattle.far_station.specs.CannotForce.{window_bytes, chunks_within}

chunks-within : (n k m o : ℕ) (w : List ℕ) → n + k * m < window_bytes → chunks_within n k m o w ≡ chunks k m o w
chunks-within n zero m o w h = refl
chunks-within n (suc k) m o [] h = refl
chunks-within n (suc k) m o (x ∷ w) h =
    let l = length (take m (x ∷ w)) in
    let e = length-take m (x ∷ w) in
    rw (lt-ltb n window_bytes (omega arith), chunks-within (n + l) k m (o + l) (drop m (x ∷ w)) (omega arith))

-- a plan cuts the same new pieces with the test as without it
abbrev Open : Plan → Sender → Type 0
Open g s = chunks_within (size (recut g s)) (g.room - length (old_offs g s)) g.payload s.next s.waiting ≡ new_pieces g s

-- of a sound sender and any plan that fits
window-open : (z : Sizes) (s : Sender) → Sound z s → SizeRange z → (g : Plan) → Fits z s g → Open g s
window-open z s so zr g fi =
    let few : g.room - length (old_offs g s) ≤ max_slots = omega (arith, fi.room) in
    chunks-within (size (recut g s)) (g.room - length (old_offs g s)) g.payload s.next s.waiting
    (omega (arith, recut-size z zr s g so fi, so.bytes, mul-le-mul few (payload-most z zr s g so fi)))

-- where nothing waits there is no chunk
none-waiting : (n k m o : ℕ) → chunks_within n k m o [] ≡ chunks k m o []
none-waiting n zero m o = refl
none-waiting n (suc k) m o = refl

idle-open : (g : Plan) (s : Sender) → s.waiting ≡ [] → Open g s
idle-open g s e =
    let k = g.room - length (old_offs g s) in
    subst (λ (w : List ℕ). chunks_within (size (recut g s)) k g.payload s.next w ≡ chunks k g.payload s.next w) (sym e)
    (none-waiting (size (recut g s)) k g.payload s.next)

module _ (p : Profile) where
  -- the plan that the record's gear makes
  abbrev plan : State → Plan
  plan c = plan_of (sizes_of p) (choice p c.0.sender) (shown c).sender

  abbrev pub OpenAt : State → Type 0
  OpenAt c = Open (plan c) (shown c).sender

  pub sound-open : (rg : Ranged p) (io : in_order p ≡ true) (six : length p.codes.ends ≤ 6) (c : State) → Ok p rg io six c → OpenAt c
  unfolding view_station
  sound-open rg io six c w =
      let s = c.0.sender in
      window-open (sizes_of p) (view s c.1) w.well.sound.ledger (sizes p rg io six) _ (choice-fits p rg s c.1 w.well six)

  pub fresh-open : (n : ℕ) → OpenAt (fresh_start n)
  fresh-open n =
      let c = fresh_start n in
      idle-open (plan c) (shown c).sender (ap (λ (x : LS.Station). x.sender.waiting) (fresh-shows (replicate n 0)))
