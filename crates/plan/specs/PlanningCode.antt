-- The plan of `data_burst` (sender.rs; document 01, module 6), over the held pieces' bits: what follows the code or serves proofs; nothing here has to be believed.
use Rattle.std.specs.Prelude.{List, [], ◌∷◌, ◌≡◌, Bool, true, cond, not, ◌&&◌, ◌||◌, ℕ, zero, suc, ◌+◌, ◌-◌, ◌*◌, ◌^◌, ◌≤◌, min, max, leb, ltb, eqb, length, take, get_or}
use Rattle.ieee.specs.Range.{In, w64}
use Rattle.harq.specs.Held.{increment_of}
use Rattle.harq.specs.declared.Harq.{Harq}
use Rattle.plan.specs.declared.Choice.{Choice}
use Rattle.plan.specs.declared.Planned.{Planned}
use Rattle.limits.specs.Limits.{max_slots, partial_max, tiny_ack_frames, max_bits}
use Rattle.plan.specs.Planning.{fits}

-- seconds and bits per second in the profile's range
pub record AirRange (c : Choice) : Type 0 where
  pub pre : In (w64 0) (w64 60) c.pre_s
  pub rate : In (w64 1) (w64 100000) c.rate
  pub cue : In (w64 0) (w64 10) c.cue_s

-- slot bits and rate ends too
pub record CodesRange (q : Harq) (c : Choice) : Type 0 where
  pub air : AirRange c
  pub slot : (1 ≤ c.slot) × (c.slot ≤ max_bits)
  pub ends : (k : ℕ) → get_or q.ends k 0 ≤ max_bits

abbrev pub cap_of : Choice → ℕ
cap_of c = cond c.long max_slots tiny_ack_frames

unfoldable pub too_big_for : Choice → ℕ → ℕ → Bool
too_big_for c n bits = ltb (cap_of c) n || ltb 0 n && not (fits c bits)

module _ (q : Harq) (c : Choice) where
  -- the bits of increments of pieces of which the peer holds `bs`
  unfoldable pub parity_bits_of : List ℕ → ℕ
  parity_bits_of [] = 0
  parity_bits_of (b ∷ bs) = increment_of q b c.slot + parity_bits_of bs

  -- the loop that pops increments: the first n are left
  unfoldable pub popped_from : List ℕ → ℕ → ℕ
  popped_from bs zero = zero
  popped_from bs (suc n) = cond (ltb partial_max (suc n) || too_big_for c (suc n) (parity_bits_of (take (suc n) bs))) (popped_from bs n) (suc n)

  -- all that the peer holds, or none
  abbrev pub offered_of : List ℕ → ℕ
  offered_of bs = cond (c.long && c.same_wave) (length bs) 0

  -- `parity.len()`: all where they fit, else behind a cue with harq_partial those that fit, else none
  unfoldable pub parity_of : List ℕ → ℕ
  parity_of bs =
      cond (too_big_for c (offered_of bs) (parity_bits_of (take (offered_of bs) bs)))
      (cond c.partial (popped_from bs (offered_of bs)) 0)
      (offered_of bs)

-- the test of the loop that counts `room`, with n increments of b bits, and `stored` held
unfoldable pub one_more_fits : Choice → ℕ → ℕ → ℕ → ℕ → Bool
one_more_fits c n stored b r =
    ltb (n + r) (cap_of c) && ltb (stored + r) max_slots && fits c (b + suc r * c.slot) && leb (b + suc r * c.slot) c.max_bits

-- the loop from r on, k turns at most
unfoldable pub room_counted : Choice → ℕ → ℕ → ℕ → ℕ → ℕ → ℕ
room_counted c n stored b zero r = r
room_counted c n stored b (suc k) r = cond (one_more_fits c n stored b r) (room_counted c n stored b k (suc r)) r

-- ---- the order of the planning sheet: from the most slots down to the first number that fits

-- "a longer burst is never shorter on air"
abbrev pub NeverShorter : Choice → Type 0
NeverShorter c = (a b : ℕ) → a ≤ b → b ≤ 2 ^ 32 → fits c b ≡ true → fits c a ≡ true

-- the slots that n increments and `stored` held pieces leave
abbrev pub most_of : Choice → ℕ → ℕ → ℕ
most_of c n stored = min (cap_of c - n) (max_slots - stored)

-- r whole pieces fit beside increments of b bits
unfoldable pub fits_with : Choice → ℕ → ℕ → Bool
fits_with c b r = fits c (b + r * c.slot) && leb (b + r * c.slot) c.max_bits

-- from r down; none is not tested
unfoldable pub room_down : Choice → ℕ → ℕ → ℕ
room_down c b zero = zero
room_down c b (suc r) = cond (fits_with c b (suc r)) (suc r) (room_down c b r)

-- of increments all that the peer holds stays stored, of none nothing
unfoldable pub planned : Harq → Choice → List ℕ → Planned
planned q c bs =
    let n = parity_of q c bs in
    let b = parity_bits_of q c (take n bs) in
    let stored = cond (eqb n 0) 0 (length bs) in
    let r = room_counted c n stored b max_slots 0 in
    record { parity = n; parity_bits = b; stored = stored; room = cond (eqb n 0) (max 1 r) r }
