-- WHAT A FAR STATION CANNOT FORCE, ON ONE PAGE (document 02, Change 14): of every list of calls from a fresh sender, refused ones included,
-- whatever replies it has.
-- 1. "No acknowledged byte is in any later frame".
-- 2. "The test against WINDOW_BYTES never stops a chunk".
-- 3. "Each level's hold ends no later than the time of the last judged reply (an awaited ack, or a turn that ends an outstanding burst with
--    a frame) plus the larger of fail_hold_max_s and loss_hold_s, that sum rounded once, or has never been set".
-- The claim is `CannotForce`, at the end. Definitions only. docs/LISTING.md has it in plain words, with the numbers of the default profile.
-- To believe beside it: of crates/demand Lists.antt (a call, what it leaves, what the tally is told of it) and Page.antt (after a list of
-- calls: record and work area, here `reached`; what they show, `shows`; the tally, `tallied`; what a burst answers, `answer`); of
-- crates/ledger Calls.antt (lists of calls), Tally.antt (the tally), Ledger.antt and Plan.antt (how a burst is cut).
use Rattle.std.specs.Prelude.{◌≡◌, ◌⊎◌, List, [], ◌∷◌, ◌++◌, Bool, true, false, cond, ◌||◌, ℕ, zero, suc, ◌+◌, ◌-◌, ◌≤◌, ◌<◌, ltb, Float, length, get_or, take, drop}
use Rattle.std.proofs.Math.Option.{Option, none, some}
use Rattle.std.specs.Float.{nan, inf, binary64}
use Rattle.std.specs.Float.Ieee.{add, le}
use Rattle.float.specs.Pick.{max_f}
use Rattle.config.specs.declared.Profile.{Profile}
use Rattle.ledger.specs.Calls.{Along}
use Rattle.ledger.specs.Claim.{acked_at}
use Rattle.ledger.specs.Ledger.{Piece, Frame, size, recut, old_offs, new_pieces}
use Rattle.ledger.specs.Plan.{plan_of}
use Rattle.ledger.specs.Tally.{Tally, start, Event, silent, took, reply, replies, turn, went, Outstanding, nothing, outstanding, within, feed}
use Rattle.outgoing.specs.Choosing.{choice}
use Rattle.record.specs.Profiles.{sizes_of}
use Rattle.demand.specs.Lists.{Call, queues, hears, receives, bursts, State, Given, fresh_start, frames_answered, next, call_told}
use Rattle.demand.specs.Page.{c as reached, s as shows, t as tallied, answer}

-- ---- 1. acknowledged bytes

-- whether one of the frames has offset o
abbrev pub in_frames : ℕ → List Frame → Bool
in_frames o [] = false
in_frames o (f ∷ fs) = within f.off f.len o || in_frames o fs

-- ---- 2. the window

-- station.rs: `pub const WINDOW_BYTES: usize = 64 * 1024`
abbrev pub window_bytes : ℕ
window_bytes = 65536

-- `data_burst`'s loop that cuts new pieces, as the Rust has it: n bytes are in flight, at most k pieces of at most m bytes are cut from
-- offset o and the waiting bytes w on, and it goes on while `in_flight < WINDOW_BYTES`. The same loop without that test is `chunks` of
-- crates/ledger Ledger.antt, by which `new_pieces` are cut
abbrev pub chunks_within : ℕ → ℕ → ℕ → ℕ → List ℕ → List Piece
chunks_within n zero m o w = []
chunks_within n (suc k) m o [] = []
chunks_within n (suc k) m o (x ∷ w) =
    let l = length (take m (x ∷ w)) in
    cond (ltb n window_bytes) (record { off = o; bytes = take m (x ∷ w) } ∷ chunks_within (n + l) k m (o + l) (drop m (x ∷ w))) []

-- ---- 3. holds

-- whether a call that is told as e is a judged reply: "an awaited ack, or a turn that ends an outstanding burst with a frame"
abbrev pub judges : Event → Outstanding → Bool
judges silent out = false
judges (took k l bs) out = false
judges (reply r) nothing = false
judges (reply r) (outstanding n fs) = true
judges (replies []) out = false
judges (replies (r ∷ rs)) nothing = false
judges (replies (r ∷ rs)) (outstanding n fs) = true
judges turn nothing = false
judges turn (outstanding n []) = false
judges turn (outstanding n (f ∷ fs)) = true
judges (went n fs) out = false

-- the time of the last judged reply, where it was j before the call
abbrev pub judged_by : Call → Event → Outstanding → Option Float → Option Float
judged_by (queues k l bs) e out j = j
judged_by (hears h r payload) e out j = cond (judges e out) (some h.time) j
judged_by (receives h r payloads) e out j = cond (judges e out) (some h.time) j
judged_by (bursts o) e out j = j

module _ (p : Profile) where
  -- the same after a list of calls, from record and work area c, a tally t and the time j
  abbrev pub last_judged : List Call → State → Tally → Option Float → Option Float
  last_judged [] c t j = j
  last_judged (i ∷ is) c t j = last_judged is (next p i c) (feed (call_told p i c) t) (judged_by i (call_told p i c) t.out j)

  -- "plus the larger of fail_hold_max_s and loss_hold_s, that sum rounded once"
  abbrev pub latest : Float → Float
  latest time = add binary64 time (max_f p.hold_times.fail_hold_max_s p.hold_times.loss_hold_s)

  -- a hold's end x; one that has never been set is minus infinity
  abbrev pub EndsBy : Option Float → Float → Type 0
  EndsBy none x = x ≡ inf true
  EndsBy (some time) x = (x ≡ inf true) ⊎ (le x (latest time) ≡ true)

-- ---- after the calls `is`, from a fresh record and n zeros

module _ (p : Profile) (n : ℕ) (is : List Call) where
  -- an offset that is acknowledged then is in no frame of a burst after any calls `js` more, into any output
  abbrev pub NotSentAgain : List Call → List ℕ → Type 0
  NotSentAgain js out =
      (o : ℕ) → acked_at o (tallied p n is).flown ≡ true → in_frames o (frames_answered (answer p n (is ++ js) out).frames) ≡ false

  -- the next burst cuts the same new pieces with the test as without it
  abbrev pub NeverStopped : Type 0
  NeverStopped =
      let s = (shows p n is).sender in
      let g = plan_of (sizes_of p) (choice p (reached p n is).0.sender) s in
      chunks_within (size (recut g s)) (g.room - length (old_offs g s)) g.payload s.next s.waiting ≡ new_pieces g s

  abbrev pub HoldsEnd : Type 0
  HoldsEnd =
      (k : ℕ) → k < 17
      → EndsBy p (last_judged p is (fresh_start n) start none) (get_or (reached p n is).0.sender.gear.holds.blocked_until k nan)

-- THE CLAIM: of every profile, every length of the work area and every list of calls. That a profile has six rate ends at most, and that a
-- byte is below 256 (`Given`), is what the types [u32; 6] and [u8] say
abbrev pub CannotForce : Type 0
CannotForce = (p : Profile) → length p.codes.ends ≤ 6 → (n : ℕ) (is : List Call) → Along (next p) Given is (fresh_start n)
    → ((js : List Call) → Along (next p) Given (is ++ js) (fresh_start n) → (out : List ℕ) → NotSentAgain p n is js out)
    × NeverStopped p n is
    × HoldsEnd p n is
