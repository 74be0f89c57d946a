-- DEMAND 3 ON ONE PAGE: after every list of calls, refused ones included, no byte is lost, doubled or altered. Definitions only.
-- To believe beside it: Lists.antt (a call, what it leaves, what the tally is told of it); of crates/ledger Calls.antt (lists of calls),
-- Tally.antt (the tally), Queue.antt (the messages that wait), Reply.antt (which bits an ack sets) and Claim.antt (what is said of an offset);
-- of crates/record View.antt and of crates/queuing Station.antt (what record and work area show). docs/LISTING.md says more.
use Rattle.std.specs.Prelude.{◌≡◌, ◌⊎◌, List, [], ◌∷◌, ◌++◌, map, Bool, true, false, not, ◌&&◌, ◌||◌, ℕ, ◌+◌, ◌*◌, ◌≤◌, ltb, eqb, Float, length, take, drop}
use Rattle.std.specs.Float.Ieee.{le}
use Rattle.laws.specs.Bytes.{overwrite}
use Rattle.laws.specs.Lists.{listed}
use Rattle.limits.specs.Limits.{longest_payload, max_flying, max_pieces}
use Rattle.frame.specs.Frame.{frame_of}
use Rattle.config.specs.Durations.{frame_bytes, data_at}
use Rattle.config.specs.declared.Profile.{Profile}
use Rattle.config.specs.Ranges.{in_range, in_order}
use Rattle.gear.specs.BurstLength.{burst_len}
use Rattle.gear.specs.declared.Gear.{Gear}
use Rattle.ledger.specs.Calls.{Along, run, history, tally}
use Rattle.ledger.specs.Claim.{covering, flying_at, acked_at, settled_by}
use Rattle.ledger.specs.Ledger.{Sender, Piece, Frame, Sent, len, find, held_offs}
use Rattle.ledger.specs.Queue.{Message, message_bytes, behind, rest, count_those, withdraws, of_class, Ascending, Sublist}
use Rattle.ledger.specs.Station as L
use Rattle.ledger.specs.Tally as T
use Rattle.ledger.specs.Tally.{Tally, Event, byte_of, in_flight, acknowledged, waits, feed}
use Rattle.area.specs.Layout.{area_bytes}
use Rattle.outgoing.specs.declared.Outgoing.{Outgoing}
use Rattle.verdicts.specs.Verdicts.{passed, station_ok}
use Rattle.sender.specs.Calls.{burst_call}
use Rattle.demand.specs.Lists.{Call, bursts, State, Given, fresh_start, shown, frames_answered, next, call_told}

-- each piece has 1 byte or more, and holds the bytes taken at its offset
abbrev pub Hold : List ℕ → List Piece → Type 0
Hold bytes [] = Unit {0}
Hold bytes (q ∷ qs) = (1 ≤ len q) × (q.bytes ≡ take (len q) (drop q.off bytes)) × Hold bytes qs

-- The bytes by offset, which "follows the order of beginning": those that have flown, then those that wait, in the order in which they will go
abbrev pub by_offset : Tally → List ℕ
by_offset t = map byte_of t.flown ++ waits t

-- the messages that have not begun
abbrev pub unbegun : Tally → List Message
unbegun t = behind t.queue.begun t.queue.messages

-- After a list of calls: ms are the messages queued, in order; t is the tally; s is what record and work area show.
pub record Accounts (ms : List Message) (t : Tally) (s : L.Station) : Type 0 where
  -- Of the tally alone: taken = waiting + in flight + acknowledged + withdrawn
  pub sum : t.taken ≡ length (waits t) + in_flight t.flown + acknowledged t.flown + length (message_bytes t.withdrawn)
  pub taken : t.taken ≡ length (message_bytes ms)
  -- each message queued is in exactly one: begun, not begun, or withdrawn; so "a message withdrawn has never been on the air"
  pub each : (q : Message → Bool) → count_those q ms ≡ count_those q t.began + count_those q (unbegun t) + count_those q t.withdrawn
  -- "A message once begun is finished": the flown bytes, acknowledged or not, with what is left of the begun message, are the begun messages one
  -- after the other
  pub whole : map byte_of t.flown ++ rest t.queue ≡ message_bytes t.began
  -- "Then the lowest class waiting goes": classes ascend behind the begun message; "the earliest of it first": those of a class began, and
  -- wait, in the order in which they were queued, the withdrawn ones left out
  pub ascend : Ascending 0 (unbegun t)
  pub earliest : (c : ℕ) → Sublist (of_class c t.began ++ of_class c (unbegun t)) (of_class c ms)
  -- "A newer bulletin supersedes the older": of those that have not begun one at most bears a label
  pub newest : (l : ℕ) → count_those (λ (m : Message). withdraws l m.label) (unbegun t) ≤ 1
  -- Of the sender: the messages, and the waiting bytes in their order; each offset in flight in one piece and no other in any; in the pieces
  -- the bytes taken; the count acknowledged; the next offset
  pub queue : s.queue ≡ t.queue
  -- the bytes withdrawn
  pub withdrawn : s.withdrawn ≡ length (message_bytes t.withdrawn)
  pub waiting : s.sender.waiting ≡ waits t
  pub covers : (o : ℕ) → covering o s.sender.pieces ≡ flying_at o t.flown
  pub holds : Hold (by_offset t) s.sender.pieces
  pub acked : s.sender.acked ≡ acknowledged t.flown
  pub next : s.sender.next ≡ length t.flown
  -- at most 16,256 bytes fly, in at most 2,048 pieces
  pub flying : in_flight t.flown ≤ max_flying
  pub pieces : length s.sender.pieces ≤ max_pieces

-- One further call, told as e, leaves what s' shows.
pub record Further (t : Tally) (s : Sender) (e : Event) (s' : Sender) : Type 0 where
  -- acknowledged after it: what was, and what an accepted reply with the outstanding burst's number sets the bit of a frame of
  pub exactly : (o : ℕ) → acked_at o (feed e t).flown ≡ acked_at o t.flown || (ltb o (length t.flown) && settled_by e t.out o)
  -- an offset in the held list before and after it has the same piece
  pub keeps : (o : ℕ) → listed o (held_offs s.held) ≡ true → listed o (held_offs s'.held) ≡ true
      → (1 ≤ length (find o s.pieces)) × (find o s'.pieces ≡ find o s.pieces)

-- each frame has 1 byte or more, all of them taken
abbrev pub Taken : List ℕ → List Frame → Type 0
Taken bytes [] = Unit {0}
Taken bytes (f ∷ fs) = (1 ≤ f.len) × (f.off + f.len ≤ length bytes) × Taken bytes fs

-- "A payload has at most 254 bytes": no frame's length, which is what its length byte says, is 255
abbrev pub NoneReserved : List Frame → Type 0
NoneReserved [] = Unit {0}
NoneReserved (f ∷ fs) = (f.len ≤ longest_payload) × NoneReserved fs

-- beside its bytes a frame has room for head and check sum, 10 bytes
abbrev pub WithRoom : ℕ → List Frame → Type 0
WithRoom size [] = Unit {0}
WithRoom size (f ∷ fs) = (f.len + 10 ≤ size) × WithRoom size fs

-- frames of `size` bytes, back to back, each with the bytes taken at its full offset, as many as its length says
abbrev pub frames_of_taken : ℕ → List ℕ → List Frame → List ℕ
frames_of_taken size bytes [] = []
frames_of_taken size bytes (f ∷ fs) = frame_of size f.off (take f.len (drop f.off bytes)) ++ frames_of_taken size bytes fs

abbrev pub sum_of : List ℕ → ℕ
sum_of [] = 0
sum_of (x ∷ xs) = x + sum_of xs

-- seconds on air of a burst as it is answered, at level l: the bits of its frames, and the cue where one is sent; each operation rounded once
abbrev pub on_air : Profile → ℕ → Outgoing → Float
on_air p l x = data_at p.air l (sum_of (take x.frames.n x.frames.bits)) x.cue

-- "The air allowance is the burst length for all", `burst_len_s` (document 02, Change 11)
abbrev pub allowance : Profile → Gear → Float
allowance p g = burst_len p g g.level

-- "Parity is frames of increments": a frame after which the peer holds more than its own bits
abbrev pub any_increment : List Sent → Bool
any_increment [] = false
any_increment (f ∷ fs) = not (eqb f.held f.bits) || any_increment fs

module _ (p : Profile) (n : ℕ) (is : List Call) where
  -- record and work area after the calls `is`, from a fresh record and n zeros; what they show; the tally of the calls; the messages queued,
  -- in order
  abbrev pub c : State
  c = run (next p) is (fresh_start n)

  abbrev pub s : L.Station
  s = shown c

  abbrev pub t : Tally
  t = tally (next p) (call_told p) is (fresh_start n) T.start

  abbrev pub messages : List Message
  messages = history (next p) (call_told p) is (fresh_start n)

  abbrev pub bytes : List ℕ
  bytes = by_offset t

  -- a burst into `out` that is not refused
  module _ (out : List ℕ) where
    abbrev pub answer : Outgoing
    answer = (burst_call p c.0 c.1 out).0.outgoing

    -- the frames that it leaves outstanding
    abbrev pub leaves : List Sent
    leaves = (shown (next p (bursts out) c)).sender.sent

    pub record Sends : Type 0 where
      -- the output has the answer's frames, each with the bytes taken at its full offset, and nothing else
      pub frames : Taken bytes (frames_answered answer.frames)
      pub lengths : NoneReserved (frames_answered answer.frames)
      pub output : (burst_call p c.0 c.1 out).1.1
          ≡ overwrite out 0 (frames_of_taken (frame_bytes p c.0.sender.gear.level) bytes (frames_answered answer.frames))
      -- none of them is cut off: each is as long as the level's frames are, and the output has room for all
      pub room : WithRoom (frame_bytes p c.0.sender.gear.level) (frames_answered answer.frames)
      pub fits : length (frames_answered answer.frames) * frame_bytes p c.0.sender.gear.level ≤ length out
      -- where any byte flies or waits it has a frame
      pub some : 1 ≤ in_flight t.flown + length (waits t) → 1 ≤ answer.frames.n
      -- two frames or more, or parity: its seconds on air are within its allowance
      pub air : (2 ≤ answer.frames.n) ⊎ (any_increment leaves ≡ true)
          → le (on_air p c.0.sender.gear.level answer) (allowance p c.0.sender.gear) ≡ true

-- THE CLAIM: of every profile, every length of the work area, every list of calls, every further call and every burst. That a profile has
-- six rate ends at most, and that a byte is below 256 (`Given`), is what the types [u32; 6] and [u8] say. Refusal 3 never comes under a
-- profile that is not refused, with 49,152 bytes or more
abbrev pub DemandThree : Type 0
DemandThree = (p : Profile) → length p.codes.ends ≤ 6 → (n : ℕ) (is : List Call) → Along (next p) Given is (fresh_start n)
    → Accounts (messages p n is) (t p n is) (s p n is)
    × ((in_range p && in_order p) ≡ true → area_bytes ≤ n → station_ok p (c p n is).0 (c p n is).1 ≡ true)
    × ((i : Call) → Given i (c p n is)
    → Further (t p n is) (s p n is).sender (call_told p i (c p n is)) (shown (next p i (c p n is))).sender)
    × ((out : List ℕ) → passed (burst_call p (c p n is).0 (c p n is).1 out).0.verdict ≡ true → Sends p n is out)
