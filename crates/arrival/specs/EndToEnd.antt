-- END TO END, ON ONE PAGE (document 02, Change 10): from a fresh sender and a fresh box, over a channel that loses any frames, bursts or replies,
-- on links that take up to 16,777,216 bytes.
-- 1. "What the box has handed on is a beginning of the bytes that have begun to fly, in that order".
-- 2. "Every byte the sender counts as acknowledged is kept in the box or handed on by it".
-- The claim is `EndToEndClaim`, at the end. Definitions only. With one byte more it is false: docs/DIFFERENCES.md has the input.
-- To believe beside it: Channel.antt (what may happen); of crates/receiver Receiving.antt (the box's call), Taking.antt and Frames.antt, and of
-- crates/window Window.antt; of crates/demand Lists.antt (a call, what it leaves, what the tally is told of it); of crates/ledger Calls.antt
-- (lists of calls) and Tally.antt (the tally). It rests on demand 3 as crates/demand/specs/Page.antt states it.
use Rattle.std.specs.Prelude.{ℕ, ◌-◌, ◌≤◌, ◌<◌, ◌≡◌, ◌⊎◌, true, List, [], ◌∷◌, ◌++◌, map, length, get_or}
use Rattle.config.specs.declared.Profile.{Profile}
use Rattle.ledger.specs.Calls.{tally}
use Rattle.ledger.specs.Claim.{acked_at}
use Rattle.ledger.specs.Tally as T
use Rattle.ledger.specs.Tally.{Tally, byte_of}
use Rattle.window.specs.Window.{is_kept, kept_byte}
use Rattle.receiver.specs.Frames.{offsets}
use Rattle.demand.specs.Lists.{Given, next, call_told, fresh_start}
use Rattle.arrival.specs.Channel.{World, Happening, calls, arrives, happens, FromBox, quiet, sender_state}

module _ (p : Profile) (n : ℕ) where
  abbrev pub all_happens : List Happening → World → World
  all_happens [] w = w
  all_happens (h ∷ hs) w = all_happens hs (happens p n h w)

  -- what may happen: any call whose bytes are below 256, as their types have it, and whose acks are the box's; frames arrive at any time
  abbrev pub May : Happening → World → Type 0
  May (calls i) w = Given i (sender_state p n w) × FromBox w.answers i
  May (arrives k places db out) w = Unit {0}

  abbrev pub MayAll : List Happening → World → Type 0
  MayAll [] w = Unit {0}
  MayAll (h ∷ hs) w = May h w × MayAll hs (happens p n h w)

  -- document 01's tally of the sender's calls
  abbrev pub counted : World → Tally
  counted w = tally (next p) (call_told p) w.made (fresh_start n) T.start

  -- the bytes that have begun to fly, in that order
  abbrev pub flown_bytes : World → List ℕ
  flown_bytes w = map byte_of (counted w).flown

  -- "for links that take fewer than 16,777,216 bytes": as many are fine too
  abbrev pub FewTaken : World → Type 0
  FewTaken w = (counted w).taken ≤ offsets

  -- place of the window that offset o has
  abbrev pub place_in_window : ℕ → World → ℕ
  place_in_window o w = get_or w.window (o - length w.handed) 0

  pub record EndToEnd (w : World) : Type 0 where
    -- 1.
    pub beginning : (rest : List ℕ) × (flown_bytes w ≡ w.handed ++ rest)
    -- the box's first missing byte is the one behind those that it handed on
    pub count : w.receiver.first_missing ≡ length w.handed
    -- 2. and as it flew
    pub arrived : (o : ℕ) → acked_at o (counted w).flown ≡ true
        → (o < length w.handed) ⊎ ((is_kept (place_in_window o w) ≡ true) × (kept_byte (place_in_window o w) ≡ get_or (flown_bytes w) o 0))

-- THE CLAIM: of every profile, every length of work area and window, and all that may happen. That a profile has six rate ends at most is what
-- the type [u32; 6] says
abbrev pub EndToEndClaim : Type 0
EndToEndClaim = (p : Profile) → length p.codes.ends ≤ 6 → (n m : ℕ) (hs : List Happening) → MayAll p n hs (quiet m)
    → FewTaken p n (all_happens p n hs (quiet m)) → EndToEnd p n (all_happens p n hs (quiet m))
