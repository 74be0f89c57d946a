-- The calls, as far as the ledger goes, lists of them, and what the tally is fed. Definitions only.
use Rattle.std.specs.Prelude.{ℕ, ◌+◌, List, [], ◌∷◌, ◌++◌}
use Rattle.ledger.specs.Queue.{Message}
use Rattle.ledger.specs.Tally.{Tally, Event, feed, messages_told}

-- Any sender: its states C, a call's arguments I, and the state that a call leaves. The ledger's own has `Station`, `Move` and `step`
module _ {C I : Type 0} (next : I → C → C) where
  -- the state after a list of calls
  abbrev pub run : List I → C → C
  run [] c = c
  run (i ∷ is) c = run is (next i c)

  -- P holds of each call, in the state that it finds
  abbrev pub Along : (I → C → Type 0) → List I → C → Type 0
  Along P [] c = Unit {0}
  Along P (i ∷ is) c = P i c × Along P is (next i c)

  -- the tally of what is told of them
  abbrev pub tally : (I → C → Event) → List I → C → Tally → Tally
  tally told [] c t = t
  tally told (i ∷ is) c t = tally told is (next i c) (feed (told i c) t)

  -- the messages queued, in order
  abbrev pub history : (I → C → Event) → List I → C → List Message
  history told [] c = []
  history told (i ∷ is) c = messages_told (told i c) ++ history told is (next i c)
