-- The sender's byte ledger as sender.rs keeps it: modules 3 and 6 of document 01, and module 5 as far as it settles a burst: what follows the code or serves proofs; nothing here has to be believed.
use Rattle.std.specs.Prelude.{ℕ, ◌+◌, false, List, [], map, length}
use Rattle.ledger.specs.Ledger.{Piece, Sent, Sender, len, find, Frame}

-- `Station::new`
abbrev pub fresh_ledger : Sender
fresh_ledger = record { waiting = []; next = 0; acked = 0; pieces = []; held = []; rest = []; sent = []; awaited = false; number = 0 }

-- bytes taken in all: "the next offset plus waiting"
abbrev pub taken_of : Sender → ℕ
taken_of s = s.next + length s.waiting

abbrev pub frames : List Piece → List Sent → List Frame
frames ps fs = map (λ (f : Sent). record { off = f.off; len = length (find f.off ps) }) fs
