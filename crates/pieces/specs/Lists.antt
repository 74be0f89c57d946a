-- Lists side by side, and a burst's slots, as the ledger's entries. Definitions only.
use Rattle.std.specs.Prelude.{List, [], ◌∷◌, ℕ}
use Rattle.ledger.specs.Ledger.{Held, Sent}

-- offsets and held bits; as many as the shorter list has
abbrev pub held_of : List ℕ → List ℕ → List Held
held_of [] bs = []
held_of (o ∷ os) [] = []
held_of (o ∷ os) (b ∷ bs) = record { off = o; bits = b } ∷ held_of os bs

-- offsets, bits and held bits; as many as the shortest list has
abbrev pub sent_of : List ℕ → List ℕ → List ℕ → List Sent
sent_of [] bs hs = []
sent_of (o ∷ os) [] hs = []
sent_of (o ∷ os) (b ∷ bs) [] = []
sent_of (o ∷ os) (b ∷ bs) (h ∷ hs) = record { off = o; bits = b; held = h } ∷ sent_of os bs hs
