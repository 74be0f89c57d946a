-- What demand 3 says of an offset: the pieces that cover it, whether it flies or is acknowledged, whether a reply settles it. Definitions only.
use Rattle.std.specs.Prelude.{ℕ, zero, suc, ◌+◌, Bool, false, cond, ◌&&◌, ◌||◌, List, [], ◌∷◌, eqb, length}
use Rattle.laws.specs.Lists.{one}
use Rattle.ledger.specs.Reply.{Reply}
use Rattle.ledger.specs.Ledger.{Piece, Frame, len}
use Rattle.ledger.specs.Tally.{Flown, Outstanding, nothing, outstanding, Event, silent, took, reply, replies, turn, went, within}

-- how many pieces cover offset o
abbrev pub covering : ℕ → List Piece → ℕ
covering o [] = 0
covering o (p ∷ ps) = one (within p.off (len p) o) + covering o ps

-- 1 where offset o is in flight, else 0
abbrev pub flying_at : ℕ → List Flown → ℕ
flying_at o [] = 0
flying_at zero (f ∷ fl) = cond f.acked 0 1
flying_at (suc o) (f ∷ fl) = flying_at o fl

-- whether offset o is acknowledged
abbrev pub acked_at : ℕ → List Flown → Bool
acked_at o [] = false
acked_at zero (f ∷ fl) = f.acked
acked_at (suc o) (f ∷ fl) = acked_at o fl

-- a frame that has offset o and whose bit is set, the first frame at place i
abbrev pub bit_over : (ℕ → Bool) → ℕ → List Frame → ℕ → Bool
bit_over b i [] o = false
bit_over b i (f ∷ fs) o = (b i && within f.off f.len o) || bit_over b (suc i) fs o

-- a reply that bears the outstanding burst's number sets the bit of a frame that has offset o
abbrev pub named : Reply → Outstanding → ℕ → Bool
named r nothing o = false
named r (outstanding n fs) o = eqb r.number n && bit_over (r.bit (length fs)) 0 fs o

-- one of several acks does, each after the one before it: any ack leaves none outstanding
abbrev pub any_named : List Reply → Outstanding → ℕ → Bool
any_named [] out o = false
any_named (r ∷ rs) out o = named r out o || any_named rs nothing o

abbrev pub settled_by : Event → Outstanding → ℕ → Bool
settled_by silent out o = false
settled_by (took c l bs) out o = false
settled_by (reply r) out o = named r out o
settled_by (replies rs) out o = any_named rs out o
settled_by turn out o = false
settled_by (went n fs) out o = false
