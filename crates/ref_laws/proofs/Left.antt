-- What a walk has at exit of a parameter that it passed on to a callee for good, or that is plain data: what the contract says of its last
-- value, whatever its type is.
--     stay-left   it is had.        goes_left   the law for it (denote.Triple.Walked's `Goes`)
--     asks        what a callee with no `requires` asks, from what its parameters own
use Prim.Native.Nat.{ℕ}
use seplogic.Ra.Ura.{Ura}
use base.Logic.{SProp, ent, sep, emp, via, emp∗, comm∗}
use types.Logic.{Logic, sem}
use denote.Exit.{Kept, left}
use denote.Signature.{Slot}
use denote.Triple.Walked.{Stay, Goes}

abbrev pub stay-left : {n : ℕ} (s : Slot n) (k : Kept) → Stay s k
stay-left s k = record { fit = λ κs x f. Unit {0}; has = λ κs x f vs. left ((s.row κs).exit k) x f }

pub goes_left : {M : Type 1} {𝓤 : Ura M} (𝓛 : Logic 𝓤) (n : ℕ) (s : Slot n) (k : Kept) → Goes 𝓛 n s k (stay-left s k)
goes_left 𝓛 n s k κs x f vs fits = 𝓛.laws.⇛_intro (sem 𝓛 (left ((s.row κs).exit k) x f))

pub asks : {M : Type 1} (𝓤 : Ura M) (P : SProp 𝓤) → ent 𝓤 P (sep 𝓤 P (emp 𝓤))
asks 𝓤 P = via 𝓤 (sep 𝓤 (emp 𝓤) P) (emp∗ 𝓤 P) (comm∗ 𝓤 (emp 𝓤) P)
